-- A tree stored as a list, as the model of a type needs it: the nodes by their tops, each behind its subtrees.
use Rattle.std.specs.Prelude.{◌≡◌, refl, ℕ, Bool, true, false, List, [], ◌∷◌, ◌++◌, Option, Some, None}
use Rattle.std.proofs.Common.{◌∙◌, ap}
use Rattle.std.specs.Coded.{Coded, code_by, coded×, coded_ℕ, coded_bool, coded_list, coded_option}
use Rattle.i_tree.specs.declared.rb.links.Colour.{Colour}
use Rattle.i_tree.specs.declared.rb.links.Colour.TheVariants.{Red, Black}
use Rattle.i_tree.specs.Rb.Shape.{Shape, leaf, fork}

abbrev is_red : Colour → Bool
is_red Red = true
is_red Black = false

abbrev colour_of : Bool → Colour
colour_of true = Red
colour_of false = Black

pub colour_is : (colour : Colour) → colour_of (is_red colour) ≡ colour
colour_is Red = refl
colour_is Black = refl

abbrev Word : Type 0 → Type 0
Word T = Option (Bool × (ℕ × T))

module _ {T : Type 0} where
  abbrev written : Shape T → List (Word T)
  written leaf = None ∷ []
  written (fork colour before handle item after) =
      written before ++ (written after ++ (Some (is_red colour, (handle, item)) ∷ []))

  -- a node read onto a stack, above its subtrees
  abbrev join : Bool × (ℕ × T) → List (Shape T) → List (Shape T)
  join word [] = []
  join word (_ ∷ []) = []
  join word (after ∷ before ∷ stack) = fork (colour_of word.0) before word.1.0 word.1.1 after ∷ stack

  abbrev read_word : Word T → List (Shape T) → List (Shape T)
  read_word None stack = leaf ∷ stack
  read_word (Some word) stack = join word stack

  abbrev read_words : List (Word T) → List (Shape T) → List (Shape T)
  read_words [] stack = stack
  read_words (word ∷ words) stack = read_words words (read_word word stack)

  abbrev first_tree : List (Shape T) → Shape T
  first_tree [] = leaf
  first_tree (tree ∷ _) = tree

  abbrev read_back : List (Word T) → Shape T
  read_back words = first_tree (read_words words [])

  pub read_words-append : (first second : List (Word T)) (stack : List (Shape T)) → read_words (first ++ second) stack ≡ read_words second (read_words first stack)
  read_words-append [] second stack = refl
  read_words-append (word ∷ first) second stack = read_words-append first second (read_word word stack)

  pub read_words-written : (tree : Shape T) (stack : List (Shape T)) → read_words (written tree) stack ≡ tree ∷ stack
  read_words-written leaf stack = refl
  read_words-written (fork colour before handle item after) stack =
      let last : List (Word T) = Some (is_red colour, (handle, item)) ∷ [] in
      read_words-append (written before) (written after ++ last) stack
      ∙ ap (λ under. read_words (written after ++ last) under) (read_words-written before stack)
      ∙ read_words-append (written after) last (before ∷ stack)
      ∙ ap (λ under. read_words last under) (read_words-written after (before ∷ stack))
      ∙ ap (λ shade. fork shade before handle item after ∷ stack) (colour_is colour)

  pub read_back-written : (tree : Shape T) → read_back (written tree) ≡ tree
  read_back-written tree = ap first_tree (read_words-written tree [])

  -- a tree is stored as its words
  abbrev pub shape_code : Coded T → Coded (Shape T)
  shape_code code =
      code_by (List (Word T)) (coded_list (coded_option (coded× coded_bool (coded× coded_ℕ code)))) written read_back read_back-written
