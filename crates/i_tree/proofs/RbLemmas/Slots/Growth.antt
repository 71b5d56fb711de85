-- Slots that are added to the arena: the tree stays, and the new slots are free.
use Rattle.std.proofs.Common.{◌≡◌, ℕ, zero, suc, ◌+◌, ◌-◌, ◌<◌, ◌≤◌, List, [], ◌∷◌, ◌++◌, Some, length, slice_get, refl, sym, ap, ◌∙◌, subst, arith}
use Rattle.std.proofs.lemmas.Bool.Decides.{nat_tests}
use Rattle.i_tree.specs.declared.TheConstants.{EMPTY_REF}
use Rattle.i_tree.specs.declared.rb.links.Slot.{Slot}
use Rattle.i_tree.specs.declared.rb.links.Slot.TheVariants.{Free}
use Rattle.i_tree.specs.Rb.Shape.{Shape, leaf, fork, one_if_same}
use Rattle.i_tree.specs.Rb.Slots.{IsAt, IsChain, IsSound, occurs_in, one_if_slot}
use Rattle.i_tree.specs.Rb.FreeSlots.{Keeps, with_numbers}

-- a list with one more item
pub slice_get-append_kept : {X : Type 0} (xs ys : List X) (i : ℕ) (x : X) → slice_get xs i ≡ Some x → slice_get (xs ++ ys) i ≡ Some x
slice_get-append_kept [] ys i x is = cc
slice_get-append_kept (y ∷ xs) ys zero x is = is
slice_get-append_kept (y ∷ xs) ys (suc i) x is = slice_get-append_kept xs ys i x is

pub slice_get-append_end : {X : Type 0} (xs : List X) (i : ℕ) (x : X) → i ≡ length xs → slice_get (xs ++ x ∷ []) i ≡ Some x
slice_get-append_end [] zero x is = refl
slice_get-append_end [] (suc i) x is = absurd (omega arith)
slice_get-append_end (y ∷ xs) zero x is = absurd (omega arith)
slice_get-append_end (y ∷ xs) (suc i) x is = slice_get-append_end xs i x (omega arith)

pub with_numbers-more : (first number : ℕ) (others : List ℕ) → first ≤ number → with_numbers first (number + 1 - first) others ≡ number ∷ with_numbers first (number - first) others
with_numbers-more first number others below = grind arith

pub length-with_numbers : (first count : ℕ) (others : List ℕ) → length (with_numbers first count others) ≡ count + length others
length-with_numbers first zero others = omega arith
length-with_numbers first (suc count) others = omega (arith, length-with_numbers first count others)

-- one slot more
pub one_if_slot-first : (handle : ℕ) → one_if_slot 1 handle ≡ 0
one_if_slot-first handle = grind (arith, nat_tests)

pub one_if_slot-more : (count handle : ℕ) → 0 < count → one_if_slot (suc count) handle ≡ one_if_slot count handle + one_if_same handle count
one_if_slot-more count handle some = grind (arith, nat_tests)

pub occurs_in-with_numbers : (first count handle : ℕ) (others : List ℕ) → 0 < first
    → occurs_in handle (with_numbers first count others) + one_if_slot first handle ≡ one_if_slot (first + count) handle + occurs_in handle others
occurs_in-with_numbers first zero handle others some = let whole : first + 0 ≡ first = omega arith in omega (arith, ap (λ n. one_if_slot n handle) whole)
occurs_in-with_numbers first (suc count) handle others some =
    let whole : first + suc count ≡ suc (first + count) = omega arith in
    omega (arith, occurs_in-with_numbers first count handle others some, one_if_slot-more (first + count) handle (omega arith), ap (λ n. one_if_slot n handle) whole)

module _ {T : Type 0} where
  pub IsChain-kept : (old new : List (Slot T)) (first : ℕ) (chain : List ℕ) → Keeps old new → IsChain old first chain → IsChain new first chain
  IsChain-kept old new first [] kept linked = linked
  IsChain-kept old new first (handle ∷ rest) kept linked =
      (linked.0, (linked.1.0, kept handle (Free linked.1.0) linked.1.1, IsChain-kept old new linked.1.0 rest kept linked.1.2))

  pub IsAt-kept : (old new : List (Slot T)) (above : ℕ) (tree : Shape T) → Keeps old new → IsAt old above tree → IsAt new above tree
  IsAt-kept old new above leaf kept at = tt
  IsAt-kept old new above (fork shade before own item after) kept at =
      (kept own _ at.0, IsAt-kept old new own before kept at.1, IsAt-kept old new own after kept at.2)

  -- one more free slot at the end
  pub Keeps-push : (old now new : List (Slot T)) (slot : Slot T) → new ≡ now ++ slot ∷ [] → Keeps old now → Keeps old new
  Keeps-push old now new slot pushed kept handle held is =
      ap (λ list. slice_get list handle) pushed ∙ slice_get-append_kept now (slot ∷ []) handle held (kept handle held is)

  pub chain-push : (now new : List (Slot T)) (base number first : ℕ) (others : List ℕ) → new ≡ now ++ Free first ∷ [] → number ≡ length now → base ≤ number
      → IsChain now first (with_numbers base (number - base) others) → IsChain new number (with_numbers base (number + 1 - base) others)
  chain-push now new base number first others pushed last below linked =
      let Linked : List ℕ → Type 0 = λ chain. IsChain new number chain in
      let at : slice_get new number ≡ Some (Free first) = ap (λ list. slice_get list number) pushed ∙ slice_get-append_end now number (Free first) last in
      let kept : Keeps now new = Keeps-push now now new (Free first) pushed (λ handle slot is. is) in
      subst Linked (sym (with_numbers-more base number others below)) (refl, (first, at, IsChain-kept now new first (with_numbers base (number - base) others) kept linked))

  -- sound slots with more free ones
  pub sound-grown : (old new : List (Slot T)) (root first now_first free size count : ℕ) (tree : Shape T) → IsSound old root first free tree → Keeps old new
      → ((chain : List ℕ) → IsChain old first chain → IsChain new now_first (with_numbers size (count - size) chain))
      → size ≡ length old → length new ≡ count → size ≤ count → count ≤ EMPTY_REF
      → IsSound new root now_first (free + (count - size)) tree
  sound-grown old new root first now_first free size count tree sound kept linked is_size as_many below few =
      let some : 0 < size = omega (arith, sound.total) in
      let whole : size + (count - size) ≡ length new = omega arith in
      record {
        at = IsAt-kept old new EMPTY_REF tree kept sound.at;
        root_is = sound.root_is;
        chain = with_numbers size (count - size) sound.chain;
        linked = linked sound.chain sound.linked;
        counted = omega (arith, sound.counted, length-with_numbers size (count - size) sound.chain);
        each_once = λ handle. omega (
          arith,
          sound.each_once handle,
          occurs_in-with_numbers size (count - size) handle sound.chain some,
          ap (λ n. one_if_slot n handle) whole,
          ap (λ n. one_if_slot n handle) is_size,
        );
        total = omega (arith, sound.total);
        few = omega arith;
        reserved = kept 0 (Free EMPTY_REF) sound.reserved;
      }

  -- the reserved slot alone
  pub sound_first : IsSound {T = T} (Free EMPTY_REF ∷ []) EMPTY_REF EMPTY_REF 0 leaf
  sound_first = grind (arith, one_if_slot-first)

  -- the slots of an arena without nodes
  pub sound-made : (old new : List (Slot T)) (first size count : ℕ) → old ≡ Free EMPTY_REF ∷ [] → Keeps old new
      → ((chain : List ℕ) → IsChain old EMPTY_REF chain → IsChain new first (with_numbers size (count - size) chain))
      → size ≡ length old → length new ≡ count → 0 < count → count ≤ EMPTY_REF
      → IsSound new EMPTY_REF first (count - 1) leaf
  sound-made old new first size count is kept linked is_size as_many some few =
      let Begins : List (Slot T) → Type 0 = λ list. IsSound list EMPTY_REF EMPTY_REF 0 leaf in
      let Has : ℕ → Type 0 = λ free. IsSound new EMPTY_REF first free leaf in
      let one : size ≡ 1 = is_size ∙ ap length is in
      let spare : 0 + (count - size) ≡ count - 1 = omega arith in
      subst Has spare (sound-grown old new EMPTY_REF EMPTY_REF first 0 size count leaf (subst Begins (sym is) sound_first) kept linked is_size as_many (omega arith) few)
