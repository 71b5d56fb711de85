-- Where a pair joins a status, and when it doesn't.
use Rattle.std.specs.Prelude.{◌≡◌, Bool, false, List, ◌∷◌, ◌++◌, All, filter, MatchBool}
use Rattle.std.specs.declared.cmp.Ordering.{Ordering}
use Rattle.std.specs.declared.cmp.Ordering.TheVariants.{Less, Greater}
use Rattle.i_tree.specs.Root.Along.{ByEachOrder, HasEqual, NoneEqual}
use Rattle.i_tree.specs.Root.Change.{Without}

module _ {K V : Type 0} where
  -- by each order that the closure answers by, none is called Equal where it was new, and else some pair is
  abbrev pub IsNew : (K → Ordering → Type 0) → Bool → List (K × V) → Type 0
  IsNew may_answer is_new pairs =
      ByEachOrder may_answer pairs (λ order. MatchBool is_new (NoneEqual order pairs) (HasEqual order pairs))

  -- `is_live` says which keys are live, and `may_answer` how a key may be called by what joins.
  module _ (is_live : K → Bool) (may_answer : K → Ordering → Type 0) where
    -- Some pairs that are not live are gone, and the pair has joined the others, behind all live ones that it is to stand behind
    -- and before all that it is to stand before: by each order those in front of it are called Less and those behind it Greater.
    pub record JoinsAlong (pair : K × V) (before after : List (K × V)) : Type 0 where
      pub front : List (K × V)
      pub back : List (K × V)
      pub kept : Without (λ other. is_live other.0 ≡ false) before (front ++ back)
      pub place : after ≡ front ++ pair ∷ back
      pub between : ByEachOrder may_answer (filter (λ other. is_live other.0) before) (λ order.
          All (λ other. order other.0 ≡ Less) (filter (λ other. is_live other.0) front)
          × All (λ other. order other.0 ≡ Greater) (filter (λ other. is_live other.0) back))

    -- where it was new it has joined so, and else only pairs that are not live are gone
    abbrev pub JoinsOrLeaves : Bool → K × V → List (K × V) → List (K × V) → Type 0
    JoinsOrLeaves is_new pair before after =
        MatchBool is_new (JoinsAlong pair before after) (Without (λ other. is_live other.0 ≡ false) before after)
