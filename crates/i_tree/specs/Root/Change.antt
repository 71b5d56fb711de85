-- How a call changes a list of pairs.
use Rattle.std.specs.Prelude.{◌≡◌, ◌≤◌, ℕ, Bool, List, [], ◌∷◌, length, MatchBool}
use Rattle.std.specs.List.{insert}

module _ {X : Type 0} where
  -- `after` is `before` without some items that may go, the others in their order
  pub data Without (MayGo : X → Type 0) : List X → List X → Type 0 where
    none : Without MayGo [] []
    keeps : {before after : List X} → (x : X) → Without MayGo before after → Without MayGo (x ∷ before) (x ∷ after)
    loses : {before after : List X} → (x : X) → MayGo x → Without MayGo before after → Without MayGo (x ∷ before) after

  -- the item stands in the list at some place, and the others are as they were
  abbrev pub Joins : X → List X → List X → Type 0
  Joins x before after = (place : ℕ) × (place ≤ length before) × (after ≡ insert before place x)

  -- some items that may go are gone, and the item has joined the others
  abbrev pub Gains : (X → Type 0) → X → List X → List X → Type 0
  Gains MayGo x before after = (kept : List X) × Without MayGo before kept × Joins x kept after

  -- where it was new the item has joined so, and else only items that may go are gone
  abbrev pub GainsOrLoses : (X → Type 0) → Bool → X → List X → List X → Type 0
  GainsOrLoses MayGo is_new x before after = MatchBool is_new (Gains MayGo x before after) (Without MayGo before after)
