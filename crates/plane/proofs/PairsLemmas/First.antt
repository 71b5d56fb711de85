-- The first of all pairs, or of some of them.
use Rattle.std.proofs.Common.{ℕ, List, [], ◌∷◌, ◌⊎◌, inl, inr, refl, arith}
use Rattle.std.specs.List.{slice_get}
use Rattle.std.specs.Option.{MatchOption}
use Rattle.plane.specs.Pairs.Pairs.{PairAt, ArePairs, AreMoreThan}

pub first_told : {X : Type 0} (Meeting : X → X → Type 0) (items : List X) (most : ℕ) (pairs : List (ℕ × ℕ)) → ArePairs Meeting items pairs ⊎ AreMoreThan Meeting items most pairs
    → MatchOption (slice_get pairs 0) ((i j : ℕ) → ¬ (PairAt Meeting items i j)) (λ pair. PairAt Meeting items pair.0 pair.1)
first_told Meeting items most [] (inl are) = λ i j meet. absurd (let (k, within, is) = (are.exact i j).1 meet in omega (arith, within))
first_told Meeting items most [] (inr some) = λ i j meet. absurd (let above = some.more in omega (arith, above))
first_told Meeting items most (pair ∷ pairs) (inl are) = (are.exact pair.0 pair.1).0 (0, omega arith, refl)
first_told Meeting items most (pair ∷ pairs) (inr some) = some.of 0 pair (omega arith)
