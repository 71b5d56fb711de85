-- Comparisons of the sides of boxes, all of which are made.
use Rattle.std.proofs.Common.{◌≡◌, Bool, MatchBool, true, false, ◌&&◌, ◌≤ℤ◌, ℤ, refl, arith}
use Rattle.std.specs.Int.Signed.{le_z}
use Rattle.std.proofs.lemmas.Int.{ints}

-- Two comparisons tell, said of numbers that are the same.
pub upto_tested : (a b c d a' b' c' d' : ℤ) → a' ≡ a → b' ≡ b → c' ≡ c → d' ≡ d → MatchBool (le_z a' b' && le_z c' d') ((a ≤ℤ b) × (c ≤ℤ d)) (¬ ((a ≤ℤ b) × (c ≤ℤ d)))
upto_tested a b c d a' b' c' d' of_a of_b of_c of_d = by (le_z a' b') (le_z c' d') refl refl
  where
    by : (s t : Bool) → le_z a' b' ≡ s → le_z c' d' ≡ t → MatchBool (s && t) ((a ≤ℤ b) × (c ≤ℤ d)) (¬ ((a ≤ℤ b) × (c ≤ℤ d)))
    by true true one other = (omega (arith, ints, one, of_a, of_b), omega (arith, ints, other, of_c, of_d))
    by true false one other = λ both. (let said = both.1 in omega (arith, ints, said, other, of_c, of_d))
    by false t one other = λ both. (let said = both.0 in omega (arith, ints, said, one, of_a, of_b))
