-- Tests that are computed for each bucket and for each interval.
use Rattle.std.proofs.Common.{◌≡◌, ℕ, zero, suc, ◌<◌, ◌≤◌, Bool, true, false, not, ◌&&◌, nat_eq, List, get_or, arith, subst, inl, inr}
use Rattle.std.proofs.lemmas.Bool.{cases_lt, and_parts}
use Rattle.std.proofs.lemmas.Bool.Decides.{nat_tests}

-- the test passes at each number below a bound
unfoldable pub every_below : ℕ → (ℕ → Bool) → Bool
every_below zero test = true
every_below (suc number) test = test number && every_below number test

-- the test passes at each interval of buckets
unfoldable pub every_interval : (ℕ → ℕ → Bool) → Bool
every_interval test = every_below 32 (λ last. every_below (suc last) (λ first. test first last))

pub every_below-at : (bound : ℕ) (test : ℕ → Bool) → every_below bound test ≡ true → (number : ℕ) → number < bound → test number ≡ true
unfolding every_below
every_below-at zero test all number below = absurd (omega arith)
every_below-at (suc bound) test all number below =
    elim (cases_lt number bound) [
      | inl less ↦ every_below-at bound test ((and_parts (test bound) (every_below bound test) all).1) number less
      | inr upto ↦ subst (λ (at : ℕ). test at ≡ true) (let same : bound ≡ number = omega arith in same) (and_parts (test bound) (every_below bound test) all).0
    ]

pub every_interval-at : (test : ℕ → ℕ → Bool) → every_interval test ≡ true → (first last : ℕ) → first ≤ last → last < 32 → test first last ≡ true
unfolding every_interval
every_interval-at test all first last order within =
    every_below-at (suc last) (λ (low : ℕ). test low last)
    (every_below-at 32 (λ (high : ℕ). every_below (suc high) (λ (low : ℕ). test low high)) all last within)
    first (omega arith)

pub nat_eq-is : (a b : ℕ) → nat_eq a b ≡ true → a ≡ b
nat_eq-is a b equal = grind (arith, nat_tests)

-- a table has at each of its words what it is said to have
pub word_is : (words : List ℕ) (word : ℕ → ℕ) → every_below 32 (λ bucket. nat_eq (get_or words bucket 0) (word bucket)) ≡ true → (bucket : ℕ) → bucket < 32 → get_or words bucket 0 ≡ word bucket
word_is words word all bucket within =
    nat_eq-is (get_or words bucket 0) (word bucket) (every_below-at 32 (λ (at : ℕ). nat_eq (get_or words at 0) (word at)) all bucket within)

-- two tests have one answer
abbrev pub same : Bool → Bool → Bool
same true other = other
same false other = not other

pub same-is : (one other : Bool) → same one other ≡ true → one ≡ other
same-is one other yes_same = grind arith
