-- Two segments along one line that have a common point: an end of one is of the other.
use Rattle.std.proofs.Common.{ap, arith, inl, inr, pos, sym, ℤ, ◌*ℤ◌, ◌+ℤ◌, ◌-ℤ◌, ◌<ℤ◌, ◌≡◌, ◌≤ℤ◌, ◌⊎◌}
use Rattle.std.proofs.lemmas.Int.{by_lt_z, ints}
use Rattle.noding.proofs.SnapLemmas.Numbers.{below_of, n_of}
use Rattle.plane.proofs.MeetLemmas.Identities.{at_most_of, minus, number, plus, same_of, times}
use Rattle.plane.proofs.SweepLineLemmas.Gaps.{product_above}

-- One mean of p1 and p2, and one of s1 and s2, are the same; both have some of each.
pub record Common (w1 w2 w3 w4 p1 p2 s1 s2 : ℤ) : Type 0 where
  pub same : ((w4 *ℤ p1) +ℤ (w3 *ℤ p2)) ≡ ((w2 *ℤ s1) +ℤ (w1 *ℤ s2))

-- All four weights are positive, and those of each mean add up to the same.
pub record Weights (w1 w2 w3 w4 : ℤ) : Type 0 where
  pub some1 : pos 0 <ℤ w1
  pub some2 : pos 0 <ℤ w2
  pub some3 : pos 0 <ℤ w3
  pub some4 : pos 0 <ℤ w4
  pub whole : (w1 +ℤ w2) ≡ (w3 +ℤ w4)

-- the one pair isn't all below the other
apart : (w1 w2 w3 w4 p1 p2 s1 s2 m : ℤ) → Weights w1 w2 w3 w4 → Common w1 w2 w3 w4 p1 p2 s1 s2 → p1 ≤ℤ m → p2 ≤ℤ m → m <ℤ s1 → m <ℤ s2 → ⊥
apart w1 w2 w3 w4 p1 p2 s1 s2 m weights common first second third fourth =
    let one = at_most_of (n_of 0) (times (number w4) (minus (number m) (number p1))) (product_above w4 (m -ℤ p1) (omega (arith, ints)) (omega (arith, ints))) in
    let two = at_most_of (n_of 0) (times (number w3) (minus (number m) (number p2))) (product_above w3 (m -ℤ p2) (omega (arith, ints)) (omega (arith, ints))) in
    let three = at_most_of (n_of 0) (times (number w2) (minus (minus (number s1) (number m)) (n_of 1))) (product_above w2 ((s1 -ℤ m) -ℤ pos 1) (omega (arith, ints)) (omega (arith, ints))) in
    let four = at_most_of (n_of 0) (times (number w1) (minus (minus (number s2) (number m)) (n_of 1))) (product_above w1 ((s2 -ℤ m) -ℤ pos 1) (omega (arith, ints)) (omega (arith, ints))) in
    let whole = same_of (times (plus (number w1) (number w2)) (number m)) (times (plus (number w3) (number w4)) (number m)) (ap (λ w. w *ℤ m) weights.whole) in
    let same = same_of (plus (times (number w4) (number p1)) (times (number w3) (number p2))) (plus (times (number w2) (number s1)) (times (number w1) (number s2))) common.same in
    let some1 = below_of (n_of 0) (number w1) weights.some1 in
    let some2 = below_of (n_of 0) (number w2) weights.some2 in
    omega (arith, one, two, three, four, whole, same, some1, some2)

-- s lies between p1 and p2, which aren't one
abbrev pub Within : ℤ → ℤ → ℤ → Type 0
Within p1 p2 s = (p1 ≤ℤ s) × (s ≤ℤ p2) × (p1 <ℤ p2) ⊎ (p2 ≤ℤ s) × (s ≤ℤ p1) × (p2 <ℤ p1)

-- One of the four lies between the two of the other pair.
abbrev pub SomeWithin : ℤ → ℤ → ℤ → ℤ → Type 0
SomeWithin p1 p2 s1 s2 = Within p1 p2 s1 ⊎ (Within p1 p2 s2 ⊎ (Within s1 s2 p1 ⊎ Within s1 s2 p2))

-- the pairs exchanged, and the ends of a pair
pub turned : (w1 w2 w3 w4 : ℤ) → Weights w1 w2 w3 w4 → Weights w3 w4 w1 w2
turned w1 w2 w3 w4 weights = record {
  some1 = weights.some3;
  some2 = weights.some4;
  some3 = weights.some1;
  some4 = weights.some2;
  whole = sym weights.whole;
}

ends : (w1 w2 w3 w4 : ℤ) → Weights w1 w2 w3 w4 → Weights w1 w2 w4 w3
ends w1 w2 w3 w4 weights = record {
  some1 = weights.some1;
  some2 = weights.some2;
  some3 = weights.some4;
  some4 = weights.some3;
  whole = omega (arith, ints, weights.whole);
}

pub common_turned : (w1 w2 w3 w4 p1 p2 s1 s2 : ℤ) → Common w1 w2 w3 w4 p1 p2 s1 s2 → Common w3 w4 w1 w2 s1 s2 p1 p2
common_turned w1 w2 w3 w4 p1 p2 s1 s2 common = record { same = sym common.same }

common_ends : (w1 w2 w3 w4 p1 p2 s1 s2 : ℤ) → Common w1 w2 w3 w4 p1 p2 s1 s2 → Common w1 w2 w4 w3 p2 p1 s1 s2
common_ends w1 w2 w3 w4 p1 p2 s1 s2 common = record { same = omega (arith, ints, common.same) }

-- where p1 is below p2
rising : (w1 w2 w3 w4 p1 p2 s1 s2 : ℤ) → Weights w1 w2 w3 w4 → Common w1 w2 w3 w4 p1 p2 s1 s2 → p1 <ℤ p2 → SomeWithin p1 p2 s1 s2
rising w1 w2 w3 w4 p1 p2 s1 s2 weights common up =
    by_lt_z s1 p1
    (λ before. by_lt_z s2 p1
    (λ also. absurd (apart w3 w4 w1 w2 s1 s2 p1 p2 (p1 -ℤ pos 1) (turned w1 w2 w3 w4 weights) (common_turned w1 w2 w3 w4 p1 p2 s1 s2 common) (omega (arith, ints)) (omega (arith, ints)) (omega (arith, ints)) (omega (arith, ints))))
    (λ after. inr (inr (inl (inl (omega (arith, ints), after, omega (arith, ints)))))))
    (λ after. by_lt_z p2 s1
    (λ past. by_lt_z p2 s2
    (λ also. absurd (apart w1 w2 w3 w4 p1 p2 s1 s2 p2 weights common (omega (arith, ints)) (omega (arith, ints)) past also))
    (λ back. inr (inr (inr (inr (back, omega (arith, ints), omega (arith, ints)))))))
    (λ upto. inl (inl (after, upto, up))))

exchanged : (p1 p2 s : ℤ) → Within p1 p2 s → Within p2 p1 s
exchanged p1 p2 s (inl up) = inr up
exchanged p1 p2 s (inr down) = inl down

-- two pairs with a common mean: one of the four numbers is between two others
pub some_within : (w1 w2 w3 w4 p1 p2 s1 s2 : ℤ) → Weights w1 w2 w3 w4 → Common w1 w2 w3 w4 p1 p2 s1 s2 → (p1 ≡ p2 → ⊥) → SomeWithin p1 p2 s1 s2
some_within w1 w2 w3 w4 p1 p2 s1 s2 weights common differ =
    by_lt_z p1 p2
    (λ up. rising w1 w2 w3 w4 p1 p2 s1 s2 weights common up)
    (λ down.
    let less : p2 <ℤ p1 = by_lt_z p2 p1 (λ h. h) (λ h. absurd (differ (omega (arith, ints)))) in
    elim (rising w1 w2 w4 w3 p2 p1 s1 s2 (ends w1 w2 w3 w4 weights) (common_ends w1 w2 w3 w4 p1 p2 s1 s2 common) less) [
      | inl first ↦ inl (exchanged p2 p1 s1 first)
      | inr (inl second) ↦ inr (inl (exchanged p2 p1 s2 second))
      | inr (inr (inl third)) ↦ inr (inr (inr third))
      | inr (inr (inr fourth)) ↦ inr (inr (inl fourth))
    ])
