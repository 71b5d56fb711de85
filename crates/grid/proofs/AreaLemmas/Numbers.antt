-- Numbers in places of 32 bits.
use Rattle.std.proofs.Common.{◌≡◌, ℕ, zero, suc, ◌+◌, ◌*◌, ◌/◌, ◌%◌, ◌^◌, ◌<◌, ◌≤◌, inl, inr, List, [], ◌∷◌, length, get_or, set, ◌-◌, refl, lit<, sym, ◌∙◌, ap, arith, get_or-set_other, get_or-set_same, length-set, ◌≢◌}
use Rattle.std.proofs.lemmas.Bool.{cases_eq}
use Rattle.std.proofs.lemmas.Nat.{pow-add, mul-le}
use Rattle.std.proofs.Math.Nat.{pow-le-pow_right}
use Rattle.grid.specs.Places.{number_of}

-- A place counts 2 ^ 32 times as much as the one before.
next_weight : (k : ℕ) → 2 ^ (32 * suc k) ≡ 2 ^ 32 * 2 ^ (32 * k)
next_weight k = let e : 32 * suc k ≡ 32 + 32 * k = omega arith in ap (λ (n : ℕ). 2 ^ n) e ∙ pow-add 2 32 (32 * k)

carried_up : (place rest extra weight : ℕ) → place + 2 ^ 32 * (rest + extra * weight) ≡ place + 2 ^ 32 * rest + extra * (2 ^ 32 * weight)
carried_up place rest extra weight = omega arith

-- What a place gains, the number gains as often as the place counts.
pub number_of-set : (places : List ℕ) (k extra : ℕ) → k < length places → number_of (set places k (get_or places k 0 + extra)) ≡ number_of places + extra * 2 ^ (32 * k)
number_of-set [] k extra h = absurd (omega arith)
number_of-set (place ∷ rest) zero extra h = omega arith
number_of-set (place ∷ rest) (suc k) extra h =
    let below : k < length rest = omega arith in
    ap (λ (n : ℕ). place + 2 ^ 32 * n) (number_of-set rest k extra below)
    ∙ carried_up place (number_of rest) extra (2 ^ (32 * k))
    ∙ ap (λ (n : ℕ). place + 2 ^ 32 * number_of rest + extra * n) (sym (next_weight k))

-- The number 0 has nothing in any place.
pub number_of-none : (places : List ℕ) → number_of places ≡ 0 → (k : ℕ) → get_or places k 0 ≡ 0
number_of-none [] h k = refl
number_of-none (place ∷ rest) h zero = omega arith
number_of-none (place ∷ rest) h (suc k) =
    let none : number_of rest ≡ 0 = omega arith in number_of-none rest none k

weight_of : (e q s : ℕ) → e ≡ s + 32 * q → 2 ^ e ≡ 2 ^ s * 2 ^ (32 * q)
weight_of e q s h = ap (λ (n : ℕ). 2 ^ n) h ∙ pow-add 2 s (32 * q)

two_places_up : (q : ℕ) → 2 ^ (32 * (q + 2)) ≡ 2 ^ (32 * q) * 2 ^ 64
two_places_up q = let e : 32 * (q + 2) ≡ 32 * q + 64 = omega arith in ap (λ (n : ℕ). 2 ^ n) e ∙ pow-add 2 (32 * q) 64

parted : (low high shift weight base : ℕ) → low * shift * weight + high * shift * (weight * base) ≡ (high * base + low) * (shift * weight)
parted low high shift weight base = omega arith

-- The lower half of a product at its place, and the rest two places further, are the whole.
pub halves : (product e : ℕ) → product % 2 ^ 64 * 2 ^ (e % 32) * 2 ^ (32 * (e / 32)) + product / 2 ^ 64 * 2 ^ (e % 32) * 2 ^ (32 * (e / 32 + 2)) ≡ product * 2 ^ e
halves product e =
    let whole : product ≡ product / 2 ^ 64 * 2 ^ 64 + product % 2 ^ 64 = omega arith in
    let split : e ≡ e % 32 + 32 * (e / 32) = omega arith in
    ap (λ (n : ℕ). product % 2 ^ 64 * 2 ^ (e % 32) * 2 ^ (32 * (e / 32)) + product / 2 ^ 64 * 2 ^ (e % 32) * n) (two_places_up (e / 32))
    ∙ parted (product % 2 ^ 64) (product / 2 ^ 64) (2 ^ (e % 32)) (2 ^ (32 * (e / 32))) (2 ^ 64)
    ∙ ap (λ (n : ℕ). n * (2 ^ (e % 32) * 2 ^ (32 * (e / 32)))) (sym whole)
    ∙ ap (λ (n : ℕ). product * n) (sym (weight_of e (e / 32) (e % 32) split))

-- Less than 64 bits, moved by less than 32.
moved-lt : (half s : ℕ) → half < 2 ^ 64 → s < 32 → half * 2 ^ s < 2 ^ 95
moved-lt half s h k =
    let shift : 2 ^ s ≤ 2 ^ 31 = pow-le-pow_right {n = 2} (lit< tt) {i = s} {j = 31} (omega arith) in
    let bound : half * 2 ^ s ≤ (2 ^ 64 - 1) * 2 ^ 31 = mul-le half (2 ^ s) (2 ^ 64 - 1) (2 ^ 31) (omega arith) shift in
    omega (arith, bound)

pub moved-is : (half s power : ℕ) → power ≡ 2 ^ s → half * power ≡ half * 2 ^ s
moved-is half s power e = ap (λ (n : ℕ). half * n) e

pub moved-le : (half s power : ℕ) → half < 2 ^ 64 → s < 32 → power ≡ 2 ^ s → half * power ≤ 2 ^ 95
moved-le half s power h k e = omega (arith, moved-is half s power e, moved-lt half s h k)

-- What a place gains, and the others don't.
set-same : (places : List ℕ) (p extra : ℕ) → p < length places → get_or (set places p (get_or places p 0 + extra)) p 0 ≡ get_or places p 0 + extra
set-same places p extra h = get_or-set_same places p (get_or places p 0 + extra) 0 h

set-other : (places : List ℕ) (p value k : ℕ) → k ≢ p → get_or (set places p value) k 0 ≡ get_or places k 0
set-other places p value k h = get_or-set_other places p k value 0 h

-- What both halves add to a place: they go to two places.
pub halves-bound : (places : List ℕ) (p q low high bound : ℕ) → p < q → q < length places → low ≤ bound → high ≤ bound → (k : ℕ) → get_or (set (set places p (get_or places p 0 + low)) q (get_or (set places p (get_or places p 0 + low)) q 0 + high)) k 0 ≤ get_or places k 0 + bound
halves-bound places p q low high bound h l m j k =
    let long : q < length (set places p (get_or places p 0 + low)) = omega (arith, length-set places p (get_or places p 0 + low)) in
    elim (cases_eq k q) [
      | inl same ↦
          let e : get_or (set (set places p (get_or places p 0 + low)) q (get_or (set places p (get_or places p 0 + low)) q 0 + high)) q 0 ≡ get_or (set places p (get_or places p 0 + low)) q 0 + high = set-same (set places p (get_or places p 0 + low)) q high long in
          let f : get_or (set places p (get_or places p 0 + low)) q 0 ≡ get_or places q 0 = set-other places p (get_or places p 0 + low) q (λ (w : q ≡ p). absurd (omega arith)) in
          rw same (omega (arith, e, f))
      | inr apart ↦
          let e : get_or (set (set places p (get_or places p 0 + low)) q (get_or (set places p (get_or places p 0 + low)) q 0 + high)) k 0 ≡ get_or (set places p (get_or places p 0 + low)) k 0 = set-other (set places p (get_or places p 0 + low)) q (get_or (set places p (get_or places p 0 + low)) q 0 + high) k apart in
          elim (cases_eq k p) [
            | inl first ↦
                let f : get_or (set places p (get_or places p 0 + low)) p 0 ≡ get_or places p 0 + low = set-same places p low (omega arith) in
                let g : get_or (set places p (get_or places p 0 + low)) k 0 ≡ get_or places k 0 + low = rw first f in
                omega (arith, e, g)
            | inr other ↦ omega (arith, e, set-other places p (get_or places p 0 + low) k other)
          ]
    ]

added-halves : (places : List ℕ) (p q low high : ℕ) → p < length places → q < length places → number_of (set (set places p (get_or places p 0 + low)) q (get_or (set places p (get_or places p 0 + low)) q 0 + high)) ≡ number_of places + (low * 2 ^ (32 * p) + high * 2 ^ (32 * q))
added-halves places p q low high h k =
    let long : q < length (set places p (get_or places p 0 + low)) = omega (arith, length-set places p (get_or places p 0 + low)) in
    omega (arith, number_of-set (set places p (get_or places p 0 + low)) q high long, number_of-set places p low h)

-- Both halves of a product at their places are the whole of it.
pub added-product : (places : List ℕ) (product e low high : ℕ) → low ≡ product % 2 ^ 64 * 2 ^ (e % 32) → high ≡ product / 2 ^ 64 * 2 ^ (e % 32) → e / 32 + 2 < length places → number_of (set (set places (e / 32) (get_or places (e / 32) 0 + low)) (e / 32 + 2) (get_or (set places (e / 32) (get_or places (e / 32) 0 + low)) (e / 32 + 2) 0 + high)) ≡ number_of places + product * 2 ^ e
added-product places product e low high is also h =
    added-halves places (e / 32) (e / 32 + 2) low high (omega arith) h
    ∙ ap (λ (n : ℕ). number_of places + n)
    (ap (λ (n : ℕ). n * 2 ^ (32 * (e / 32)) + high * 2 ^ (32 * (e / 32 + 2))) is
    ∙ ap (λ (n : ℕ). product % 2 ^ 64 * 2 ^ (e % 32) * 2 ^ (32 * (e / 32)) + n * 2 ^ (32 * (e / 32 + 2))) also
    ∙ halves product e)
