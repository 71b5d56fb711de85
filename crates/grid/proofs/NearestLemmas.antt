-- The nearest whole number of units, over whole numbers of either sign.
use Rattle.std.proofs.Common.{◌≡◌, ◌∙◌, ℕ, ◌+◌, ◌-◌, ◌*◌, ◌^◌, ◌<◌, ◌≤◌, ◌%◌, ℤ, pos, negsuc, ◌-ℤ◌, ◌*ℤ◌, neg_ℤ, zero, suc, Bool, true, false, cond, inl, inr, arith, ap, subst, refl}
use Rattle.std.specs.Int.RustNames.{unsigned_abs}
use Rattle.std.proofs.lemmas.Int.{ints}
use Rattle.std.proofs.lemmas.Nat.{mul-le}
use Rattle.std.proofs.lemmas.Bool.{cases_lt}
use Rattle.grid.specs.Rounding.{RoundsTo}
use Rattle.grid.specs.Grid.{IsNearest}
use borrow.Author.Differences.{up, down, same_in, product_is, neg_is}

-- two whole numbers, one of which is the other's negative, are as far from 0
unsigned_abs-neg : (n : ℕ) → unsigned_abs (neg_ℤ (pos n)) ≡ n
unsigned_abs-neg zero = refl
unsigned_abs-neg (suc n) = refl

even_where : (unit leasts units distance : ℕ) → RoundsTo unit leasts units → distance ≡ (leasts - units * unit) + (units * unit - leasts) → 2 * distance ≡ unit → units % 2 ≡ 0
even_where unit leasts units distance rounds is same =
    elim (cases_lt leasts (units * unit)) [
      | inl below ↦ rounds.even_above (omega arith)
      | inr above ↦ rounds.even_below (omega arith)
    ]

apart_above : (unit leasts units : ℕ) → unsigned_abs (pos leasts -ℤ (pos units *ℤ pos unit)) ≡ (leasts - units * unit) + (units * unit - leasts)
apart_above unit leasts units = omega (arith, ints)

-- the distance of two numbers, without signs
pub apart : (unit : ℕ) (leasts units : ℤ) → unsigned_abs (leasts -ℤ (units *ℤ pos unit)) ≡ (up leasts + down units * unit - (down leasts + up units * unit)) + (down leasts + up units * unit - (up leasts + down units * unit))
apart unit leasts units = omega (arith, ints, product_is units (pos unit))

apart_below : (unit leasts units : ℕ) → unsigned_abs (neg_ℤ (pos leasts) -ℤ (neg_ℤ (pos units) *ℤ pos unit)) ≡ (leasts - units * unit) + (units * unit - leasts)
apart_below unit leasts units =
    let all = neg_is (pos leasts) in
    let more = ap (λ (n : ℕ). n * unit) (neg_is (pos units)).0 in
    let less = ap (λ (n : ℕ). n * unit) (neg_is (pos units)).1 in
    omega (arith, apart unit (neg_ℤ (pos leasts)) (neg_ℤ (pos units)), all, more, less)

pub IsNearest-above : (unit leasts units : ℕ) → RoundsTo unit leasts units → IsNearest unit (pos leasts) (pos units)
IsNearest-above unit leasts units rounds =
    record {
      near = omega (arith, apart_above unit leasts units, rounds);
      even = λ same. even_where unit leasts units _ rounds (apart_above unit leasts units) same;
    }

pub IsNearest-below : (unit leasts units : ℕ) → RoundsTo unit leasts units → IsNearest unit (neg_ℤ (pos leasts)) (neg_ℤ (pos units))
IsNearest-below unit leasts units rounds =
    record {
      near = omega (arith, apart_below unit leasts units, rounds);
      even = λ same. ap (λ (n : ℕ). n % 2) (unsigned_abs-neg units) ∙ even_where unit leasts units _ rounds (apart_below unit leasts units) same;
    }

-- a number on the grid is nearest to itself
pub IsNearest-exact : (unit : ℕ) (leasts units : ℤ) → 0 < unit → leasts ≡ units *ℤ pos unit → IsNearest unit leasts units
IsNearest-exact unit leasts units some same =
    let none : unsigned_abs (leasts -ℤ (units *ℤ pos unit)) ≡ 0 = omega (arith, ints) in
    record { near = omega (arith, none); even = λ e. absurd (omega (arith, none)) }

-- of two neighbours one is odd
pub one_is_odd : (a b : ℤ) → up b + down a ≡ up a + down b + 1 → unsigned_abs a % 2 ≡ 0 → unsigned_abs b % 2 ≡ 0 → ⊥
one_is_odd (pos m) (pos n) next first second = omega arith
one_is_odd (pos m) (negsuc n) next first second = omega arith
one_is_odd (negsuc m) (pos n) next first second = omega arith
one_is_odd (negsuc m) (negsuc n) next first second = omega arith

-- nothing greater is as near
none_greater : (unit : ℕ) (leasts a b : ℤ) → 0 < unit → IsNearest unit leasts a → IsNearest unit leasts b → up a + down b < up b + down a → ⊥
none_greater unit leasts a b some first second below =
    let d : ℕ = up b + down a - (up a + down b + 1) in
    let step : up b + down a ≡ up a + down b + 1 + d = omega arith in
    let far : (up b + down a) * unit ≡ (up a + down b + 1 + d) * unit = ap (λ (n : ℕ). n * unit) step in
    let near_a = first.near in
    let near_b = second.near in
    let is_a = apart unit leasts a in
    let is_b = apart unit leasts b in
    let one : d * unit ≡ 0 = omega (arith, far, near_a, near_b, is_a, is_b) in
    let exact_a : 2 * unsigned_abs (leasts -ℤ (a *ℤ pos unit)) ≡ unit = omega (arith, far, near_a, near_b, is_a, is_b, one) in
    let exact_b : 2 * unsigned_abs (leasts -ℤ (b *ℤ pos unit)) ≡ unit = omega (arith, far, near_a, near_b, is_a, is_b, one) in
    let next : d ≡ 0 = elim (cases_lt 0 d) [ inl more ↦ absurd (omega (arith, mul-le 1 unit d unit more (omega arith))) | inr none ↦ omega arith ] in
    one_is_odd a b (omega (arith, step, next)) (first.even exact_a) (second.even exact_b)

-- there is one nearest number
pub IsNearest-unique : (unit : ℕ) (leasts a b : ℤ) → 0 < unit → IsNearest unit leasts a → IsNearest unit leasts b → a ≡ b
IsNearest-unique unit leasts a b some first second =
    elim (cases_lt (up a + down b) (up b + down a)) [
      | inl below ↦ absurd (none_greater unit leasts a b some first second below)
      | inr upto ↦ elim (cases_lt (up b + down a) (up a + down b)) [
        | inl below ↦ absurd (none_greater unit leasts b a some second first below)
        | inr from ↦ same_in a b (omega arith)
      ]
    ]

-- what is far off is near to no small number
far_off : (unit leasts units : ℕ) → 0 < unit → 2 ^ 62 * unit ≤ leasts → units < 2 ^ 62 → units * unit + unit ≤ leasts
far_off unit leasts units some beyond small = omega (arith, mul-le (units + 1) unit (2 ^ 62) unit (omega arith) (omega arith))

pub beyond_above : (unit leasts : ℕ) (units : ℤ) → 0 < unit → 2 ^ 62 * unit ≤ leasts → IsNearest unit (pos leasts) units → 2 ^ 62 ≤ unsigned_abs units
beyond_above unit leasts units some beyond nearest =
    elim (cases_lt (unsigned_abs units) (2 ^ 62)) [ inl small ↦ absurd (by_sign units nearest.near small) | inr large ↦ large ]
  where
    by_sign : (z : ℤ) → 2 * unsigned_abs (pos leasts -ℤ (z *ℤ pos unit)) ≤ unit → unsigned_abs z < 2 ^ 62 → ⊥
    by_sign (pos n) near small = omega (arith, apart unit (pos leasts) (pos n), far_off unit leasts n some beyond small)
    by_sign (negsuc n) near small = omega (arith, apart unit (pos leasts) (negsuc n), far_off unit leasts (suc n) some beyond small)

pub beyond_below : (unit leasts : ℕ) (units : ℤ) → 0 < unit → 2 ^ 62 * unit ≤ leasts → IsNearest unit (neg_ℤ (pos leasts)) units → 2 ^ 62 ≤ unsigned_abs units
beyond_below unit leasts units some beyond nearest =
    elim (cases_lt (unsigned_abs units) (2 ^ 62)) [ inl small ↦ absurd (by_sign units nearest.near small) | inr large ↦ large ]
  where
    by_sign : (z : ℤ) → 2 * unsigned_abs (neg_ℤ (pos leasts) -ℤ (z *ℤ pos unit)) ≤ unit → unsigned_abs z < 2 ^ 62 → ⊥
    by_sign (pos n) near small = omega (arith, ints, apart unit (neg_ℤ (pos leasts)) (pos n), far_off unit leasts n some beyond small)
    by_sign (negsuc n) near small = omega (arith, ints, apart unit (neg_ℤ (pos leasts)) (negsuc n), far_off unit leasts (suc n) some beyond small)

pub beyond_either : (unit leasts : ℕ) (is_above : Bool) (units : ℤ) → 0 < unit → 2 ^ 62 * unit ≤ leasts → IsNearest unit (cond is_above (pos leasts) (neg_ℤ (pos leasts))) units → 2 ^ 62 ≤ unsigned_abs units
beyond_either unit leasts true units some beyond nearest = beyond_above unit leasts units some beyond nearest
beyond_either unit leasts false units some beyond nearest = beyond_below unit leasts units some beyond nearest

-- the same, told by equal numbers
pub IsNearest-same : (unit unit' : ℕ) (leasts a b : ℤ) → unit ≡ unit' → a ≡ b → IsNearest unit leasts a → IsNearest unit' leasts b
IsNearest-same unit unit' leasts a b units numbers nearest =
    let U : ℕ → Type 0 = λ n. IsNearest n leasts b in
    let N : ℤ → Type 0 = λ z. IsNearest unit leasts z in
    subst U units (subst N numbers nearest)
