-- Positions between the corners have points on the grid that fits these.
use Rattle.std.proofs.Common.{◌≡◌, ℕ, ◌+◌, ◌-◌, ◌*◌, ◌/◌, ◌^◌, ◌<◌, ◌≤◌, ◌%◌, ℤ, pos, negsuc, ◌+ℤ◌, ◌-ℤ◌, ◌*ℤ◌, ◌≤ℤ◌, neg_ℤ, suc, Bool, true, false, cond, nat_lt, inl, inr, arith, ap, sym, subst, refl, FitsSigned}
use Rattle.std.specs.Int.{w32}
use Rattle.std.specs.Int.RustNames.{unsigned_abs}
use Rattle.std.proofs.lemmas.Int.{ints, clamps}
use Rattle.std.proofs.lemmas.Nat.{pow_pos, mul-le, div-add-mod', mod_below}
use Rattle.std.proofs.lemmas.Bool.{cases_lt}
use Rattle.std.proofs.Math.Pow.{pow_mono}
use Rattle.grid.specs.declared.position.Position.{Position}
use Rattle.grid.specs.declared.units.Grid.{Grid}
use Rattle.plane.specs.declared.point.Point.{Point}
use Rattle.grid.specs.Doubles.{magnitude, in_leasts}
use Rattle.grid.specs.Rounding.{RoundsTo}
use Rattle.grid.specs.Grid.{IsNearest, scale_of, unit_of}
use Rattle.grid.specs.Fit.{AreZero, HasPoint, IsBetween, IsFinest, IsMiddle, IsNarrow, half, last_place, limited, whole_grid}
use Rattle.grid.proofs.NearestLemmas.{IsNearest-above, IsNearest-below, IsNearest-exact, IsNearest-same, apart, one_is_odd}
use Rattle.grid.proofs.OrderLemmas.{magnitude_upto}
use borrow.Author.Differences.{up, down, at_most_in, same_in}

-- so many leasts are rounded to some number of units
rounded : (unit leasts : ℕ) → 0 < unit → (units : ℕ) × RoundsTo unit leasts units
rounded unit leasts some =
    let q : ℕ = leasts / unit in
    let r : ℕ = leasts % unit in
    let split : q * unit + r ≡ leasts = div-add-mod' leasts unit in
    let rest : r < unit = mod_below leasts unit some in
    elim (cases_lt unit (2 * r + q % 2)) [
      | inl more ↦ (q + 1, upwards unit leasts q r split rest more)
      | inr less ↦ (q, downwards unit leasts q r some split less)
    ]
  where
    upwards : (unit leasts q r : ℕ) → q * unit + r ≡ leasts → r < unit → unit < 2 * r + q % 2 → RoundsTo unit leasts (q + 1)
    upwards unit leasts q r split rest more =
        record { not_above = omega arith; not_below = omega arith; even_above = λ e. omega arith; even_below = λ e. omega arith }

    downwards : (unit leasts q r : ℕ) → 0 < unit → q * unit + r ≡ leasts → 2 * r + q % 2 ≤ unit → RoundsTo unit leasts q
    downwards unit leasts q r some split less =
        record { not_above = omega arith; not_below = omega arith; even_above = λ e. omega arith; even_below = λ e. omega arith }

-- there is a nearest number
nearest_of : (unit : ℕ) (leasts : ℤ) → 0 < unit → (units : ℤ) × IsNearest unit leasts units
nearest_of unit (pos n) some = let (q, rounds) = rounded unit n some in (pos q, IsNearest-above unit n q rounds)
nearest_of unit (negsuc n) some = let (q, rounds) = rounded unit (suc n) some in (neg_ℤ (pos q), IsNearest-below unit (suc n) q rounds)

-- what is nearest to a greater number isn't less
not_less : (unit : ℕ) (lesser greater a b : ℤ) → 0 < unit → lesser ≤ℤ greater → IsNearest unit lesser a → IsNearest unit greater b → up b + down a < up a + down b → ⊥
not_less unit lesser greater a b some order first second below =
    let d : ℕ = up a + down b - (up b + down a + 1) in
    let step : up a + down b ≡ up b + down a + 1 + d = omega arith in
    let far : (up a + down b) * unit ≡ (up b + down a + 1 + d) * unit = ap (λ (n : ℕ). n * unit) step in
    let upto : up lesser + down greater ≤ up greater + down lesser = omega (arith, ints, order) in
    let near_a = first.near in
    let near_b = second.near in
    let is_a = apart unit lesser a in
    let is_b = apart unit greater b in
    let one : d * unit ≡ 0 = omega (arith, far, upto, near_a, near_b, is_a, is_b) in
    let exact_a : 2 * unsigned_abs (lesser -ℤ (a *ℤ pos unit)) ≡ unit = omega (arith, far, upto, near_a, near_b, is_a, is_b, one) in
    let exact_b : 2 * unsigned_abs (greater -ℤ (b *ℤ pos unit)) ≡ unit = omega (arith, far, upto, near_a, near_b, is_a, is_b, one) in
    let next : d ≡ 0 = elim (cases_lt 0 d) [ inl more ↦ absurd (omega (arith, mul-le 1 unit d unit more (omega arith))) | inr none ↦ omega arith ] in
    one_is_odd b a (omega (arith, step, next)) (second.even exact_b) (first.even exact_a)

nearest_mono : (unit : ℕ) (lesser greater a b : ℤ) → 0 < unit → lesser ≤ℤ greater → IsNearest unit lesser a → IsNearest unit greater b → a ≤ℤ b
nearest_mono unit lesser greater a b some order first second =
    elim (cases_lt (up b + down a) (up a + down b)) [
      | inl below ↦ absurd (not_less unit lesser greater a b some order first second below)
      | inr upto ↦ at_most_in a b upto
    ]

signed_upto : (above : Bool) (m most : ℕ) → m ≤ most → cond above (pos m) (neg_ℤ (pos m)) ≤ℤ pos most
signed_upto true m most h = omega (arith, ints)
signed_upto false m most h = omega (arith, ints)

signed_from : (above : Bool) (m most : ℕ) → m ≤ most → neg_ℤ (pos most) ≤ℤ cond above (pos m) (neg_ℤ (pos m))
signed_from true m most h = omega (arith, ints)
signed_from false m most h = omega (arith, ints)

-- a double whose last bit is no more than a unit is less than 2 ^ 53 units
leasts_within : (bits scale : ℕ) → last_place bits ≤ scale → magnitude bits ≤ 9007199254740991 * 2 ^ scale
leasts_within bits scale upto =
    let most = magnitude_upto bits in
    let power : 2 ^ last_place bits ≤ 2 ^ scale = pow_mono upto in
    let product : 9007199254740991 * 2 ^ last_place bits ≤ 9007199254740991 * 2 ^ scale = mul-le 9007199254740991 (2 ^ last_place bits) 9007199254740991 (2 ^ scale) (omega arith) power in
    through (magnitude bits) (9007199254740991 * 2 ^ last_place bits) (9007199254740991 * 2 ^ scale) most product
  where
    through : (a b c : ℕ) → a ≤ b → b ≤ c → a ≤ c
    through a b c first second = omega arith

units_upto : (bits scale : ℕ) (a : ℤ) → last_place bits ≤ scale → IsNearest (2 ^ scale) (in_leasts bits) a → a ≤ℤ pos 9007199254740991
units_upto bits scale a upto nearest =
    let unit : ℕ = 2 ^ scale in
    let end : pos 9007199254740991 *ℤ pos unit ≡ pos (9007199254740991 * unit) = refl in
    nearest_mono unit (in_leasts bits) (pos (9007199254740991 * unit)) a (pos 9007199254740991) (pow_pos scale)
    (signed_upto (nat_lt bits (2 ^ 63)) (magnitude bits) (9007199254740991 * unit) (leasts_within bits scale upto)) nearest
    (IsNearest-exact unit (pos (9007199254740991 * unit)) (pos 9007199254740991) (pow_pos scale) (sym end))

units_from : (bits scale : ℕ) (a : ℤ) → last_place bits ≤ scale → IsNearest (2 ^ scale) (in_leasts bits) a → negsuc 9007199254740990 ≤ℤ a
units_from bits scale a upto nearest =
    let unit : ℕ = 2 ^ scale in
    nearest_mono unit (neg_ℤ (pos (9007199254740991 * unit))) (in_leasts bits) (negsuc 9007199254740990) a (pow_pos scale)
    (signed_from (nat_lt bits (2 ^ 63)) (magnitude bits) (9007199254740991 * unit) (leasts_within bits scale upto))
    (IsNearest-exact unit (neg_ℤ (pos (9007199254740991 * unit))) (negsuc 9007199254740990) (pow_pos scale) (end unit)) nearest
  where
    end : (unit : ℕ) → neg_ℤ (pos (9007199254740991 * unit)) ≡ negsuc 9007199254740990 *ℤ pos unit
    end unit = same_in (neg_ℤ (pos (9007199254740991 * unit))) (negsuc 9007199254740990 *ℤ pos unit) (omega (arith, ints))

half_is : (z : ℤ) → (up (half z) ≡ up z / 2) × (down (half z) ≡ (down z + 1) / 2)
half_is (pos n) = (refl, refl)
half_is (negsuc n) = (refl, omega arith)

-- a number between two that are at most 2 ^ 31 apart fits 32 bits, from their middle
from_middle : (a b n : ℤ) → a ≤ℤ n → n ≤ℤ b → (b -ℤ a) ≤ℤ pos (2 ^ 31) → negsuc 9007199254740990 ≤ℤ a → b ≤ℤ pos 9007199254740991 → FitsSigned w32 (n -ℤ limited (half (a +ℤ b)))
from_middle a b n from upto narrow low high = omega (arith, ints, clamps, half_is (a +ℤ b))

-- on one axis
held : (scale low high bits : ℕ) (origin : ℤ) → last_place low ≤ scale → last_place high ≤ scale → IsNarrow scale low high → IsMiddle scale low high origin
    → in_leasts low ≤ℤ in_leasts bits → in_leasts bits ≤ℤ in_leasts high → (n : ℤ) × FitsSigned w32 n × IsNearest (2 ^ scale) (in_leasts bits) (n +ℤ origin)
held scale low high bits origin low_upto high_upto narrow middle from upto =
    let unit : ℕ = 2 ^ scale in
    let some : 0 < unit = pow_pos scale in
    let (a, near_a) = nearest_of unit (in_leasts low) some in
    let (b, near_b) = nearest_of unit (in_leasts high) some in
    let (n, near) = nearest_of unit (in_leasts bits) some in
    let is : origin ≡ limited (half (a +ℤ b)) = middle a b near_a near_b in
    let fits : FitsSigned w32 (n -ℤ limited (half (a +ℤ b))) =
    from_middle a b n (nearest_mono unit (in_leasts low) (in_leasts bits) a n some from near_a near) (nearest_mono unit (in_leasts bits) (in_leasts high) n b some upto near near_b)
    (narrow a b near_a near_b) (units_from low scale a low_upto near_a) (units_upto high scale b high_upto near_b) in
    let back : n ≡ n -ℤ origin +ℤ origin = there_and_back n origin in
    (n -ℤ origin, subst (λ (z : ℤ). FitsSigned w32 (n -ℤ z)) (sym is) fits, IsNearest-same unit unit (in_leasts bits) n (n -ℤ origin +ℤ origin) refl back near)
  where
    there_and_back : (n o : ℤ) → n ≡ n -ℤ o +ℤ o
    there_and_back n o = same_in n (n -ℤ o +ℤ o) (omega (arith, ints))

pub held_on_finest : (low high position : Position) (grid : Grid) → IsFinest low high grid → IsBetween low high position → HasPoint grid position
held_on_finest low high position grid finest between =
    let scale = scale_of grid in
    let is = finest.scale in
    let (x, x_fits, x_near) = held scale low.x high.x position.x grid.x is.low_x is.high_x is.x finest.x between.low_x between.high_x in
    let (y, y_fits, y_near) = held scale low.y high.y position.y grid.y is.low_y is.high_y is.y finest.y between.low_y between.high_y in
    let point : Point = record { x = x; y = y } in
    (point, record { x = x_fits; y = y_fits }, record { x = x_near; y = y_near })

zero_between : (low z high : ℤ) → low ≡ pos 0 → high ≡ pos 0 → low ≤ℤ z → z ≤ℤ high → z ≡ pos 0
zero_between low z high first last from upto = same_in z (pos 0) (omega (arith, ints, first, last, from, upto))

near_zero : (unit : ℕ) (z : ℤ) → 0 < unit → z ≡ pos 0 → IsNearest unit z (pos 0 +ℤ pos 0)
near_zero unit z some is_zero = IsNearest-exact unit z (pos 0 +ℤ pos 0) some (same_in z ((pos 0 +ℤ pos 0) *ℤ pos unit) (omega (arith, ints, is_zero)))

pub held_at_zero : (low high position : Position) → AreZero low high → IsBetween low high position → HasPoint whole_grid position
held_at_zero low high position are_zero between =
    let x : in_leasts position.x ≡ pos 0 = zero_between (in_leasts low.x) (in_leasts position.x) (in_leasts high.x) are_zero.low_x are_zero.high_x between.low_x between.high_x in
    let y : in_leasts position.y ≡ pos 0 = zero_between (in_leasts low.y) (in_leasts position.y) (in_leasts high.y) are_zero.low_y are_zero.high_y between.low_y between.high_y in
    let point : Point = record { x = pos 0; y = pos 0 } in
    (point, record { x = fits; y = fits }, record { x = near_zero (unit_of whole_grid) (in_leasts position.x) (pow_pos 1074) x; y = near_zero (unit_of whole_grid) (in_leasts position.y) (pow_pos 1074) y })
  where
    fits : FitsSigned w32 (pos 0)
    fits = omega (arith, ints)
