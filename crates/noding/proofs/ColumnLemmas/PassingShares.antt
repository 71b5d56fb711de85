-- An edge that isn't steep, near a whole point that one of its points rounds to: in numbers.
use Rattle.std.proofs.Common.{◌≡◌, ap, arith, pos, subst, ℕ, ◌+◌, ◌*◌, ◌<◌, ◌≤◌, ◌-◌, ℤ, ◌+ℤ◌, ◌-ℤ◌, ◌*ℤ◌, ◌≤ℤ◌, ◌<ℤ◌}
use Rattle.std.proofs.Math.Nat.{mul-le-mul_left}
use Rattle.std.proofs.lemmas.Int.{by_lt_z, ints}
use borrow.Author.Differences.{down, up}
use Rattle.plane.specs.Meet.Crosses.{IsWithin}
use Rattle.plane.proofs.MeetLemmas.Identities.{IsWithin-product, Term, at_most, at_most_of, minus, number, plus, scaled, times, unscaled, value}
use Rattle.noding.proofs.SnapLemmas.Numbers.{below, below_of, n_of}

-- p / n is above c - 1/2, and at most c + 1/2
pub record IsHalfAbove (n : ℕ) (p c : ℤ) : Type 0 where
  pub from : (pos n *ℤ ((pos 2 *ℤ c) -ℤ pos 1)) <ℤ (pos 2 *ℤ p)
  pub upto : (pos 2 *ℤ p) ≤ℤ (pos n *ℤ ((pos 2 *ℤ c) +ℤ pos 1))

-- it is at least c - 1/2
pub record IsHalfBeside (n : ℕ) (p c : ℤ) : Type 0 where
  pub from : (pos n *ℤ ((pos 2 *ℤ c) -ℤ pos 1)) ≤ℤ (pos 2 *ℤ p)
  pub upto : (pos 2 *ℤ p) ≤ℤ (pos n *ℤ ((pos 2 *ℤ c) +ℤ pos 1))

-- of positive multiples the order is strict where that of the numbers is
below_unscaled : (k : ℕ) (a b : ℤ) → (pos k *ℤ a) <ℤ (pos k *ℤ b) → a <ℤ b
below_unscaled k a b less =
    by_lt_z a b (λ is. is) (λ back. let there = scaled k b a back in absurd (omega (arith, ints, less, there)))

-- An edge starts at (x0, y0), and goes w along x and r up. Its point at a of n parts of the way is so near to (x, y).
module _ (n a w : ℕ) (x0 y0 r x y : ℤ) (some : 0 < n) (share : a ≤ n) (flat : IsWithin w r) where
  abbrev across : Term
  across = plus (times (n_of n) (number x0)) (times (n_of a) (n_of w))

  abbrev climbed : Term
  climbed = plus (times (n_of n) (number y0)) (times (n_of a) (number r))

  -- its height at x, times w
  abbrev height : Term
  height = plus (times (number y0) (minus (plus (number x0) (n_of w)) (number x))) (times (plus (number y0) (number r)) (minus (number x) (number x0)))

  -- twice how far it is from the point to x, times n
  abbrev off : Term
  off = minus (times (n_of 2) (times (n_of n) (number x))) (times (n_of 2) across)

  abbrev half_below : ℤ → Term
  half_below c = times (n_of n) (minus (times (n_of 2) (number c)) (n_of 1))

  abbrev half_above : ℤ → Term
  half_above c = times (n_of n) (plus (times (n_of 2) (number c)) (n_of 1))

  module _ (near_x : IsHalfAbove n (value across) x) (near_y : IsHalfBeside n (value climbed) y) where
    off-within : IsWithin n (value off)
    off-within =
        let from = below_of (half_below x) (times (n_of 2) across) near_x.from in
        let upto = at_most_of (times (n_of 2) across) (half_above x) near_x.upto in record {
          from = at_most (minus (n_of 0) (n_of n)) off (omega (arith, upto));
          upto = at_most off (n_of n) (omega (arith, from));
        }

    climbs : IsWithin (w * n) (r *ℤ value off)
    climbs = IsWithin-product r (value off) w n flat off-within

    -- the height is at most a unit above y, and at most a unit below it
    pub height-upto : value height ≤ℤ ((y +ℤ pos 1) *ℤ pos w)
    height-upto =
        let climbed_upto = mul-le-mul_left w (at_most_of (times (n_of 2) climbed) (half_above y) near_y.upto) in
        let climb = at_most_of (times (number r) off) (n_of (w * n)) climbs.upto in
        unscaled (2 * n) (value height) ((y +ℤ pos 1) *ℤ pos w) (omega (arith, some))
        (at_most (times (n_of (2 * n)) height) (times (n_of (2 * n)) (times (plus (number y) (n_of 1)) (n_of w))) (omega (arith, climbed_upto, climb)))

    pub height-from : ((y -ℤ pos 1) *ℤ pos w) ≤ℤ value height
    height-from =
        let climbed_from = mul-le-mul_left w (at_most_of (half_below y) (times (n_of 2) climbed) near_y.from) in
        let climb = at_most_of (minus (n_of 0) (n_of (w * n))) (times (number r) off) climbs.from in
        unscaled (2 * n) ((y -ℤ pos 1) *ℤ pos w) (value height) (omega (arith, some))
        (at_most (times (n_of (2 * n)) (times (minus (number y) (n_of 1)) (n_of w))) (times (n_of (2 * n)) height) (omega (arith, climbed_from, climb)))

    -- x is between the edge's ends
    pub x-from : x0 ≤ℤ x
    x-from =
        let upto = at_most_of (times (n_of 2) across) (half_above x) near_x.upto in
        let doubled = unscaled n (pos 2 *ℤ x0) ((pos 2 *ℤ x) +ℤ pos 1) some
        (at_most (times (n_of n) (times (n_of 2) (number x0))) (times (n_of n) (plus (times (n_of 2) (number x)) (n_of 1))) (omega (arith, upto))) in
        omega (arith, ints, doubled)

    pub x-upto : x ≤ℤ (x0 +ℤ pos w)
    x-upto =
        let from = below_of (half_below x) (times (n_of 2) across) near_x.from in
        let part = mul-le-mul_left w share in
        let doubled = unscaled n ((pos 2 *ℤ x) -ℤ pos 1) (pos 2 *ℤ (x0 +ℤ pos w)) some
        (at_most (half_below x) (times (n_of n) (times (n_of 2) (plus (number x0) (n_of w)))) (omega (arith, from, part))) in
        omega (arith, ints, doubled)

    -- and where it is that of the greater end, y is, too
    end_by : (b : ℕ) → n ≡ a + b → x ≡ x0 +ℤ pos w → y ≡ y0 +ℤ r
    end_by b whole is =
        let end_x : Term = plus (number x0) (n_of w) in
        let end_y : Term = plus (number y0) (number r) in
        let from = below_of (times (n_of n) (minus (times (n_of 2) end_x) (n_of 1))) (times (n_of 2) across) (subst (λ (z : ℤ). (pos n *ℤ ((pos 2 *ℤ z) -ℤ pos 1)) <ℤ (pos 2 *ℤ value across)) is near_x.from) in
        let short : 2 * (b * w) < n = omega (arith, from, ap (λ k. k * w) whole) in
        let falls = IsWithin-product r (pos b) w b flat (record { from = omega (arith, ints); upto = omega (arith, ints) }) in
        let fall_from = at_most_of (minus (n_of 0) (n_of (w * b))) (times (number r) (n_of b)) falls.from in
        let fall_upto = at_most_of (times (number r) (n_of b)) (n_of (w * b)) falls.upto in
        let up_whole = ap (λ k. k * up r) whole in
        let down_whole = ap (λ k. k * down r) whole in
        let climbed_from = at_most_of (half_below y) (times (n_of 2) climbed) near_y.from in
        let climbed_upto = at_most_of (times (n_of 2) climbed) (half_above y) near_y.upto in
        let first = below_unscaled n ((pos 2 *ℤ y) -ℤ pos 1) ((pos 2 *ℤ (y0 +ℤ r)) +ℤ pos 1)
        (below (half_below y) (times (n_of n) (plus (times (n_of 2) end_y) (n_of 1))) (omega (arith, climbed_from, fall_from, short, up_whole, down_whole))) in
        let second = below_unscaled n ((pos 2 *ℤ (y0 +ℤ r)) -ℤ pos 1) ((pos 2 *ℤ y) +ℤ pos 1)
        (below (times (n_of n) (minus (times (n_of 2) end_y) (n_of 1))) (half_above y) (omega (arith, climbed_upto, fall_upto, short, up_whole, down_whole))) in
        omega (arith, ints, first, second)

    pub y-end : x ≡ x0 +ℤ pos w → y ≡ y0 +ℤ r
    y-end = end_by (n - a) (omega (arith, share))
