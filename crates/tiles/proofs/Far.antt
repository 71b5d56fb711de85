-- What lies aside of a widened window is near no point of the window.
use Rattle.std.proofs.Common.{inl, inr, ℕ, ◌*◌, ◌<◌, ℤ, pos, ◌+ℤ◌, ◌-ℤ◌, ◌*ℤ◌, ◌≤ℤ◌, arith}
use Rattle.std.proofs.Math.Nat.{mul-pos}
use Rattle.std.proofs.lemmas.Int.{ints}
use Rattle.plane.specs.declared.point.Point.{Point}
use Rattle.plane.specs.Ends.{edge_between}
use Rattle.plane.specs.Meet.Edges.{RationalPoint}
use Rattle.plane.proofs.MeetLemmas.Boxes.{way_above, way_below}
use Rattle.plane.proofs.MeetLemmas.Identities.{identity, minus, number, plus, scaled, times}
use Rattle.noding.specs.Near.{IsNear, WithinHalf}
use Rattle.noding.proofs.SnapLemmas.Numbers.{n_of}
use Rattle.tiles.specs.Window.{InWindow, widened}
use Rattle.tiles.specs.declared.window.Window.{Window}
use Rattle.tiles.proofs.Beside.{AreAside}

-- numbers that are 2 apart, or more, aren't within half of each other
far-below : (n m : ℕ) (p q z : ℤ) → 0 < n → 0 < m → (pos n *ℤ z) ≤ℤ p → q ≤ℤ (pos m *ℤ (z -ℤ pos 2)) → ¬ (WithinHalf n p m q)
far-below n m p q z some other_some from upto half =
    let first = scaled m (pos n *ℤ z) p from in
    let second = scaled n q (pos m *ℤ (z -ℤ pos 2)) upto in
    let same = identity (times (n_of n) (times (n_of m) (minus (number z) (n_of 2)))) (minus (times (n_of m) (times (n_of n) (number z))) (n_of (2 * (n * m)))) (omega arith) in
    let above = half.above in
    let positive : 0 < n * m = mul-pos some other_some in
    omega (arith, ints, first, second, same, above, positive)

far-above : (n m : ℕ) (p q z : ℤ) → 0 < n → 0 < m → p ≤ℤ (pos n *ℤ z) → (pos m *ℤ (z +ℤ pos 2)) ≤ℤ q → ¬ (WithinHalf n p m q)
far-above n m p q z some other_some upto from half =
    let first = scaled m p (pos n *ℤ z) upto in
    let second = scaled n (pos m *ℤ (z +ℤ pos 2)) q from in
    let same = identity (times (n_of n) (times (n_of m) (plus (number z) (n_of 2)))) (plus (times (n_of m) (times (n_of n) (number z))) (n_of (2 * (n * m)))) (omega arith) in
    let below = half.below in
    let positive : 0 < n * m = mul-pos some other_some in
    omega (arith, ints, first, second, same, below, positive)

pub aside-far : (window : Window) (one other : Point) (point : RationalPoint) → AreAside (widened window) one other → InWindow window point → ¬ (IsNear (edge_between one other) point)
aside-far window one other point (inl (first, second)) is (near, (a, at), x, y) =
    far-below point.n near.n point.x near.x window.left point.positive near.positive is.from_left
    (rw at.x (way_below near.n a (window.left -ℤ pos 2) one.x other.x at.share first second)) x
aside-far window one other point (inr (inl (first, second))) is (near, (a, at), x, y) =
    let before = is.before_right in
    far-above point.n near.n point.x near.x window.right point.positive near.positive (omega (arith, ints, before))
    (rw at.x (way_above near.n a (window.right +ℤ pos 2) one.x other.x at.share first second)) x
aside-far window one other point (inr (inr (inl (first, second)))) is (near, (a, at), x, y) =
    far-below point.n near.n point.y near.y window.low point.positive near.positive is.from_low
    (rw at.y (way_below near.n a (window.low -ℤ pos 2) one.y other.y at.share first second)) y
aside-far window one other point (inr (inr (inr (first, second)))) is (near, (a, at), x, y) =
    let below = is.below_high in
    far-above point.n near.n point.y near.y window.high point.positive near.positive (omega (arith, ints, below))
    (rw at.y (way_above near.n a (window.high +ℤ pos 2) one.y other.y at.share first second)) y
