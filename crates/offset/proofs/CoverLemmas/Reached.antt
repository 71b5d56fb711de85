-- The shape reaches a point of the sum from each point on the way there.
use Rattle.std.proofs.Common.{List, ap, arith, pos, ℕ, ℤ, ◌*ℤ◌, ◌*◌, ◌+ℤ◌, ◌-ℤ◌, ◌<ℤ◌, ◌≡◌, ◌≤ℤ◌}
use Rattle.std.specs.Prelude.{Contains}
use Rattle.std.proofs.lemmas.Int.{ints}
use Rattle.plane.specs.declared.edge.Edge.{Edge}
use Rattle.plane.specs.declared.point.Point.{Point}
use Rattle.plane.specs.Ends.{end_of, start_of}
use Rattle.plane.specs.Meet.Edges.{RationalPoint}
use Rattle.plane.proofs.MeetLemmas.Identities.{Term, identity, minus, number, plus, times}
use Rattle.offset.proofs.CoverLemmas.Cover.{IsReached}
use Rattle.offset.proofs.CoverLemmas.Meets.{rest}
use Rattle.offset.proofs.CoverLemmas.Numbers.{above-product, positive-product, scaled-most, unscaled-most}
use Rattle.offset.proofs.CoverLemmas.Sides.{IsOnWay, ahead_term, apart, side_of, way_term}
use Rattle.offset.proofs.CoverLemmas.Vectors.{crossed, crossing, reach, term, way, wide}

-- a point as a vector from the origin, times what it is over
abbrev from_origin : RationalPoint → Point
from_origin point = record { x = point.x; y = point.y }

-- which side of a shape's side a point is on, by how far its vector reaches
side-reach : (side : Edge) (point : RationalPoint) → side_of side point ≡ ((pos point.n *ℤ wide side) -ℤ reach side (from_origin point))
side-reach side point =
    identity
    (crossing (way_term side) (ahead_term point (start_of side)))
    (minus (times (number (pos point.n)) (crossing (term (start_of side)) (term (end_of side)))) (crossing (term (from_origin point)) (way_term side)))
    (omega arith)

axis : (fn bn pn px fx bx : ℤ) → ((fn *ℤ bn) *ℤ px) ≡ (pn *ℤ ((fx *ℤ bn) +ℤ (bx *ℤ fn))) → (bn *ℤ ((fn *ℤ px) -ℤ (pn *ℤ fx))) ≡ ((pn *ℤ fn) *ℤ bx)
axis fn bn pn px fx bx is =
    let v = λ (z : ℤ). number z in
    let by = λ (s t : Term). times s t in
    let first = identity (by (v bn) (minus (by (v fn) (v px)) (by (v pn) (v fx)))) (minus (by (by (v fn) (v bn)) (v px)) (by (v pn) (by (v fx) (v bn)))) (omega arith) in
    let second = identity (minus (by (v pn) (plus (by (v fx) (v bn)) (by (v bx) (v fn)))) (by (v pn) (by (v fx) (v bn)))) (by (by (v pn) (v fn)) (v bx)) (omega arith) in
    omega (arith, ints, first, second, is)

-- Two points add up to a third.
pub record AddUp (from by point : RationalPoint) : Type 0 where
  pub x : (pos (from.n * by.n) *ℤ point.x) ≡ (pos point.n *ℤ ((from.x *ℤ pos by.n) +ℤ (by.x *ℤ pos from.n)))
  pub y : (pos (from.n * by.n) *ℤ point.y) ≡ (pos point.n *ℤ ((from.y *ℤ pos by.n) +ℤ (by.y *ℤ pos from.n)))

-- the way from the one to the sum is the other
way-by : (from by point : RationalPoint) → AddUp from by point → (f : Point) → (pos by.n *ℤ crossed (apart point from) f) ≡ ((pos point.n *ℤ pos from.n) *ℤ crossed (from_origin by) f)
way-by from by point is f =
    let k = pos by.n in
    let l = pos point.n *ℤ pos from.n in
    let split = λ (z : ℤ) (w : Point). identity (times (number z) (crossing (term w) (term f))) (minus (times (times (number z) (number w.x)) (number f.y)) (times (times (number z) (number w.y)) (number f.x))) (omega arith) in
    let x = ap (λ z. z *ℤ f.y) (axis (pos from.n) (pos by.n) (pos point.n) point.x from.x by.x is.x) in
    let y = ap (λ z. z *ℤ f.x) (axis (pos from.n) (pos by.n) (pos point.n) point.y from.y by.y is.y) in
    let one = split k (apart point from) in
    let other = split l (from_origin by) in
    omega (arith, ints, one, other, x, y)

shorter : (m a fn bn pn on d r r0 rb : ℤ) → pos 0 <ℤ m → pos 0 <ℤ fn → pos 0 <ℤ bn → pos 0 ≤ℤ pn → pos 0 ≤ℤ on → pos 0 ≤ℤ a → a ≤ℤ m → pos 0 ≤ℤ d → ((m *ℤ fn) *ℤ r) ≡ ((on *ℤ (m -ℤ a)) *ℤ r0) → (bn *ℤ r0) ≡ ((pn *ℤ fn) *ℤ rb) → rb ≤ℤ (bn *ℤ d) → r ≤ℤ ((on *ℤ pn) *ℤ d)
shorter m a fn bn pn on d r r0 rb m_some fn_some bn_some pn_above on_above a_above within d_above first second most =
    let v = λ (z : ℤ). number z in
    let by = λ (s t : Term). times s t in
    let k = (on *ℤ (m -ℤ a)) *ℤ (pn *ℤ fn) in
    let k_above = above-product (on *ℤ (m -ℤ a)) (pn *ℤ fn) (above-product on (m -ℤ a) on_above (omega (arith, ints, within))) (above-product pn fn pn_above (omega (arith, ints, fn_some))) in
    let scaled = scaled-most k rb (bn *ℤ d) k_above most in
    let left = above-product ((on *ℤ a) *ℤ (pn *ℤ fn)) (bn *ℤ d) (above-product (on *ℤ a) (pn *ℤ fn) (above-product on a on_above a_above) (above-product pn fn pn_above (omega (arith, ints, fn_some)))) (above-product bn d (omega (arith, ints, bn_some)) d_above) in
    let one = ap (λ z. bn *ℤ z) first in
    let two = ap (λ z. (on *ℤ (m -ℤ a)) *ℤ z) second in
    let three = identity (by (v bn) (by (by (v on) (minus (v m) (v a))) (v r0))) (by (by (v on) (minus (v m) (v a))) (by (v bn) (v r0))) (omega arith) in
    let four = identity (by (by (v on) (minus (v m) (v a))) (by (by (v pn) (v fn)) (v rb))) (by (by (by (v on) (minus (v m) (v a))) (by (v pn) (v fn))) (v rb)) (omega arith) in
    let five = identity (by (by (by (v on) (minus (v m) (v a))) (by (v pn) (v fn))) (by (v bn) (v d))) (minus (by (by (v bn) (by (v m) (v fn))) (by (by (v on) (v pn)) (v d))) (by (by (by (v on) (v a)) (by (v pn) (v fn))) (by (v bn) (v d)))) (omega arith) in
    let six = identity (by (v bn) (by (by (v m) (v fn)) (v r))) (by (by (v bn) (by (v m) (v fn))) (v r)) (omega arith) in
    unscaled-most (bn *ℤ (m *ℤ fn)) r ((on *ℤ pn) *ℤ d) (positive-product bn (m *ℤ fn) bn_some (positive-product m fn m_some fn_some))
    (omega (arith, ints, scaled, left, one, two, three, four, five, six))

-- Where a point and one of the shape add up to another, the shape reaches that one from each point on the way to it.
pub reached : (sides : List Edge) → ((side : Edge) → Contains sides side → pos 0 <ℤ wide side) → (from by point on : RationalPoint) (a m : ℕ) → AddUp from by point → ((side : Edge) → Contains sides side → pos 0 ≤ℤ side_of side by) → IsOnWay from point on a m → IsReached sides point on
reached sides around from by point on a m sum within is side of =
    let m_some = is.some in
    let share = is.share in
    let from_some = from.positive in
    let by_some = by.positive in
    let wide_some = around side of in
    let inside = within side of in
    let same = side-reach side by in
    shorter (pos m) (pos a) (pos from.n) (pos by.n) (pos point.n) (pos on.n) (wide side) (reach side (apart point on)) (reach side (apart point from)) (reach side (from_origin by))
    (omega (arith, ints, m_some)) (omega (arith, ints, from_some)) (omega (arith, ints, by_some)) (omega (arith, ints)) (omega (arith, ints)) (omega (arith, ints)) (omega (arith, ints, share)) (omega (arith, ints, wide_some))
    (rest from point on a m is (way side))
    (way-by from by point sum (way side))
    (omega (arith, ints, inside, same))
