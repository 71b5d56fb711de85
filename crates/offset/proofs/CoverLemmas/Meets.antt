-- The way from a nearest point of edges meets them at its start alone.
use Rattle.std.proofs.Common.{List, ap, arith, pos, ℕ, ℤ, ◌*ℤ◌, ◌+ℤ◌, ◌-ℤ◌, ◌<ℤ◌, ◌<◌, ◌≡◌, ◌≤ℤ◌}
use Rattle.std.specs.Prelude.{Contains}
use Rattle.std.proofs.lemmas.Int.{by_lt_z, ints}
use Rattle.plane.specs.declared.edge.Edge.{Edge}
use Rattle.plane.specs.declared.point.Point.{Point}
use Rattle.plane.specs.Meet.Edges.{IsOf, RationalPoint}
use Rattle.plane.proofs.MeetLemmas.Identities.{Term, identity, minus, number, plus, times}
use Rattle.offset.proofs.CoverLemmas.Near.{IsAsNear, top-scaled}
use Rattle.offset.proofs.CoverLemmas.Numbers.{above-product, positive-product, scaled-most}
use Rattle.offset.proofs.CoverLemmas.Shapes.{IsTop}
use Rattle.offset.proofs.CoverLemmas.Sides.{IsOnWay, MeetsAtStart, apart}
use Rattle.offset.proofs.CoverLemmas.Vectors.{crossed, crossing, reach, term, wide}

axis : (m fn tn qn a px qx fx : ℤ) → ((m *ℤ (fn *ℤ tn)) *ℤ qx) ≡ (qn *ℤ (((m -ℤ a) *ℤ (tn *ℤ fx)) +ℤ (a *ℤ (fn *ℤ px)))) → ((m *ℤ fn) *ℤ ((qn *ℤ px) -ℤ (tn *ℤ qx))) ≡ ((qn *ℤ (m -ℤ a)) *ℤ ((fn *ℤ px) -ℤ (tn *ℤ fx)))
axis m fn tn qn a px qx fx is =
    let v = λ (z : ℤ). number z in
    let by = λ (s t : Term). times s t in
    let first = identity
    (by (by (v m) (v fn)) (minus (by (v qn) (v px)) (by (v tn) (v qx))))
    (minus (by (by (v m) (v fn)) (by (v qn) (v px))) (by (by (v m) (by (v fn) (v tn))) (v qx)))
    (omega arith) in
    let second = identity
    (minus (by (by (v m) (v fn)) (by (v qn) (v px))) (by (v qn) (plus (by (minus (v m) (v a)) (by (v tn) (v fx))) (by (v a) (by (v fn) (v px))))))
    (by (by (v qn) (minus (v m) (v a))) (minus (by (v fn) (v px)) (by (v tn) (v fx))))
    (omega arith) in
    omega (arith, ints, first, second, is)

-- what is left of the way from a point on it
pub rest : (from to point : RationalPoint) (a m : ℕ) → IsOnWay from to point a m → (f : Point) → ((pos m *ℤ pos from.n) *ℤ crossed (apart to point) f) ≡ ((pos point.n *ℤ (pos m -ℤ pos a)) *ℤ crossed (apart to from) f)
rest from to point a m on f =
    let k = pos m *ℤ pos from.n in
    let l = pos point.n *ℤ (pos m -ℤ pos a) in
    let here = apart to point in
    let there = apart to from in
    let v = λ (z : ℤ). number z in
    let by = λ (s t : Term). times s t in
    let split = λ (z : ℤ) (w : Point). identity (by (v z) (crossing (term w) (term f))) (minus (by (by (v z) (v w.x)) (v f.y)) (by (by (v z) (v w.y)) (v f.x))) (omega arith) in
    let x = ap (λ z. z *ℤ f.y) (axis (pos m) (pos from.n) (pos to.n) (pos point.n) (pos a) to.x point.x from.x on.x) in
    let y = ap (λ z. z *ℤ f.x) (axis (pos m) (pos from.n) (pos to.n) (pos point.n) (pos a) to.y point.y from.y on.y) in
    let one = split k here in
    let other = split l there in
    omega (arith, ints, one, other, x, y)

share-none : (m a : ℕ) (qn bn d r rq : ℤ) → 0 < m → pos 0 <ℤ qn → pos 0 <ℤ d → pos 0 <ℤ r → ((pos m *ℤ bn) *ℤ rq) ≡ ((qn *ℤ (pos m -ℤ pos a)) *ℤ r) → (r *ℤ (qn *ℤ d)) ≤ℤ (rq *ℤ (bn *ℤ d)) → a ≡ 0
share-none m a qn bn d r rq m_some qn_some d_some r_some is most =
    let v = λ (z : ℤ). number z in
    let by = λ (s t : Term). times s t in
    let all = (qn *ℤ r) *ℤ d in
    let first = identity (by (v (pos m)) (by (v r) (by (v qn) (v d)))) (by (v (pos m)) (by (by (v qn) (v r)) (v d))) (omega arith) in
    let second = identity (by (v (pos m)) (by (v rq) (by (v bn) (v d)))) (by (by (by (v (pos m)) (v bn)) (v rq)) (v d)) (omega arith) in
    let third = ap (λ z. z *ℤ d) is in
    let fourth = identity (by (by (by (v qn) (minus (v (pos m)) (v (pos a)))) (v r)) (v d)) (minus (by (v (pos m)) (by (by (v qn) (v r)) (v d))) (by (v (pos a)) (by (by (v qn) (v r)) (v d)))) (omega arith) in
    let scaled = scaled-most (pos m) (r *ℤ (qn *ℤ d)) (rq *ℤ (bn *ℤ d)) (omega (arith, ints)) most in
    by_lt_z (pos 0) (pos a)
    (λ some.
    let product = positive-product (pos a) all some (positive-product (qn *ℤ r) d (positive-product qn r qn_some r_some) d_some) in
    absurd (omega (arith, ints, first, second, third, fourth, scaled, product)))
    (λ upto. omega (arith, ints, upto))

-- The way from a point to another one meets no edge after its start, where no point of an edge is nearer.
pub meets-at_start : (sides edges : List Edge) (to from : RationalPoint) (side : Edge) → IsTop sides (apart to from) side → pos 0 <ℤ wide side → pos 0 <ℤ reach side (apart to from) → ((edge : Edge) (other : RationalPoint) (other_side : Edge) → Contains edges edge → IsOf edge other → IsTop sides (apart to other) other_side → IsAsNear to from side other other_side) → MeetsAtStart edges from to
meets-at_start sides edges to from side is_top some far least edge point a m of_edges of on =
    let within = on.share in
    let m_some = on.some in
    let from_some = from.positive in
    let point_some = point.positive in
    let k = pos m *ℤ pos from.n in
    let l = pos point.n *ℤ (pos m -ℤ pos a) in
    let above = above-product (pos point.n) (pos m -ℤ pos a) (omega (arith, ints)) (omega (arith, ints, within)) in
    let positive = positive-product (pos m) (pos from.n) (omega (arith, ints, m_some)) (omega (arith, ints, from_some)) in
    let is = rest from to point a m on in
    let there = top-scaled sides (apart to point) (apart to from) side k l positive above is is_top in
    share-none m a (pos point.n) (pos from.n) (wide side) (reach side (apart to from)) (reach side (apart to point)) m_some (omega (arith, ints, point_some)) some far (is (record { x = side.x1 -ℤ side.x0; y = side.y1 -ℤ side.y0 })) (least edge point side of_edges of there)
