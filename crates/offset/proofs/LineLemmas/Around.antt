-- The shape at a point: its sides wind around each point strictly inside, and around no point outside.
use Rattle.std.proofs.Common.{◌≡◌, ◌≢◌, ◌⊎◌, inl, inr, ⊎_elim, ℕ, zero, suc, ◌+◌, ◌*◌, ◌<◌, ◌≤◌, ℤ, pos, ◌+ℤ◌, ◌-ℤ◌, ◌*ℤ◌, ◌≤ℤ◌, ◌<ℤ◌, List, [], ◌∷◌, map, refl, ap, ap₂, subst, sym, ◌∙◌, arith}
use Rattle.std.specs.List.{All, Contains}
use Rattle.std.proofs.Math.Nat.{mul-pos}
use Rattle.std.proofs.lemmas.Int.{by_lt_z, ints}
use Rattle.std.proofs.lemmas.List.Elements.{All-contains, All-weaker}
use Rattle.plane.specs.declared.edge.Edge.{Edge}
use Rattle.plane.specs.declared.point.Point.{Point}
use Rattle.plane.specs.Ends.{edge_between, end_of, start_of}
use Rattle.plane.specs.Lines.{height_over}
use Rattle.plane.specs.Meet.Crosses.{cross}
use Rattle.plane.specs.Meet.Edges.{IsOf, RationalPoint}
use Rattle.plane.proofs.MeetLemmas.Identities.{Term, identity, minus, number, plus, times}
use Rattle.plane.proofs.PairsLemmas.Bags.{Contains-from_map, Contains-map}
use Rattle.noding.specs.Windings.{IsClosed, winding}
use Rattle.noding.proofs.SnapLemmas.Numbers.{Natural, n_of, natural, product_positive}
use Rattle.overlay.specs.Fill.Pieces.{total}
use Rattle.overlay.proofs.FillLemmas.Premises.{All-among}
use Rattle.overlay.proofs.FillLemmas.Totals.{total-same, total-sum}
use Rattle.offset.specs.Lines.{shape_at}
use Rattle.offset.specs.Pieces.{part_of_fan}
use Rattle.offset.specs.Raw.{GoesThrough, moved, moved_edge}
use Rattle.offset.specs.Shape.{IsConvexAroundOrigin, IsIn, IsLeftOf, neighbours, sides, turn}
use Rattle.offset.proofs.CoverLemmas.Numbers.{above-factor, above-product, unscaled-most}
use Rattle.offset.proofs.CoverLemmas.Shapes.{IsShape, by_ends, reach-ends}
use Rattle.offset.proofs.CoverLemmas.Sides.{IsOnWay}
use Rattle.offset.proofs.CoverLemmas.Vectors.{crossed, crossing, term, turn_back, way, wide}
use Rattle.offset.proofs.LineLemmas.Round.{closed-of, gain, ring-gain}
use Rattle.offset.proofs.PieceLemmas.Convex.{shape-of}
use Rattle.offset.proofs.PieceLemmas.Parts.{side-counts, side-part-winds, spoke, total-from, total-map, total-natural, total-some}
use Rattle.offset.proofs.PieceLemmas.Rounds.{start-held}
use Rattle.offset.proofs.PieceLemmas.Sides.{left_by, passed_by, winding-passed}
use Rattle.offset.proofs.SideLemmas.Ways.{Crossed, winds-alike}

-- ---- what lies to the left

-- The point as it is seen from a whole one.
abbrev pub seen_from : RationalPoint → Point → RationalPoint
seen_from point at = record { n = point.n; x = point.x -ℤ (pos point.n *ℤ at.x); y = point.y -ℤ (pos point.n *ℤ at.y); positive = point.positive }

-- its vector
abbrev pub vector_of : RationalPoint → Point
vector_of point = record { x = point.x; y = point.y }

-- A point lies as far to the left of a moved side as it does of the side, seen from there.
pub left-moved : (at : Point) (side : Edge) (point : RationalPoint) → left_by (moved_edge at side) point ≡ left_by side (seen_from point at)
left-moved at side point =
    let n = n_of point.n in
    let out = λ (p a s : ℤ). minus (minus (number p) (times n (number a))) (times n (number s)) in
    let far = λ (p a s : ℤ). minus (number p) (times n (plus (number a) (number s))) in
    let step = λ (s t : ℤ). minus (number t) (number s) in
    let moved_step = λ (a s t : ℤ). minus (plus (number a) (number t)) (plus (number a) (number s)) in
    identity
    (minus (times (moved_step at.x side.x0 side.x1) (far point.y at.y side.y0)) (times (moved_step at.y side.y0 side.y1) (far point.x at.x side.x0)))
    (minus (times (step side.x0 side.x1) (out point.y at.y side.y0)) (times (step side.y0 side.y1) (out point.x at.x side.x0))) (omega arith)

-- How far that is, by the side's width.
pub left-is : (side : Edge) (point : RationalPoint) → left_by side point ≡ ((pos point.n *ℤ wide side) -ℤ crossed (vector_of point) (way side))
left-is side point =
    let step = λ (s t : ℤ). minus (number t) (number s) in
    let out = λ (p s : ℤ). minus (number p) (times (n_of point.n) (number s)) in
    identity
    (minus (times (step side.x0 side.x1) (out point.y side.y0)) (times (step side.y0 side.y1) (out point.x side.x0)))
    (minus (times (n_of point.n) (minus (times (number side.x0) (number side.y1)) (times (number side.y0) (number side.x1)))) (minus (times (number point.x) (step side.y0 side.y1)) (times (number point.y) (step side.x0 side.x1)))) (omega arith)

pub height-is : (side : Edge) (corner : Point) → height_over side corner ≡ (wide side -ℤ crossed corner (way side))
height-is side corner =
    let step = λ (s t : ℤ). minus (number t) (number s) in
    identity
    (minus (times (step side.x0 side.x1) (step side.y0 corner.y)) (times (step side.y0 side.y1) (step side.x0 corner.x)))
    (minus (minus (times (number side.x0) (number side.y1)) (times (number side.y0) (number side.x1))) (minus (times (number corner.x) (step side.y0 side.y1)) (times (number corner.y) (step side.x0 side.x1)))) (omega arith)

-- the spokes of a part
spoke-from : (at a : Point) (point : RationalPoint) → left_by (edge_between at (moved at a)) point ≡ (pos 0 -ℤ crossed (vector_of (seen_from point at)) a)
spoke-from at a point =
    let n = n_of point.n in
    let out = λ (p s : ℤ). minus (number p) (times n (number s)) in
    let step = λ (s t : ℤ). minus (plus (number s) (number t)) (number s) in
    identity
    (minus (times (step at.x a.x) (out point.y at.y)) (times (step at.y a.y) (out point.x at.x)))
    (minus (n_of 0) (minus (times (out point.x at.x) (number a.y)) (times (out point.y at.y) (number a.x)))) (omega arith)

spoke-upto : (at b : Point) (point : RationalPoint) → left_by (edge_between (moved at b) at) point ≡ crossed (vector_of (seen_from point at)) b
spoke-upto at b point =
    let n = n_of point.n in
    let far = λ (p s t : ℤ). minus (number p) (times n (plus (number s) (number t))) in
    let out = λ (p s : ℤ). minus (number p) (times n (number s)) in
    let step = λ (s t : ℤ). minus (number s) (plus (number s) (number t)) in
    identity
    (minus (times (step at.x b.x) (far point.y at.y b.y)) (times (step at.y b.y) (far point.x at.x b.x)))
    (minus (times (out point.x at.x) (number b.y)) (times (out point.y at.y) (number b.x))) (omega arith)

-- a point by two corners
by_corners : (a b : Point) (point : RationalPoint) (f : Edge)
    → (crossed a b *ℤ left_by f point)
    ≡ ((crossed (vector_of point) b *ℤ height_over f a) +ℤ (((pos 0 -ℤ crossed (vector_of point) a) *ℤ height_over f b) +ℤ ((((pos point.n *ℤ crossed a b) -ℤ crossed (vector_of point) b) -ℤ (pos 0 -ℤ crossed (vector_of point) a)) *ℤ wide f)))
by_corners a b point f =
    ap (λ z. w *ℤ z) (left-is f point)
    ∙ identity (times (number w) (minus (times n (number (wide f))) (number (crossed v (way f))))) (minus (times (number w) (times n (number (wide f)))) (times (number w) (number (crossed v (way f))))) (omega arith)
    ∙ ap (λ z. (w *ℤ (pos point.n *ℤ wide f)) -ℤ z) (by_ends a b v (way f))
    ∙ identity
    (minus (times (number w) (times n (number (wide f)))) (plus (times (number first) (number (crossed a (way f)))) (times (minus (n_of 0) (number (crossed v a))) (number (crossed b (way f))))))
    (plus (times (number first) (minus (number (wide f)) (number (crossed a (way f))))) (plus (times (minus (n_of 0) (number (crossed v a))) (minus (number (wide f)) (number (crossed b (way f))))) (times (minus (minus (times n (number w)) (number first)) (minus (n_of 0) (number (crossed v a)))) (number (wide f))))) (omega arith)
    ∙ ap₂ (λ (s t : ℤ). (first *ℤ s) +ℤ (((pos 0 -ℤ crossed v a) *ℤ t) +ℤ ((((pos point.n *ℤ w) -ℤ first) -ℤ (pos 0 -ℤ crossed v a)) *ℤ wide f))) (sym (height-is f a)) (sym (height-is f b))
  where
    v : Point
    v = vector_of point

    w : ℤ
    w = crossed a b

    first : ℤ
    first = crossed v b

    n : Term
    n = n_of point.n

-- ---- on the way between two points

on-way-left : (edge : Edge) (from to point : RationalPoint) (a m : ℕ) → IsOnWay from to point a m
    → ((pos m *ℤ (pos from.n *ℤ pos to.n)) *ℤ left_by edge point) ≡ (pos point.n *ℤ (((pos m -ℤ pos a) *ℤ (pos to.n *ℤ left_by edge from)) +ℤ (pos a *ℤ (pos from.n *ℤ left_by edge to))))
on-way-left edge from to point a m on =
    ap (λ z. (pos m *ℤ (pos from.n *ℤ pos to.n)) *ℤ z) (left-is edge point)
    ∙ along (pos m *ℤ (pos from.n *ℤ pos to.n)) (pos point.n) (pos m) (pos a) (pos from.n) (pos to.n) (wide edge) (way edge).x (way edge).y point.x point.y from.x from.y to.x to.y refl on.x on.y
    ∙ ap₂ (λ (y z : ℤ). pos point.n *ℤ (((pos m -ℤ pos a) *ℤ (pos to.n *ℤ y)) +ℤ (pos a *ℤ (pos from.n *ℤ z)))) (sym (left-is edge from)) (sym (left-is edge to))
  where
    along : (all n m a f t w dx dy px py fx fy tx ty : ℤ) → all ≡ (m *ℤ (f *ℤ t)) → (all *ℤ px) ≡ (n *ℤ (((m -ℤ a) *ℤ (t *ℤ fx)) +ℤ (a *ℤ (f *ℤ tx)))) → (all *ℤ py) ≡ (n *ℤ (((m -ℤ a) *ℤ (t *ℤ fy)) +ℤ (a *ℤ (f *ℤ ty))))
        → (all *ℤ ((n *ℤ w) -ℤ ((px *ℤ dy) -ℤ (py *ℤ dx)))) ≡ (n *ℤ (((m -ℤ a) *ℤ (t *ℤ ((f *ℤ w) -ℤ ((fx *ℤ dy) -ℤ (fy *ℤ dx))))) +ℤ (a *ℤ (f *ℤ ((t *ℤ w) -ℤ ((tx *ℤ dy) -ℤ (ty *ℤ dx)))))))
    along all n m a f t w dx dy px py fx fy tx ty is x_is y_is =
        identity (times (number all) (minus (times (number n) (number w)) (minus (times (number px) (number dy)) (times (number py) (number dx)))))
        (minus (times (times (number n) (number w)) (number all)) (minus (times (times (number all) (number px)) (number dy)) (times (times (number all) (number py)) (number dx)))) (omega arith)
        ∙ ap (λ z. ((n *ℤ w) *ℤ z) -ℤ (((all *ℤ px) *ℤ dy) -ℤ ((all *ℤ py) *ℤ dx))) is
        ∙ ap₂ (λ (x y : ℤ). ((n *ℤ w) *ℤ (m *ℤ (f *ℤ t))) -ℤ ((x *ℤ dy) -ℤ (y *ℤ dx))) x_is y_is
        ∙ parted (m -ℤ a) a (t *ℤ fx) (t *ℤ fy) (f *ℤ tx) (f *ℤ ty) (f *ℤ t) (let z = ap (λ z. z *ℤ (f *ℤ t)) (whole m a) in z)
        ∙ ap₂ (λ (y z : ℤ). n *ℤ (((m -ℤ a) *ℤ y) +ℤ (a *ℤ z))) (factor t f w fx fy) (other_factor f t w tx ty)
      where
        whole : (m a : ℤ) → m ≡ ((m -ℤ a) +ℤ a)
        whole m a = omega (arith, ints)

        parted : (b c x y u v k : ℤ) → (m *ℤ k) ≡ ((b +ℤ c) *ℤ k)
            → (((n *ℤ w) *ℤ (m *ℤ k)) -ℤ (((n *ℤ ((b *ℤ x) +ℤ (c *ℤ u))) *ℤ dy) -ℤ ((n *ℤ ((b *ℤ y) +ℤ (c *ℤ v))) *ℤ dx)))
            ≡ (n *ℤ ((b *ℤ ((k *ℤ w) -ℤ ((x *ℤ dy) -ℤ (y *ℤ dx)))) +ℤ (c *ℤ ((k *ℤ w) -ℤ ((u *ℤ dy) -ℤ (v *ℤ dx))))))
        parted b c x y u v k sum =
            ap (λ z. ((n *ℤ w) *ℤ z) -ℤ (((n *ℤ ((b *ℤ x) +ℤ (c *ℤ u))) *ℤ dy) -ℤ ((n *ℤ ((b *ℤ y) +ℤ (c *ℤ v))) *ℤ dx))) sum
            ∙ identity
            (minus (times (times (number n) (number w)) (times (plus (number b) (number c)) (number k))) (minus (times (times (number n) (plus (times (number b) (number x)) (times (number c) (number u)))) (number dy)) (times (times (number n) (plus (times (number b) (number y)) (times (number c) (number v)))) (number dx))))
            (times (number n) (plus (times (number b) (minus (times (number k) (number w)) (minus (times (number x) (number dy)) (times (number y) (number dx))))) (times (number c) (minus (times (number k) (number w)) (minus (times (number u) (number dy)) (times (number v) (number dx))))))) (omega arith)

        factor : (t f w x y : ℤ) → (((f *ℤ t) *ℤ w) -ℤ (((t *ℤ x) *ℤ dy) -ℤ ((t *ℤ y) *ℤ dx))) ≡ (t *ℤ ((f *ℤ w) -ℤ ((x *ℤ dy) -ℤ (y *ℤ dx))))
        factor t f w x y =
            identity (minus (times (times (number f) (number t)) (number w)) (minus (times (times (number t) (number x)) (number dy)) (times (times (number t) (number y)) (number dx))))
            (times (number t) (minus (times (number f) (number w)) (minus (times (number x) (number dy)) (times (number y) (number dx))))) (omega arith)

        other_factor : (f t w x y : ℤ) → (((f *ℤ t) *ℤ w) -ℤ (((f *ℤ x) *ℤ dy) -ℤ ((f *ℤ y) *ℤ dx))) ≡ (f *ℤ ((t *ℤ w) -ℤ ((x *ℤ dy) -ℤ (y *ℤ dx))))
        other_factor f t w x y =
            identity (minus (times (times (number f) (number t)) (number w)) (minus (times (times (number f) (number x)) (number dy)) (times (times (number f) (number y)) (number dx))))
            (times (number f) (minus (times (number t) (number w)) (minus (times (number x) (number dy)) (times (number y) (number dx))))) (omega arith)

of-edge-left : (edge : Edge) (point : RationalPoint) → IsOf edge point → left_by edge point ≡ pos 0
of-edge-left edge point (a, at) =
    ap₂ (λ (x y : ℤ). ((edge.x1 -ℤ edge.x0) *ℤ (y -ℤ (pos point.n *ℤ edge.y0))) -ℤ ((edge.y1 -ℤ edge.y0) *ℤ (x -ℤ (pos point.n *ℤ edge.x0)))) at.x at.y
    ∙ identity (minus (times dx (minus (plus (times n (number edge.y0)) (times (n_of a) dy)) (times n (number edge.y0)))) (times dy (minus (plus (times n (number edge.x0)) (times (n_of a) dx)) (times n (number edge.x0))))) (n_of 0) (omega arith)
  where
    n : Term
    n = n_of point.n

    dx : Term
    dx = minus (number edge.x1) (number edge.x0)

    dy : Term
    dy = minus (number edge.y1) (number edge.y0)

-- what lies to the left of an edge on both ends does so between
between-left : (edge : Edge) (from to point : RationalPoint) (a m : ℕ) → IsOnWay from to point a m → pos 0 <ℤ left_by edge from → pos 0 <ℤ left_by edge to → left_by edge point ≢ pos 0
between-left edge from to point a m on from_left to_left none =
    let sum = on-way-left edge from to point a m on in
    let share = on.share in
    let some = on.some in
    let from_some = from.positive in
    let to_some = to.positive in
    let point_some = point.positive in
    let first = product_positive (pos to.n) (left_by edge from) (omega (arith, ints, to_some)) from_left in
    let second = product_positive (pos from.n) (left_by edge to) (omega (arith, ints, from_some)) to_left in
    let one = above-product (pos m -ℤ pos a) (pos to.n *ℤ left_by edge from) (omega (arith, ints, share)) (omega (arith, ints, first)) in
    let other = above-product (pos a) (pos from.n *ℤ left_by edge to) (omega (arith, ints)) (omega (arith, ints, second)) in
    let gone = ap (λ z. (pos m *ℤ (pos from.n *ℤ pos to.n)) *ℤ z) none ∙ identity (times (times (n_of m) (times (n_of from.n) (n_of to.n))) (n_of 0)) (n_of 0) (omega arith) in
    by a (omega (arith, ints, one, other)) (λ is.
    let whole_sum = product_positive (pos point.n) (((pos m -ℤ pos a) *ℤ (pos to.n *ℤ left_by edge from)) +ℤ (pos a *ℤ (pos from.n *ℤ left_by edge to))) (omega (arith, ints, point_some)) is in
    omega (arith, ints, sum, gone, whole_sum)) first second share some
  where
    by : (a : ℕ) → pos 0 ≤ℤ (((pos m -ℤ pos a) *ℤ (pos to.n *ℤ left_by edge from)) +ℤ (pos a *ℤ (pos from.n *ℤ left_by edge to)))
        → (pos 0 <ℤ (((pos m -ℤ pos a) *ℤ (pos to.n *ℤ left_by edge from)) +ℤ (pos a *ℤ (pos from.n *ℤ left_by edge to))) → ⊥)
        → pos 0 <ℤ (pos to.n *ℤ left_by edge from) → pos 0 <ℤ (pos from.n *ℤ left_by edge to) → a ≤ m → 0 < m → ⊥
    by zero above never first second share some =
        let more = product_positive (pos m -ℤ pos 0) (pos to.n *ℤ left_by edge from) (omega (arith, ints, some)) first in
        let none = identity (times (n_of 0) (number (pos from.n *ℤ left_by edge to))) (n_of 0) (omega arith) in
        never (omega (arith, ints, more, none))
    by (suc a) above never first second share some =
        let more = product_positive (pos (suc a)) (pos from.n *ℤ left_by edge to) (omega (arith, ints)) second in
        let rest = above-product (pos m -ℤ pos (suc a)) (pos to.n *ℤ left_by edge from) (omega (arith, ints, share)) (omega (arith, ints, first)) in
        never (omega (arith, ints, more, rest))

-- ---- what lies on an edge

-- A point that lies so many parts of the way along an edge is one that the edge goes through.
pub goes-through : (edge : Edge) (point : RationalPoint) (k m : ℕ) → 0 < m → k ≤ point.n * m
    → (pos m *ℤ (point.x -ℤ (pos point.n *ℤ edge.x0))) ≡ (pos k *ℤ (edge.x1 -ℤ edge.x0)) → (pos m *ℤ (point.y -ℤ (pos point.n *ℤ edge.y0))) ≡ (pos k *ℤ (edge.y1 -ℤ edge.y0)) → GoesThrough edge point
goes-through edge point k m some upto along_x along_y = (
  record {
    n = point.n * m;
    x = (pos (point.n * m) *ℤ edge.x0) +ℤ (pos k *ℤ (edge.x1 -ℤ edge.x0));
    y = (pos (point.n * m) *ℤ edge.y0) +ℤ (pos k *ℤ (edge.y1 -ℤ edge.y0));
    positive = mul-pos point.positive some;
  },
  (k, record { share = upto; x = refl; y = refl }),
  record { x = same point.n point.x edge.x0 (edge.x1 -ℤ edge.x0) along_x; y = same point.n point.y edge.y0 (edge.y1 -ℤ edge.y0) along_y },
)
  where
    same : (n : ℕ) (p u d : ℤ) → (pos m *ℤ (p -ℤ (pos n *ℤ u))) ≡ (pos k *ℤ d) → (pos n *ℤ ((pos (n * m) *ℤ u) +ℤ (pos k *ℤ d))) ≡ (pos (n * m) *ℤ p)
    same n p u d is =
        ap (λ z. pos n *ℤ ((pos (n * m) *ℤ u) +ℤ z)) (sym is)
        ∙ identity (times (n_of n) (plus (times (n_of (n * m)) (number u)) (times (n_of m) (minus (number p) (times (n_of n) (number u)))))) (times (n_of (n * m)) (number p)) (omega arith)

-- a vector by two others, which don't run along one another
pub cramer_x : (c d w : Point) → (crossed c d *ℤ w.x) ≡ ((crossed c w *ℤ d.x) +ℤ (crossed w d *ℤ c.x))
cramer_x c d w = identity (times (crossing (term c) (term d)) (number w.x)) (plus (times (crossing (term c) (term w)) (number d.x)) (times (crossing (term w) (term d)) (number c.x))) (omega arith)

pub cramer_y : (c d w : Point) → (crossed c d *ℤ w.y) ≡ ((crossed c w *ℤ d.y) +ℤ (crossed w d *ℤ c.y))
cramer_y c d w = identity (times (crossing (term c) (term d)) (number w.y)) (plus (times (crossing (term c) (term w)) (number d.y)) (times (crossing (term w) (term d)) (number c.y))) (omega arith)

-- how far a point lies to the left of an edge, seen from its end
left-end : (edge : Edge) (point : RationalPoint) → left_by edge point ≡ crossed (way edge) (vector_of (seen_from point (end_of edge)))
left-end edge point =
    let step = λ (s t : ℤ). minus (number t) (number s) in
    let out = λ (p s : ℤ). minus (number p) (times (n_of point.n) (number s)) in
    identity
    (minus (times (step edge.x0 edge.x1) (out point.y edge.y0)) (times (step edge.y0 edge.y1) (out point.x edge.x0)))
    (minus (times (step edge.x0 edge.x1) (out point.y edge.y1)) (times (step edge.y0 edge.y1) (out point.x edge.x1))) (omega arith)

-- ---- the shape

module _ (corners : List Point) (convex : IsConvexAroundOrigin corners) where
  -- no corner lies to the right of a side
  pub corner-height : (f : Edge) → Contains (sides corners) f → (corner : Point) → Contains corners corner → pos 0 ≤ℤ height_over f corner
  corner-height f held corner among =
      All-contains (λ (c : Point). pos 0 ≤ℤ height_over f c) corners corner (All-contains (λ (e : Edge). All (λ (c : Point). pos 0 ≤ℤ height_over e c) corners) (sides corners) f convex.convex held) among

  -- each side has its ends among them
  pub end-among : (side : Edge) → Contains (sides corners) side → Contains corners (end_of side)
  end-among side held =
      let shape = shape-of corners convex in
      let (next, pair) = shape.next side held in
      let corner = shape.corner side next pair in
      subst (λ (c : Point). Contains corners c) (sym corner.joined) (start-held corners next corner.after)

  pub side-wide : (side : Edge) → Contains (sides corners) side → pos 0 <ℤ wide side
  side-wide side held = (shape-of corners convex).around side held

  -- a point that lies between the ends of a side, and not beyond it, is of the shape
  in-part : (side : Edge) → Contains (sides corners) side → (point : RationalPoint) → pos 0 ≤ℤ crossed (vector_of point) (end_of side) → pos 0 ≤ℤ (pos 0 -ℤ crossed (vector_of point) (start_of side)) → pos 0 ≤ℤ left_by side point → IsIn corners point
  in-part side held point upto from before =
      All-among (λ (f : Edge). IsLeftOf f point) (sides corners) each
    where
      rest : pos 0 ≤ℤ (((pos point.n *ℤ wide side) -ℤ crossed (vector_of point) (end_of side)) -ℤ (pos 0 -ℤ crossed (vector_of point) (start_of side)))
      rest = let is = left-is side point in let ends = reach-ends side (vector_of point) in omega (arith, ints, before, is, ends)

      each : (f : Edge) → Contains (sides corners) f → IsLeftOf f point
      each f f_held =
          let sum = by_corners (start_of side) (end_of side) point f in
          let one = above-product (crossed (vector_of point) (end_of side)) (height_over f (start_of side)) upto (corner-height f f_held (start_of side) (start-held corners side held)) in
          let other = above-product (pos 0 -ℤ crossed (vector_of point) (start_of side)) (height_over f (end_of side)) from (corner-height f f_held (end_of side) (end-among side held)) in
          let last = above-product (((pos point.n *ℤ wide side) -ℤ crossed (vector_of point) (end_of side)) -ℤ (pos 0 -ℤ crossed (vector_of point) (start_of side))) (wide f) rest (let some = side-wide f f_held in omega (arith, ints, some)) in
          above-factor (wide side) (left_by f point) (side-wide side held) (omega (arith, ints, sum, one, other, last))

  module _ (at : Point) where
    -- the sides there are closed
    pub shape-gain : (give : Point → ℤ) → total (gain give) (shape_at corners at) ≡ pos 0
    shape-gain give = total-map (gain give) (moved_edge at) (sides corners) ∙ ring-gain (λ point. give (moved at point)) corners

    module _ (point : RationalPoint) where
      abbrev part : Edge → ℤ
      part side = winding (part_of_fan at side) point

      -- they wind as the triangles between the point and the sides do together
      shape-winds : winding (shape_at corners at) point ≡ total part (sides corners)
      shape-winds =
          winding-passed (shape_at corners at) point
          ∙ total-map (λ (e : Edge). passed_by e point) (moved_edge at) (sides corners)
          ∙ total-same (λ (side : Edge). passed_by (moved_edge at side) point) (λ (side : Edge). part side +ℤ gain (spoke corners convex point at) side) (sides corners)
          (All-among (λ (side : Edge). passed_by (moved_edge at side) point ≡ (part side +ℤ gain (spoke corners convex point at) side)) (sides corners) (λ side held. side-counts corners convex point at side))
          ∙ total-sum part (gain (spoke corners convex point at)) (sides corners)
          ∙ last (total part (sides corners)) (total (gain (spoke corners convex point at)) (sides corners)) (ring-gain (spoke corners convex point at) corners)
        where
          last : (y z : ℤ) → z ≡ pos 0 → (y +ℤ z) ≡ y
          last y z none = omega (arith, ints, none)

      parts-natural : All (λ side. pos 0 ≤ℤ part side) (sides corners)
      parts-natural = All-among (λ (side : Edge). pos 0 ≤ℤ part side) (sides corners)
          (λ side held. ⊎_elim (λ none. omega (arith, ints, none)) (λ one. omega (arith, ints, one)) (side-part-winds corners convex point at side held).once)

      -- They wind around no point less than not at all.
      pub shape-natural : pos 0 ≤ℤ winding (shape_at corners at) point
      shape-natural = let is = shape-winds in let more = total-natural part (sides corners) parts-natural in omega (arith, ints, is, more)

      -- Where they wind around a point the shape has it, seen from there.
      pub shape-closed : winding (shape_at corners at) point ≢ pos 0 → IsIn corners (seen_from point at)
      shape-closed some =
          let (side, held, winds) = total-some part (sides corners) (λ none. some (shape-winds ∙ none)) in
          let (from, before, upto) = (side-part-winds corners convex point at side held).closed winds in
          in-part side held (seen_from point at)
          (subst (λ z. pos 0 ≤ℤ z) (spoke-upto at (end_of side) point) upto)
          (subst (λ z. pos 0 ≤ℤ z) (spoke-from at (start_of side) point) from)
          (subst (λ z. pos 0 ≤ℤ z) (left-moved at side point) before)

      -- strictly inside a triangle they do
      shape-part : (side : Edge) → Contains (sides corners) side → pos 0 <ℤ left_by (edge_between at (moved at (start_of side))) point → pos 0 <ℤ left_by (moved_edge at side) point → pos 0 <ℤ left_by (edge_between (moved at (end_of side)) at) point → pos 0 <ℤ winding (shape_at corners at) point
      shape-part side held from before upto =
          let is = shape-winds in
          let one = (side-part-winds corners convex point at side held).inside from before upto in
          let all = total-from part (sides corners) parts-natural side held in
          omega (arith, ints, is, one, all)

    -- a third of the way to both ends of a side
    abbrev centre : Edge → RationalPoint
    centre side = record { n = 3; x = (pos 3 *ℤ at.x) +ℤ (side.x0 +ℤ side.x1); y = (pos 3 *ℤ at.y) +ℤ (side.y0 +ℤ side.y1); positive = omega arith }

    centre-left : (side f : Edge) → left_by (moved_edge at f) (centre side) ≡ ((height_over f (start_of side) +ℤ height_over f (end_of side)) +ℤ wide f)
    centre-left side f =
        let step = λ (s t : ℤ). minus (number t) (number s) in
        let moved_step = λ (a s t : ℤ). minus (plus (number a) (number t)) (plus (number a) (number s)) in
        let far = λ (a s t f : ℤ). minus (plus (times (n_of 3) (number a)) (plus (number s) (number t))) (times (n_of 3) (plus (number a) (number f))) in
        let high = λ (x y : ℤ). minus (times (step f.x0 f.x1) (step f.y0 y)) (times (step f.y0 f.y1) (step f.x0 x)) in
        identity
        (minus (times (moved_step at.x f.x0 f.x1) (far at.y side.y0 side.y1 f.y0)) (times (moved_step at.y f.y0 f.y1) (far at.x side.x0 side.x1 f.x0)))
        (plus (plus (high side.x0 side.y0) (high side.x1 side.y1)) (minus (times (number f.x0) (number f.y1)) (times (number f.y0) (number f.x1)))) (omega arith)

    centre-side : (side : Edge) → left_by (moved_edge at side) (centre side) ≡ wide side
    centre-side side =
        let moved_step = λ (a s t : ℤ). minus (plus (number a) (number t)) (plus (number a) (number s)) in
        let far = λ (a s t f : ℤ). minus (plus (times (n_of 3) (number a)) (plus (number s) (number t))) (times (n_of 3) (plus (number a) (number f))) in
        identity
        (minus (times (moved_step at.x side.x0 side.x1) (far at.y side.y0 side.y1 side.y0)) (times (moved_step at.y side.y0 side.y1) (far at.x side.x0 side.x1 side.x0)))
        (minus (times (number side.x0) (number side.y1)) (times (number side.y0) (number side.x1))) (omega arith)

    centre-from : (side : Edge) → left_by (edge_between at (moved at (start_of side))) (centre side) ≡ wide side
    centre-from side =
        let step = λ (a s : ℤ). minus (plus (number a) (number s)) (number a) in
        let far = λ (a s t : ℤ). minus (plus (times (n_of 3) (number a)) (plus (number s) (number t))) (times (n_of 3) (number a)) in
        identity
        (minus (times (step at.x side.x0) (far at.y side.y0 side.y1)) (times (step at.y side.y0) (far at.x side.x0 side.x1)))
        (minus (times (number side.x0) (number side.y1)) (times (number side.y0) (number side.x1))) (omega arith)

    centre-upto : (side : Edge) → left_by (edge_between (moved at (end_of side)) at) (centre side) ≡ wide side
    centre-upto side =
        let step = λ (a t : ℤ). minus (number a) (plus (number a) (number t)) in
        let far = λ (a s t : ℤ). minus (plus (times (n_of 3) (number a)) (plus (number s) (number t))) (times (n_of 3) (plus (number a) (number t))) in
        identity
        (minus (times (step at.x side.x1) (far at.y side.y0 side.y1)) (times (step at.y side.y1) (far at.x side.x0 side.x1)))
        (minus (times (number side.x0) (number side.y1)) (times (number side.y0) (number side.x1))) (omega arith)

    -- Strictly inside of all sides they wind.
    pub shape-inside : (point : RationalPoint) → ((f : Edge) → Contains (sides corners) f → pos 0 <ℤ left_by (moved_edge at f) point) → pos 0 <ℤ winding (shape_at corners at) point
    shape-inside point strictly =
        let (side, held) = (shape-of corners convex).some in
        let some = side-wide side held in
        let at_centre = shape-part (centre side) side held
        (let is = centre-from side in omega (arith, ints, some, is)) (let is = centre-side side in omega (arith, ints, some, is)) (let is = centre-upto side in omega (arith, ints, some, is)) in
        let same = winds-alike (shape_at corners at) (closed-of (shape_at corners at) shape-gain) point (centre side) (never side held) in
        omega (arith, ints, at_centre, same)
      where
        from_centre : (side : Edge) → Contains (sides corners) side → (f : Edge) → Contains (sides corners) f → pos 0 <ℤ left_by (moved_edge at f) (centre side)
        from_centre side held f f_held =
            let is = centre-left side f in
            let one = corner-height f f_held (start_of side) (start-held corners side held) in
            let other = corner-height f f_held (end_of side) (end-among side held) in
            let some = side-wide f f_held in
            omega (arith, ints, is, one, other, some)

        never : (side : Edge) → Contains (sides corners) side → ¬ (Crossed (shape_at corners at) point (centre side))
        never side held found =
            let (f, f_held, is) = Contains-from_map (moved_edge at) (sides corners) found.edge found.among in
            between-left found.edge point (centre side) found.point found.a found.m found.on
            (subst (λ (e : Edge). pos 0 <ℤ left_by e point) is (strictly f f_held))
            (subst (λ (e : Edge). pos 0 <ℤ left_by e (centre side)) is (from_centre side held f f_held))
            (of-edge-left found.edge found.point found.of)

    -- A point that the shape has, seen from there, lies strictly inside of all sides, if none goes through it.
    pub shape-strictly : (point : RationalPoint) → IsIn corners (seen_from point at) → ((edge : Edge) → Contains (shape_at corners at) edge → ¬ (GoesThrough edge point)) → (f : Edge) → Contains (sides corners) f → pos 0 <ℤ left_by (moved_edge at f) point
    shape-strictly point inside off f held =
        by_lt_z (pos 0) (left_by (moved_edge at f) point) (λ above. above)
        (λ upto.
        let from = All-contains (λ (e : Edge). IsLeftOf e q) (sides corners) f inside held in
        let same = left-moved at f point in
        absurd (off (moved_edge at f) (Contains-map (moved_edge at) (sides corners) f held) (on-side (omega (arith, ints, from, same, upto)))))
      where
        q : RationalPoint
        q = seen_from point at

        r : Point
        r = vector_of (seen_from q (start_of f))

        shape : IsShape (sides corners) (neighbours (sides corners))
        shape = shape-of corners convex

        left-of : (e : Edge) → Contains (sides corners) e → pos 0 ≤ℤ left_by e q
        left-of e e_held = All-contains (λ (e : Edge). IsLeftOf e q) (sides corners) e inside e_held

        -- by the side before it lies behind the start, and by the side behind it before the end
        between : (e g : Edge) → Contains (sides corners) e → Contains (sides corners) g → end_of e ≡ start_of f → end_of f ≡ start_of g → pos 0 <ℤ crossed (way e) (way f) → pos 0 <ℤ crossed (way f) (way g) → left_by f q ≡ pos 0 → GoesThrough (moved_edge at f) point
        between e g e_held g_held joined g_joined turns g_turns none = found (natural (crossed (way e) (way f)) (omega (arith, ints, turns))) (natural (crossed (way e) r) behind)
          where
            behind : pos 0 ≤ℤ crossed (way e) r
            behind = subst (λ z. pos 0 ≤ℤ z) (left-end e q ∙ ap (λ (p : Point). crossed (way e) (vector_of (seen_from q p))) joined) (left-of e e_held)

            none_back : crossed r (way f) ≡ pos 0
            none_back = turn_back r (way f) ∙ ap (λ z. pos 0 -ℤ z) none

            x_is : (crossed (way e) (way f) *ℤ r.x) ≡ (crossed (way e) r *ℤ (way f).x)
            x_is = cramer_x (way e) (way f) r ∙ ap (λ z. (crossed (way e) r *ℤ (way f).x) +ℤ (z *ℤ (way e).x)) none_back ∙ identity (plus (times (number (crossed (way e) r)) (number (way f).x)) (times (n_of 0) (number (way e).x))) (times (number (crossed (way e) r)) (number (way f).x)) (omega arith)

            y_is : (crossed (way e) (way f) *ℤ r.y) ≡ (crossed (way e) r *ℤ (way f).y)
            y_is = cramer_y (way e) (way f) r ∙ ap (λ z. (crossed (way e) r *ℤ (way f).y) +ℤ (z *ℤ (way e).y)) none_back ∙ identity (plus (times (number (crossed (way e) r)) (number (way f).y)) (times (n_of 0) (number (way e).y))) (times (number (crossed (way e) r)) (number (way f).y)) (omega arith)

            -- seen from the next side
            g_left : left_by g q ≡ crossed (way g) (vector_of (seen_from q (end_of f)))
            g_left = ap (λ (p : Point). crossed (way g) (vector_of (seen_from q p))) (sym g_joined)

            g_is : crossed (way g) (vector_of (seen_from q (end_of f))) ≡ (crossed (way g) r +ℤ (pos q.n *ℤ crossed (way f) (way g)))
            g_is =
                let out = λ (p s : ℤ). minus (number p) (times (n_of q.n) (number s)) in
                let step = λ (s t : ℤ). minus (number t) (number s) in
                identity
                (minus (times (number (way g).x) (out q.y f.y1)) (times (number (way g).y) (out q.x f.x1)))
                (plus (minus (times (number (way g).x) (out q.y f.y0)) (times (number (way g).y) (out q.x f.x0))) (times (n_of q.n) (minus (times (step f.x0 f.x1) (number (way g).y)) (times (step f.y0 f.y1) (number (way g).x))))) (omega arith)

            -- Q times that
            g_times : (crossed (way e) (way f) *ℤ crossed (way g) r) ≡ (crossed (way e) r *ℤ (pos 0 -ℤ crossed (way f) (way g)))
            g_times =
                identity (times (number turn_of) (minus (times (number (way g).x) (number r.y)) (times (number (way g).y) (number r.x)))) (minus (times (number (way g).x) (times (number turn_of) (number r.y))) (times (number (way g).y) (times (number turn_of) (number r.x)))) (omega arith)
                ∙ ap₂ (λ (y x : ℤ). ((way g).x *ℤ y) -ℤ ((way g).y *ℤ x)) y_is x_is
                ∙ identity (minus (times (number (way g).x) (times (number (crossed (way e) r)) (number (way f).y))) (times (number (way g).y) (times (number (crossed (way e) r)) (number (way f).x)))) (times (number (crossed (way e) r)) (minus (n_of 0) (crossing (term (way f)) (term (way g))))) (omega arith)
              where
                turn_of : ℤ
                turn_of = crossed (way e) (way f)

            before : crossed (way e) r ≤ℤ (pos q.n *ℤ crossed (way e) (way f))
            before =
                let from = left-of g g_held in
                let is = g_left ∙ g_is in
                let product = above-product (crossed (way e) (way f)) (crossed (way g) r +ℤ (pos q.n *ℤ crossed (way f) (way g))) (omega (arith, ints, turns)) (omega (arith, ints, from, is)) in
                let split = identity (times (number (crossed (way e) (way f))) (plus (number (crossed (way g) r)) (times (n_of q.n) (number (crossed (way f) (way g)))))) (plus (times (number (crossed (way e) (way f))) (number (crossed (way g) r))) (times (number (crossed (way f) (way g))) (times (n_of q.n) (number (crossed (way e) (way f)))))) (omega arith) in
                let turned_back = identity (times (number (crossed (way e) r)) (minus (n_of 0) (number (crossed (way f) (way g))))) (minus (n_of 0) (times (number (crossed (way f) (way g))) (number (crossed (way e) r)))) (omega arith) in
                let times_is = g_times in
                unscaled-most (crossed (way f) (way g)) (crossed (way e) r) (pos q.n *ℤ crossed (way e) (way f)) g_turns (omega (arith, ints, product, split, times_is, turned_back))

            on : (k m : ℕ) (n : ℕ) (p a s t : ℤ) → (pos m *ℤ ((p -ℤ (pos n *ℤ a)) -ℤ (pos n *ℤ s))) ≡ (pos k *ℤ (t -ℤ s)) → (pos m *ℤ (p -ℤ (pos n *ℤ (a +ℤ s)))) ≡ (pos k *ℤ ((a +ℤ t) -ℤ (a +ℤ s)))
            on k m n p a s t is =
                identity (times (n_of m) (minus (number p) (times (n_of n) (plus (number a) (number s))))) (times (n_of m) (minus (minus (number p) (times (n_of n) (number a))) (times (n_of n) (number s)))) (omega arith)
                ∙ is ∙ identity (times (n_of k) (minus (number t) (number s))) (times (n_of k) (minus (plus (number a) (number t)) (plus (number a) (number s)))) (omega arith)

            found : Natural (crossed (way e) (way f)) → Natural (crossed (way e) r) → GoesThrough (moved_edge at f) point
            found m k =
                let m_is = m.is in
                let k_is = k.is in
                let product = identity (times (n_of q.n) (n_of m.k)) (n_of (q.n * m.k)) (omega arith) in
                let whole_is = ap (λ z. pos q.n *ℤ z) m_is in
                let upto = before in
                goes-through (moved_edge at f) point k.k m.k (omega (arith, ints, m_is, turns)) (omega (arith, ints, upto, whole_is, product, k_is))
                (on k.k m.k point.n point.x at.x f.x0 f.x1 (ap (λ z. z *ℤ r.x) (sym m_is) ∙ x_is ∙ ap (λ z. z *ℤ (way f).x) k_is))
                (on k.k m.k point.n point.y at.y f.y0 f.y1 (ap (λ z. z *ℤ r.y) (sym m_is) ∙ y_is ∙ ap (λ z. z *ℤ (way f).y) k_is))

        on-side : left_by f q ≡ pos 0 → GoesThrough (moved_edge at f) point
        on-side none =
            let (e, before_pair) = shape.previous f held in
            let (g, behind_pair) = shape.next f held in
            let first = shape.corner e f before_pair in
            let second = shape.corner f g behind_pair in
            between e g first.before second.after first.joined second.joined first.left second.left none
