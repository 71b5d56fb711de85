-- What some point of an edge and some point of the shape add up to lies in the shape at one of its ends, or in the parallelogram
-- along it.
use Rattle.std.proofs.Common.{◌≡◌, ◌≢◌, ◌⊎◌, inl, inr, ℕ, ◌+◌, ◌-◌, ◌*◌, ◌<◌, ◌≤◌, ℤ, pos, ◌+ℤ◌, ◌-ℤ◌, ◌*ℤ◌, ◌≤ℤ◌, ◌<ℤ◌, List, [], ◌∷◌, refl, ap, ap₂, subst, sym, ◌∙◌, arith}
use Rattle.std.specs.List.{All, Contains}
use Rattle.std.proofs.Math.Nat.{mul-pos}
use Rattle.std.proofs.lemmas.Int.{by_lt_z, ints}
use Rattle.std.proofs.lemmas.List.Elements.{All-contains}
use Rattle.plane.specs.declared.edge.Edge.{Edge}
use Rattle.plane.specs.declared.point.Point.{Point}
use Rattle.plane.specs.Ends.{end_of, reversed, start_of}
use Rattle.plane.specs.Lines.{height_over}
use Rattle.plane.specs.Meet.Edges.{IsOf, RationalPoint}
use Rattle.plane.proofs.MeetLemmas.Identities.{Term, identity, minus, number, plus, times}
use Rattle.noding.specs.Windings.{winding}
use Rattle.noding.proofs.SnapLemmas.Numbers.{n_of}
use Rattle.overlay.proofs.FillLemmas.Premises.{All-among}
use Rattle.offset.specs.Lines.{along, shape_at}
use Rattle.offset.specs.Raw.{GoesThrough, furthest, moved_edge}
use Rattle.offset.specs.Shape.{IsConvexAroundOrigin, IsIn, IsLeftOf, neighbours, sides}
use Rattle.offset.specs.Sum.{IsOfSumWith}
use Rattle.offset.proofs.CoverLemmas.Numbers.{above-factor, above-product, scaled-most, unscaled-most}
use Rattle.offset.proofs.CoverLemmas.Shapes.{furthest-most, top}
use Rattle.offset.proofs.CoverLemmas.Vectors.{crossed, crossing, term, turn_back, way, wide}
use Rattle.offset.proofs.LineLemmas.Along.{a, across, along-inside, away-x, away-y, b, c, d, onwards, width}
use Rattle.offset.proofs.LineLemmas.Around.{corner-height, height-is, left-is, seen_from, shape-inside, shape-strictly, side-wide, vector_of}
use Rattle.offset.proofs.PieceLemmas.Convex.{furthest-is, furthest-pair, furthest-told, shape-of}
use Rattle.offset.proofs.PieceLemmas.Parts.{furthest-beside}
use Rattle.offset.proofs.PieceLemmas.Sides.{left_by}
use Rattle.offset.proofs.PieceLemmas.Sums.{furthest-held}
use Rattle.offset.proofs.SideLemmas.Ways.{all_or_one}

-- a product of numbers that aren't positive isn't negative
below-product : (p q : ℤ) → p ≤ℤ pos 0 → q ≤ℤ pos 0 → pos 0 ≤ℤ (p *ℤ q)
below-product p q first second =
    let turned = above-product (pos 0 -ℤ p) (pos 0 -ℤ q) (omega (arith, ints, first)) (omega (arith, ints, second)) in
    let same = identity (times (minus (n_of 0) (number p)) (minus (n_of 0) (number q))) (times (number p) (number q)) (omega arith) in
    omega (arith, ints, turned, same)

module _ (corners : List Point) (convex : IsConvexAroundOrigin corners) where
  -- no point of the shape lies further to the right of an edge than its furthest corner
  far-most : (edge : Edge) → start_of edge ≢ end_of edge → (by : RationalPoint) → IsIn corners by → crossed (vector_of by) (way edge) ≤ℤ (pos by.n *ℤ crossed (furthest corners edge) (way edge))
  far-most edge proper by inside =
      let (two, held, is) = furthest-pair corners convex edge proper in
      let (before, after) = furthest-told edge two is in
      let (side, is_top) = top (sides corners) (neighbours (sides corners)) (shape-of corners convex) (vector_of by) in
      let most = furthest-most (sides corners) (neighbours (sides corners)) (shape-of corners convex) (way edge) two.0 two.1 (record { pair = held; before = before; after = after }) (vector_of by) side is_top in
      let same = ap (λ (corner : Point). crossed (vector_of by) (way side) *ℤ (pos 0 -ℤ crossed (way edge) corner)) (furthest-is corners convex edge two held is) in
      let some = side-wide corners convex side is_top.of in
      let left = All-contains (λ (e : Edge). IsLeftOf e by) (sides corners) side inside is_top.of in
      let left_is = left-is side by in
      let right = furthest-beside corners convex edge proper in
      let turned = turn_back (furthest corners edge) (way edge) in
      let turned_by = turn_back (vector_of by) (way edge) in
      let reaches = scaled-most (pos 0 -ℤ crossed (way edge) (furthest corners edge)) (crossed (vector_of by) (way side)) (pos by.n *ℤ wide side) (omega (arith, ints, right, turned)) (omega (arith, ints, left, left_is)) in
      let one = identity (times (number (crossed (vector_of by) (way side))) (number (pos 0 -ℤ crossed (way edge) (furthest corners edge)))) (times (number (pos 0 -ℤ crossed (way edge) (furthest corners edge))) (number (crossed (vector_of by) (way side)))) (omega arith) in
      let other = identity (times (number (pos 0 -ℤ crossed (way edge) (furthest corners edge))) (times (n_of by.n) (number (wide side)))) (times (number (wide side)) (times (n_of by.n) (number (pos 0 -ℤ crossed (way edge) (furthest corners edge))))) (omega arith) in
      let first = identity (times (number (pos 0 -ℤ crossed (way edge) (vector_of by))) (number (wide side))) (times (number (wide side)) (number (pos 0 -ℤ crossed (way edge) (vector_of by)))) (omega arith) in
      let found = unscaled-most (wide side) (pos 0 -ℤ crossed (way edge) (vector_of by)) (pos by.n *ℤ (pos 0 -ℤ crossed (way edge) (furthest corners edge))) some (omega (arith, ints, most, same, reaches, one, other, first)) in
      let last = ap (λ z. pos by.n *ℤ z) turned in
      omega (arith, ints, found, turned_by, last)

  module _ (edge : Edge) (point : RationalPoint) (sum : IsOfSumWith (λ from. IsOf edge from) corners point) where
    abbrev t : ℕ
    t = sum.inside.0

    abbrev fn : ℕ
    fn = sum.from.n

    abbrev kn : ℕ
    kn = sum.by.n

    abbrev dd : Point
    dd = way edge

    some-fn : pos 0 <ℤ pos fn
    some-fn = let some = sum.from.positive in omega (arith, ints, some)

    some-m : pos 0 <ℤ pos (fn * kn)
    some-m = let some = mul-pos sum.from.positive sum.by.positive in omega (arith, ints, some)

    some-n : pos 0 <ℤ pos point.n
    some-n = let some = point.positive in omega (arith, ints, some)

    -- the point seen from an end, by what it is the sum of: one axis
    from-start : (p f k s e : ℤ) → (pos (fn * kn) *ℤ p) ≡ (pos point.n *ℤ ((f *ℤ pos kn) +ℤ (k *ℤ pos fn))) → f ≡ ((pos fn *ℤ s) +ℤ (pos t *ℤ (e -ℤ s)))
        → (pos (fn * kn) *ℤ (p -ℤ (pos point.n *ℤ s))) ≡ (pos point.n *ℤ (((pos t *ℤ pos kn) *ℤ (e -ℤ s)) +ℤ (pos fn *ℤ k)))
    from-start p f k s e adds is =
        identity (times (n_of (fn * kn)) (minus (number p) (times (n_of point.n) (number s)))) (minus (times (n_of (fn * kn)) (number p)) (times (n_of (fn * kn)) (times (n_of point.n) (number s)))) (omega arith)
        ∙ ap (λ z. z -ℤ (pos (fn * kn) *ℤ (pos point.n *ℤ s))) (adds ∙ ap (λ z. pos point.n *ℤ ((z *ℤ pos kn) +ℤ (k *ℤ pos fn))) is)
        ∙ identity
        (minus (times (n_of point.n) (plus (times (plus (times (n_of fn) (number s)) (times (n_of t) (minus (number e) (number s)))) (n_of kn)) (times (number k) (n_of fn)))) (times (n_of (fn * kn)) (times (n_of point.n) (number s))))
        (times (n_of point.n) (plus (times (times (n_of t) (n_of kn)) (minus (number e) (number s))) (times (n_of fn) (number k)))) (omega arith)

    start-x : (pos (fn * kn) *ℤ (point.x -ℤ (pos point.n *ℤ edge.x0))) ≡ (pos point.n *ℤ (((pos t *ℤ pos kn) *ℤ dd.x) +ℤ (pos fn *ℤ sum.by.x)))
    start-x = from-start point.x sum.from.x sum.by.x edge.x0 edge.x1 sum.x sum.inside.1.x

    start-y : (pos (fn * kn) *ℤ (point.y -ℤ (pos point.n *ℤ edge.y0))) ≡ (pos point.n *ℤ (((pos t *ℤ pos kn) *ℤ dd.y) +ℤ (pos fn *ℤ sum.by.y)))
    start-y = from-start point.y sum.from.y sum.by.y edge.y0 edge.y1 sum.y sum.inside.1.y

    -- how far a side lies to the right of it then
    left-start : (f : Edge) → (pos (fn * kn) *ℤ left_by f (seen_from point (start_of edge))) ≡ (pos point.n *ℤ (((pos t *ℤ pos kn) *ℤ crossed (way f) dd) +ℤ (pos fn *ℤ left_by f sum.by)))
    left-start f =
        ap (λ z. pos (fn * kn) *ℤ z) (left-is f (seen_from point (start_of edge)))
        ∙ by (pos (fn * kn)) (pos point.n) (pos t *ℤ pos kn) (pos fn) (pos kn) (wide f) (way f).x (way f).y (point.x -ℤ (pos point.n *ℤ edge.x0)) (point.y -ℤ (pos point.n *ℤ edge.y0)) dd.x dd.y sum.by.x sum.by.y (identity (n_of (fn * kn)) (times (n_of fn) (n_of kn)) (omega arith)) start-x start-y
        ∙ ap (λ z. pos point.n *ℤ (((pos t *ℤ pos kn) *ℤ crossed (way f) dd) +ℤ (pos fn *ℤ z))) (sym (left-is f sum.by))
      where
        by : (m n k g h w fx fy px py dx dy bx cy : ℤ) → m ≡ (g *ℤ h) → (m *ℤ px) ≡ (n *ℤ ((k *ℤ dx) +ℤ (g *ℤ bx))) → (m *ℤ py) ≡ (n *ℤ ((k *ℤ dy) +ℤ (g *ℤ cy)))
            → (m *ℤ ((n *ℤ w) -ℤ ((px *ℤ fy) -ℤ (py *ℤ fx)))) ≡ (n *ℤ ((k *ℤ ((fx *ℤ dy) -ℤ (fy *ℤ dx))) +ℤ (g *ℤ ((h *ℤ w) -ℤ ((bx *ℤ fy) -ℤ (cy *ℤ fx))))))
        by m n k g h w fx fy px py dx dy bx cy is x_is y_is =
            identity (times (number m) (minus (times (number n) (number w)) (minus (times (number px) (number fy)) (times (number py) (number fx)))))
            (minus (times (times (number n) (number w)) (number m)) (minus (times (times (number m) (number px)) (number fy)) (times (times (number m) (number py)) (number fx)))) (omega arith)
            ∙ ap (λ z. ((n *ℤ w) *ℤ z) -ℤ (((m *ℤ px) *ℤ fy) -ℤ ((m *ℤ py) *ℤ fx))) is
            ∙ ap₂ (λ (x y : ℤ). ((n *ℤ w) *ℤ (g *ℤ h)) -ℤ ((x *ℤ fy) -ℤ (y *ℤ fx))) x_is y_is
            ∙ identity
            (minus (times (times (number n) (number w)) (times (number g) (number h))) (minus (times (times (number n) (plus (times (number k) (number dx)) (times (number g) (number bx)))) (number fy)) (times (times (number n) (plus (times (number k) (number dy)) (times (number g) (number cy)))) (number fx))))
            (times (number n) (plus (times (number k) (minus (times (number fx) (number dy)) (times (number fy) (number dx)))) (times (number g) (minus (times (number h) (number w)) (minus (times (number bx) (number fy)) (times (number cy) (number fx))))))) (omega arith)

    -- and from the other end
    left-stop : (f : Edge) → left_by f (seen_from point (end_of edge)) ≡ (left_by f (seen_from point (start_of edge)) -ℤ (pos point.n *ℤ crossed (way f) dd))
    left-stop f =
        let n = n_of point.n in
        let fx = minus (number f.x1) (number f.x0) in
        let fy = minus (number f.y1) (number f.y0) in
        let out = λ (p s g : ℤ). minus (minus (number p) (times n (number s))) (times n (number g)) in
        identity
        (minus (times fx (out point.y edge.y1 f.y0)) (times fy (out point.x edge.x1 f.x0)))
        (minus (minus (times fx (out point.y edge.y0 f.y0)) (times fy (out point.x edge.x0 f.x0))) (times n (minus (times fx (minus (number edge.y1) (number edge.y0))) (times fy (minus (number edge.x1) (number edge.x0)))))) (omega arith)

    inside-by : (f : Edge) → Contains (sides corners) f → pos 0 ≤ℤ (pos fn *ℤ left_by f sum.by)
    inside-by f held = above-product (pos fn) (left_by f sum.by) (omega (arith, ints)) (All-contains (λ (e : Edge). IsLeftOf e sum.by) (sides corners) f sum.of_shape held)

    -- from an edge that is a point the shape there has it
    pub point-inside : (edge.x0 ≡ edge.x1) × (edge.y0 ≡ edge.y1) → IsIn corners (seen_from point (start_of edge))
    point-inside (same_x, same_y) =
        All-among (λ (f : Edge). IsLeftOf f (seen_from point (start_of edge))) (sides corners)
        (λ f held.
        let is = left-start f in
        let rest = inside-by f held in
        let none = no-way f in
        let nothing = ap (λ z. (pos t *ℤ pos kn) *ℤ z) none ∙ identity (times (times (n_of t) (n_of kn)) (n_of 0)) (n_of 0) (omega arith) in
        let product = above-product (pos point.n) (((pos t *ℤ pos kn) *ℤ crossed (way f) dd) +ℤ (pos fn *ℤ left_by f sum.by)) (omega (arith, ints)) (omega (arith, ints, nothing, rest)) in
        above-factor (pos (fn * kn)) (left_by f (seen_from point (start_of edge))) some-m (omega (arith, ints, is, product)))
      where
        no-way : (f : Edge) → crossed (way f) dd ≡ pos 0
        no-way f =
            ap₂ (λ (x y : ℤ). ((f.x1 -ℤ f.x0) *ℤ (edge.y1 -ℤ y)) -ℤ ((f.y1 -ℤ f.y0) *ℤ (edge.x1 -ℤ x))) same_x same_y
            ∙ identity (minus (times (minus (number f.x1) (number f.x0)) (minus (number edge.y1) (number edge.y1))) (times (minus (number f.y1) (number f.y0)) (minus (number edge.x1) (number edge.x1)))) (n_of 0) (omega arith)

    left-or : (at : Point) → IsIn corners (seen_from point at) ⊎ ((f : Edge) × Contains (sides corners) f × (left_by f (seen_from point at) <ℤ pos 0))
    left-or at = all_or_one (λ (f : Edge). IsLeftOf f (seen_from point at)) (λ (f : Edge). left_by f (seen_from point at) <ℤ pos 0) (sides corners) (λ f. by_lt_z (left_by f (seen_from point at)) (pos 0) (λ below. inr below) (λ from. inl from))

    module _ (proper : start_of edge ≢ end_of edge) where
      abbrev away : ℤ
      away = across corners convex edge proper point

      abbrev on : ℤ
      on = onwards corners convex edge proper point

      abbrev wide_by : ℤ
      wide_by = crossed (c corners convex edge) dd

      -- the same by what it lies away from the left border
      left-away : (f : Edge) → (wide_by *ℤ left_by f (seen_from point (start_of edge)))
          ≡ (((((pos point.n *ℤ wide_by) -ℤ away) *ℤ height_over f (b corners convex edge)) +ℤ (away *ℤ height_over f (a corners convex edge))) +ℤ (on *ℤ crossed (way f) dd))
      left-away f =
          ap (λ z. wide_by *ℤ z) (left-is f (seen_from point (start_of edge)))
          ∙ by wide_by (pos point.n) on away (wide f) (way f).x (way f).y (point.x -ℤ (pos point.n *ℤ edge.x0)) (point.y -ℤ (pos point.n *ℤ edge.y0)) dd.x dd.y left.x left.y right.x right.y
          (ap (λ z. wide_by *ℤ z) (apart point.n point.x left.x edge.x0) ∙ away-x corners convex edge proper point) (ap (λ z. wide_by *ℤ z) (apart point.n point.y left.y edge.y0) ∙ away-y corners convex edge proper point)
          ∙ ap₂ (λ (y z : ℤ). ((((pos point.n *ℤ wide_by) -ℤ away) *ℤ y) +ℤ (away *ℤ z)) +ℤ (on *ℤ crossed (way f) dd)) (sym (height-is f left)) (sym (height-is f right))
        where
          left : Point
          left = b corners convex edge

          right : Point
          right = a corners convex edge

          apart : (n : ℕ) (p l e : ℤ) → ((p -ℤ (pos n *ℤ e)) -ℤ (pos n *ℤ l)) ≡ (p -ℤ (pos n *ℤ (l +ℤ e)))
          apart n p l e = identity (minus (minus (number p) (times (n_of n) (number e))) (times (n_of n) (number l))) (minus (number p) (times (n_of n) (plus (number l) (number e)))) (omega arith)

          by : (k n o s w fx fy px py dx dy lx ly rx ry : ℤ) → (k *ℤ (px -ℤ (n *ℤ lx))) ≡ ((o *ℤ dx) +ℤ (s *ℤ (rx -ℤ lx))) → (k *ℤ (py -ℤ (n *ℤ ly))) ≡ ((o *ℤ dy) +ℤ (s *ℤ (ry -ℤ ly)))
              → (k *ℤ ((n *ℤ w) -ℤ ((px *ℤ fy) -ℤ (py *ℤ fx))))
              ≡ (((((n *ℤ k) -ℤ s) *ℤ (w -ℤ ((lx *ℤ fy) -ℤ (ly *ℤ fx)))) +ℤ (s *ℤ (w -ℤ ((rx *ℤ fy) -ℤ (ry *ℤ fx))))) +ℤ (o *ℤ ((fx *ℤ dy) -ℤ (fy *ℤ dx))))
          by k n o s w fx fy px py dx dy lx ly rx ry x_is y_is =
              identity (times (number k) (minus (times (number n) (number w)) (minus (times (number px) (number fy)) (times (number py) (number fx)))))
              (minus (times (times (number k) (number n)) (minus (number w) (minus (times (number lx) (number fy)) (times (number ly) (number fx))))) (minus (times (times (number k) (minus (number px) (times (number n) (number lx)))) (number fy)) (times (times (number k) (minus (number py) (times (number n) (number ly)))) (number fx)))) (omega arith)
              ∙ ap₂ (λ (x y : ℤ). ((k *ℤ n) *ℤ (w -ℤ ((lx *ℤ fy) -ℤ (ly *ℤ fx)))) -ℤ ((x *ℤ fy) -ℤ (y *ℤ fx))) x_is y_is
              ∙ identity
              (minus (times (times (number k) (number n)) (minus (number w) (minus (times (number lx) (number fy)) (times (number ly) (number fx))))) (minus (times (plus (times (number o) (number dx)) (times (number s) (minus (number rx) (number lx)))) (number fy)) (times (plus (times (number o) (number dy)) (times (number s) (minus (number ry) (number ly)))) (number fx))))
              (plus (plus (times (minus (times (number n) (number k)) (number s)) (minus (number w) (minus (times (number lx) (number fy)) (times (number ly) (number fx))))) (times (number s) (minus (number w) (minus (times (number rx) (number fy)) (times (number ry) (number fx)))))) (times (number o) (minus (times (number fx) (number dy)) (times (number fy) (number dx))))) (omega arith)

      -- it doesn't lie beyond the long sides
      away-is : (pos (fn * kn) *ℤ away) ≡ (pos point.n *ℤ (pos fn *ℤ (crossed (vector_of sum.by) dd -ℤ (pos kn *ℤ crossed (b corners convex edge) dd))))
      away-is =
          identity (times m (minus (times (minus (number point.x) (times n (plus (number left.x) (number edge.x0)))) dy) (times (minus (number point.y) (times n (plus (number left.y) (number edge.y0)))) dx)))
          (minus (minus (times (times m (minus (number point.x) (times n (number edge.x0)))) dy) (times (times m (minus (number point.y) (times n (number edge.y0)))) dx)) (times (times m n) (minus (times (number left.x) dy) (times (number left.y) dx)))) (omega arith)
          ∙ ap₂ (λ (x y : ℤ). ((x *ℤ dd.y) -ℤ (y *ℤ dd.x)) -ℤ ((pos (fn * kn) *ℤ pos point.n) *ℤ ((left.x *ℤ dd.y) -ℤ (left.y *ℤ dd.x)))) start-x start-y
          ∙ identity
          (minus (minus (times (seen dx (number sum.by.x)) dy) (times (seen dy (number sum.by.y)) dx)) (times (times m n) (minus (times (number left.x) dy) (times (number left.y) dx))))
          (times n (times (n_of fn) (minus (minus (times (number sum.by.x) dy) (times (number sum.by.y) dx)) (times (n_of kn) (minus (times (number left.x) dy) (times (number left.y) dx)))))) (omega arith)
        where
          left : Point
          left = b corners convex edge

          m : Term
          m = n_of (fn * kn)

          n : Term
          n = n_of point.n

          dx : Term
          dx = number dd.x

          dy : Term
          dy = number dd.y

          seen : Term → Term → Term
          seen way_on by = times n (plus (times (times (n_of t) (n_of kn)) way_on) (times (n_of fn) by))

      turned-way : (p : Point) → crossed p (way (reversed edge)) ≡ (pos 0 -ℤ crossed p dd)
      turned-way p =
          let step = λ (s e : ℤ). minus (number e) (number s) in
          identity (minus (times (number p.x) (step edge.y1 edge.y0)) (times (number p.y) (step edge.x1 edge.x0))) (minus (n_of 0) (minus (times (number p.x) (step edge.y0 edge.y1)) (times (number p.y) (step edge.x0 edge.x1)))) (omega arith)

      not-left : pos 0 ≤ℤ away
      not-left =
          let most = far-most (reversed edge) (λ same. proper (sym same)) sum.by sum.of_shape in
          let first = turned-way (vector_of sum.by) in
          let second = ap (λ z. pos kn *ℤ z) (turned-way (b corners convex edge)) in
          let split = identity (times (n_of kn) (minus (n_of 0) (number (crossed (b corners convex edge) dd)))) (minus (n_of 0) (times (n_of kn) (number (crossed (b corners convex edge) dd)))) (omega arith) in
          let inner = above-product (pos fn) (crossed (vector_of sum.by) dd -ℤ (pos kn *ℤ crossed (b corners convex edge) dd)) (omega (arith, ints)) (omega (arith, ints, most, first, second, split)) in
          let product = above-product (pos point.n) (pos fn *ℤ (crossed (vector_of sum.by) dd -ℤ (pos kn *ℤ crossed (b corners convex edge) dd))) (omega (arith, ints)) inner in
          let is = away-is in
          above-factor (pos (fn * kn)) away some-m (omega (arith, ints, is, product))

      not-right : away ≤ℤ (pos point.n *ℤ wide_by)
      not-right =
          let most = far-most edge proper sum.by sum.of_shape in
          let inner = above-product (pos fn) ((pos kn *ℤ crossed (a corners convex edge) dd) -ℤ crossed (vector_of sum.by) dd) (omega (arith, ints)) (omega (arith, ints, most)) in
          let product = above-product (pos point.n) (pos fn *ℤ ((pos kn *ℤ crossed (a corners convex edge) dd) -ℤ crossed (vector_of sum.by) dd)) (omega (arith, ints)) inner in
          let is = away-is in
          let whole_is = identity
          (times (n_of (fn * kn)) (times (n_of point.n) (minus (times (minus (number right.x) (number left.x)) (number dd.y)) (times (minus (number right.y) (number left.y)) (number dd.x)))))
          (plus (times (n_of point.n) (times (n_of fn) (minus (times (n_of kn) (crossing (term right) (term dd))) (crossing (term by) (term dd))))) (times (n_of point.n) (times (n_of fn) (minus (crossing (term by) (term dd)) (times (n_of kn) (crossing (term left) (term dd))))))) (omega arith) in
          unscaled-most (pos (fn * kn)) away (pos point.n *ℤ wide_by) some-m (omega (arith, ints, is, product, whole_is))
        where
          left : Point
          left = b corners convex edge

          right : Point
          right = a corners convex edge

          by : Point
          by = vector_of sum.by

      -- what a combination of the two corners has to the left of a side
      mixed-above : (f : Edge) → Contains (sides corners) f → pos 0 ≤ℤ ((((pos point.n *ℤ wide_by) -ℤ away) *ℤ height_over f (b corners convex edge)) +ℤ (away *ℤ height_over f (a corners convex edge)))
      mixed-above f held =
          let left = not-left in
          let right = not-right in
          let one = above-product ((pos point.n *ℤ wide_by) -ℤ away) (height_over f (b corners convex edge)) (omega (arith, ints, right)) (corner-height corners convex f held (b corners convex edge) (furthest-held corners convex (reversed edge) (λ same. proper (sym same)))) in
          let other = above-product away (height_over f (a corners convex edge)) left (corner-height corners convex f held (a corners convex edge) (furthest-held corners convex edge proper)) in
          omega (arith, ints, one, other)

      -- a point beyond the shape at the start lies onwards
      behind-start : (f : Edge) → Contains (sides corners) f → left_by f (seen_from point (start_of edge)) <ℤ pos 0 → pos 0 <ℤ on
      behind-start f held beyond = by_lt_z (pos 0) on (λ above. above) (λ upto. absurd (never upto (by_lt_z (crossed (way f) dd) (pos 0) (λ less. inl less) (λ more. inr more))))
        where
          never : on ≤ℤ pos 0 → (crossed (way f) dd <ℤ pos 0) ⊎ (pos 0 ≤ℤ crossed (way f) dd) → ⊥
          never upto (inl less) =
              let is = left-away f in
              let mixed = mixed-above f held in
              let more = below-product on (crossed (way f) dd) upto (omega (arith, ints, less)) in
              let left = above-factor wide_by (left_by f (seen_from point (start_of edge))) (width corners convex edge proper) (omega (arith, ints, is, mixed, more)) in
              omega (arith, ints, left, beyond)
          never upto (inr more) =
              let is = left-start f in
              let inner = above-product (pos t *ℤ pos kn) (crossed (way f) dd) (above-product (pos t) (pos kn) (omega (arith, ints)) (omega (arith, ints))) more in
              let rest = inside-by f held in
              let product = above-product (pos point.n) (((pos t *ℤ pos kn) *ℤ crossed (way f) dd) +ℤ (pos fn *ℤ left_by f sum.by)) (omega (arith, ints)) (omega (arith, ints, inner, rest)) in
              let left = above-factor (pos (fn * kn)) (left_by f (seen_from point (start_of edge))) some-m (omega (arith, ints, is, product)) in
              omega (arith, ints, left, beyond)

      -- and one beyond the shape at the end not further than the end
      before-stop : (f : Edge) → Contains (sides corners) f → left_by f (seen_from point (end_of edge)) <ℤ pos 0 → on <ℤ (pos point.n *ℤ wide_by)
      before-stop f held beyond = by_lt_z on (pos point.n *ℤ wide_by) (λ below. below) (λ from. absurd (never from (by_lt_z (pos 0) (crossed (way f) dd) (λ more. inl more) (λ less. inr less))))
        where
          never : (pos point.n *ℤ wide_by) ≤ℤ on → (pos 0 <ℤ crossed (way f) dd) ⊎ (crossed (way f) dd ≤ℤ pos 0) → ⊥
          never from (inl more) =
              let is = left-away f in
              let stop = ap (λ z. wide_by *ℤ z) (left-stop f) in
              let split = identity (times (number wide_by) (minus (number (left_by f (seen_from point (start_of edge)))) (times (n_of point.n) (number (crossed (way f) dd))))) (minus (times (number wide_by) (number (left_by f (seen_from point (start_of edge))))) (times (times (n_of point.n) (number wide_by)) (number (crossed (way f) dd)))) (omega arith) in
              let mixed = mixed-above f held in
              let rest = above-product (on -ℤ (pos point.n *ℤ wide_by)) (crossed (way f) dd) (omega (arith, ints, from)) (omega (arith, ints, more)) in
              let parted = identity (times (minus (number on) (times (n_of point.n) (number wide_by))) (number (crossed (way f) dd))) (minus (times (number on) (number (crossed (way f) dd))) (times (times (n_of point.n) (number wide_by)) (number (crossed (way f) dd)))) (omega arith) in
              let left = above-factor wide_by (left_by f (seen_from point (end_of edge))) (width corners convex edge proper) (omega (arith, ints, is, stop, split, mixed, rest, parted)) in
              omega (arith, ints, left, beyond)
          never from (inr less) =
              let is = left-start f in
              let stop = ap (λ z. pos (fn * kn) *ℤ z) (left-stop f) in
              let upto = sum.inside.1.share in
              let inner = below-product ((pos t -ℤ pos fn) *ℤ pos kn) (crossed (way f) dd) (short upto) less in
              let held_by = inside-by f held in
              let product = above-product (pos point.n) ((((pos t -ℤ pos fn) *ℤ pos kn) *ℤ crossed (way f) dd) +ℤ (pos fn *ℤ left_by f sum.by)) (omega (arith, ints)) (omega (arith, ints, inner, held_by)) in
              let split = identity (times (n_of (fn * kn)) (minus (number (left_by f (seen_from point (start_of edge)))) (times (n_of point.n) (number (crossed (way f) dd))))) (minus (times (n_of (fn * kn)) (number (left_by f (seen_from point (start_of edge))))) (times (n_of point.n) (times (times (n_of fn) (n_of kn)) (number (crossed (way f) dd))))) (omega arith) in
              let joined = identity (times (n_of point.n) (plus (times (times (minus (n_of t) (n_of fn)) (n_of kn)) (number (crossed (way f) dd))) (times (n_of fn) (number (left_by f sum.by)))))
              (minus (times (n_of point.n) (plus (times (times (n_of t) (n_of kn)) (number (crossed (way f) dd))) (times (n_of fn) (number (left_by f sum.by))))) (times (n_of point.n) (times (times (n_of fn) (n_of kn)) (number (crossed (way f) dd))))) (omega arith) in
              let left = above-factor (pos (fn * kn)) (left_by f (seen_from point (end_of edge))) some-m (omega (arith, ints, is, stop, product, split, joined)) in
              omega (arith, ints, left, beyond)
            where
              short : t ≤ fn → ((pos t -ℤ pos fn) *ℤ pos kn) ≤ℤ pos 0
              short upto =
                  let product = above-product (pos fn -ℤ pos t) (pos kn) (omega (arith, ints, upto)) (omega (arith, ints)) in
                  let turned = identity (times (minus (n_of t) (n_of fn)) (n_of kn)) (minus (n_of 0) (times (minus (n_of fn) (n_of t)) (n_of kn))) (omega arith) in
                  omega (arith, ints, product, turned)

      -- So one of the three winds around it, if none of their edges goes through it.
      pub edge-covers : ((e : Edge) → Contains (shape_at corners (start_of edge)) e → ¬ (GoesThrough e point)) → ((e : Edge) → Contains (shape_at corners (end_of edge)) e → ¬ (GoesThrough e point)) → ((e : Edge) → Contains (along corners edge) e → ¬ (GoesThrough e point))
          → (pos 0 <ℤ winding (shape_at corners (start_of edge)) point) ⊎ ((pos 0 <ℤ winding (shape_at corners (end_of edge)) point) ⊎ (pos 0 <ℤ winding (along corners edge) point))
      edge-covers off_start off_stop off = by (left-or (start_of edge)) (left-or (end_of edge))
        where
          by : IsIn corners (seen_from point (start_of edge)) ⊎ ((f : Edge) × Contains (sides corners) f × (left_by f (seen_from point (start_of edge)) <ℤ pos 0))
              → IsIn corners (seen_from point (end_of edge)) ⊎ ((f : Edge) × Contains (sides corners) f × (left_by f (seen_from point (end_of edge)) <ℤ pos 0))
              → (pos 0 <ℤ winding (shape_at corners (start_of edge)) point) ⊎ ((pos 0 <ℤ winding (shape_at corners (end_of edge)) point) ⊎ (pos 0 <ℤ winding (along corners edge) point))
          by (inl inside) other = inl (shape-inside corners convex (start_of edge) point (shape-strictly corners convex (start_of edge) point inside off_start))
          by (inr _) (inl inside) = inr (inl (shape-inside corners convex (end_of edge) point (shape-strictly corners convex (end_of edge) point inside off_stop)))
          by (inr (f, held, beyond)) (inr (g, g_held, g_beyond)) =
              inr (inr (along-inside corners convex edge proper point (behind-start f held beyond) (before-stop g g_held g_beyond) not-left not-right
              (off (moved_edge (a corners convex edge) edge) (0, omega arith, refl)) (off (moved_edge (b corners convex edge) (reversed edge)) (2, omega arith, refl))))
