-- The parallelogram along an edge: what it winds around some point of the edge and some point of the shape add up to, and with the
-- shape at both ends it winds around all that do.
use Rattle.std.proofs.Common.{◌≡◌, ◌≢◌, ◌⊎◌, inl, inr, ℕ, ◌+◌, ◌-◌, ◌*◌, ◌<◌, ◌≤◌, ℤ, pos, ◌+ℤ◌, ◌-ℤ◌, ◌*ℤ◌, ◌≤ℤ◌, ◌<ℤ◌, List, [], ◌∷◌, refl, ap, ap₂, subst, sym, ◌∙◌, arith}
use Rattle.std.specs.List.{All, Contains}
use Rattle.std.proofs.Math.Nat.{mul-pos}
use Rattle.std.proofs.lemmas.Int.{by_lt_z, ints}
use Rattle.std.proofs.lemmas.List.Elements.{All-contains}
use Rattle.plane.specs.declared.edge.Edge.{Edge}
use Rattle.plane.specs.declared.point.Point.{Point}
use Rattle.plane.specs.Ends.{edge_between, end_of, reversed, start_of}
use Rattle.plane.specs.Lines.{height_over}
use Rattle.plane.specs.Meet.Crosses.{cross}
use Rattle.plane.specs.Meet.Edges.{IsOf, RationalPoint}
use Rattle.plane.proofs.MeetLemmas.Identities.{Term, identity, minus, number, plus, times}
use Rattle.noding.specs.Windings.{winding}
use Rattle.noding.proofs.SnapLemmas.Numbers.{Natural, n_of, natural, product_positive}
use Rattle.overlay.specs.Fill.Pieces.{total}
use Rattle.overlay.proofs.FillLemmas.Premises.{All-among}
use Rattle.offset.specs.Lines.{along}
use Rattle.offset.specs.Pieces.{band}
use Rattle.offset.specs.Raw.{GoesThrough, furthest, moved, moved_edge}
use Rattle.offset.specs.Shape.{IsConvexAroundOrigin, IsIn, IsLeftOf, neighbours, sides}
use Rattle.offset.specs.Sum.{IsOfSumWith}
use Rattle.offset.proofs.CoverLemmas.Numbers.{above-factor, above-product, positive-factor, unscaled-most}
use Rattle.offset.proofs.CoverLemmas.Shapes.{furthest-most, top}
use Rattle.offset.proofs.CoverLemmas.Vectors.{crossed, crossing, term, way, wide}
use Rattle.offset.proofs.LineLemmas.Around.{corner-height, cramer_x, cramer_y, goes-through, height-is, left-is, seen_from, side-wide, vector_of}
use Rattle.offset.proofs.LineLemmas.Round.{gain}
use Rattle.offset.proofs.PieceLemmas.Bands.{WindsSome, band-winds}
use Rattle.offset.proofs.PieceLemmas.Convex.{furthest-is, furthest-pair, furthest-told, shape-of}
use Rattle.offset.proofs.PieceLemmas.Parts.{furthest-beside, moved-exchanged}
use Rattle.offset.proofs.PieceLemmas.Sides.{left_by}
use Rattle.offset.proofs.PieceLemmas.Sums.{furthest-held}

-- ---- numbers alone

-- what a corner between two points of the shape has to the left
mixed : (f : Edge) (n s : ℕ) (a b : Point)
    → cross (f.x1 -ℤ f.x0) (f.y1 -ℤ f.y0) ((((pos n -ℤ pos s) *ℤ b.x) +ℤ (pos s *ℤ a.x)) -ℤ (pos n *ℤ f.x0)) ((((pos n -ℤ pos s) *ℤ b.y) +ℤ (pos s *ℤ a.y)) -ℤ (pos n *ℤ f.y0))
    ≡ (((pos n -ℤ pos s) *ℤ height_over f b) +ℤ (pos s *ℤ height_over f a))
mixed f n s a b =
    let step = λ (u v : ℤ). minus (number v) (number u) in
    let at = λ (b a f : ℤ). minus (plus (times (minus (n_of n) (n_of s)) (number b)) (times (n_of s) (number a))) (times (n_of n) (number f)) in
    let high = λ (x y : ℤ). minus (times (step f.x0 f.x1) (step f.y0 y)) (times (step f.y0 f.y1) (step f.x0 x)) in
    identity
    (minus (times (step f.x0 f.x1) (at b.y a.y f.y0)) (times (step f.y0 f.y1) (at b.x a.x f.x0)))
    (plus (times (minus (n_of n) (n_of s)) (high b.x b.y)) (times (n_of s) (high a.x a.y))) (omega arith)

-- a point of an edge and one of the shape add up: one axis
adds : (n w t s : ℕ) (p u v b a : ℤ) → (pos w *ℤ (p -ℤ (pos n *ℤ (b +ℤ u)))) ≡ ((pos t *ℤ (v -ℤ u)) +ℤ (pos s *ℤ (a -ℤ b)))
    → (pos ((n * w) * (n * w)) *ℤ p) ≡ (pos n *ℤ ((((pos (n * w) *ℤ u) +ℤ (pos t *ℤ (v -ℤ u))) *ℤ pos (n * w)) +ℤ ((((pos (n * w) -ℤ pos s) *ℤ b) +ℤ (pos s *ℤ a)) *ℤ pos (n * w))))
adds n w t s p u v b a is =
    sym (by (pos (n * w)) (identity (n_of (n * w)) (times (n_of n) (n_of w)) (omega arith)) ∙ identity (times (n_of (n * w)) (times (n_of (n * w)) (number p))) (times (n_of ((n * w) * (n * w))) (number p)) (omega arith))
  where
    by : (z : ℤ) → z ≡ (pos n *ℤ pos w) → (pos n *ℤ ((((z *ℤ u) +ℤ (pos t *ℤ (v -ℤ u))) *ℤ z) +ℤ ((((z -ℤ pos s) *ℤ b) +ℤ (pos s *ℤ a)) *ℤ z))) ≡ (z *ℤ (z *ℤ p))
    by z whole =
        identity
        (times (n_of n) (plus (times (plus (times (number z) (number u)) (times (n_of t) (minus (number v) (number u)))) (number z)) (times (plus (times (minus (number z) (n_of s)) (number b)) (times (n_of s) (number a))) (number z))))
        (times (number z) (plus (times (n_of n) (times (number z) (plus (number b) (number u)))) (times (n_of n) (plus (times (n_of t) (minus (number v) (number u))) (times (n_of s) (minus (number a) (number b))))))) (omega arith)
        ∙ ap (λ y. z *ℤ ((pos n *ℤ (z *ℤ (b +ℤ u))) +ℤ (pos n *ℤ y))) (sym is)
        ∙ ap (λ y. z *ℤ y)
        (identity
        (plus (times (n_of n) (times (number z) (plus (number b) (number u)))) (times (n_of n) (times (n_of w) (minus (number p) (times (n_of n) (plus (number b) (number u)))))))
        (plus (times (n_of n) (times (number z) (plus (number b) (number u)))) (times (times (n_of n) (n_of w)) (minus (number p) (times (n_of n) (plus (number b) (number u)))))) (omega arith)
        ∙ ap (λ y. (pos n *ℤ (z *ℤ (b +ℤ u))) +ℤ (y *ℤ (p -ℤ (pos n *ℤ (b +ℤ u))))) (sym whole)
        ∙ identity
        (plus (times (n_of n) (times (number z) (plus (number b) (number u)))) (times (number z) (minus (number p) (times (n_of n) (plus (number b) (number u))))))
        (times (number z) (number p)) (omega arith))

module _ (corners : List Point) (convex : IsConvexAroundOrigin corners) (edge : Edge) where
  abbrev pub a : Point
  a = furthest corners edge

  abbrev pub b : Point
  b = furthest corners (reversed edge)

  abbrev pub u : Point
  u = start_of edge

  abbrev pub v : Point
  v = end_of edge

  abbrev pub d : Point
  d = way edge

  abbrev pub c : Point
  c = record { x = a.x -ℤ b.x; y = a.y -ℤ b.y }

  -- the edge moved to the left
  abbrev pub left_edge : Edge
  left_edge = moved_edge b edge

  -- the parallelogram is closed
  pub along-gain : (give : Point → ℤ) → total (gain give) (along corners edge) ≡ pos 0
  along-gain give =
      let one = ap give (moved-exchanged a v) in
      let two = ap give (moved-exchanged b v) in
      let three = ap give (moved-exchanged b u) in
      let four = ap give (moved-exchanged a u) in
      omega (arith, ints, one, two, three, four)

  along-four : along corners edge ≡ (edge_between (moved a u) (moved a v) ∷ edge_between (moved a v) (moved b v) ∷ edge_between (moved b v) (moved b u) ∷ edge_between (moved b u) (moved a u) ∷ [])
  along-four =
      ap₂ (λ (q r : Point). edge_between (moved a u) (moved a v) ∷ edge_between q r ∷ edge_between (moved b v) (moved b u) ∷ edge_between (moved u b) (moved u a) ∷ []) (moved-exchanged v a) (moved-exchanged v b)
      ∙ ap₂ (λ (s p : Point). edge_between (moved a u) (moved a v) ∷ edge_between (moved a v) (moved b v) ∷ edge_between (moved b v) (moved b u) ∷ edge_between s p ∷ []) (moved-exchanged u b) (moved-exchanged u a)

  moved-twice : (p : Point) → moved c (moved b p) ≡ moved a p
  moved-twice p = ap₂ at (omega (arith, ints)) (omega (arith, ints))
    where
      at : ℤ → ℤ → Point
      at x y = record { x = x; y = y }

  along-band : along corners edge ≡ band left_edge c
  along-band =
      along-four
      ∙ sym (ap₂ (λ (p q : Point). edge_between p q ∷ edge_between q (moved b v) ∷ edge_between (moved b v) (moved b u) ∷ edge_between (moved b u) p ∷ []) (moved-twice u) (moved-twice v))

  module _ (proper : start_of edge ≢ end_of edge) where
    -- it goes from the left to the right
    pub width : pos 0 <ℤ crossed c d
    width =
        let right = furthest-beside corners convex edge proper in
        let left = furthest-beside corners convex (reversed edge) (λ same. proper (sym same)) in
        let sum = identity (crossing (record { x = minus (number a.x) (number b.x); y = minus (number a.y) (number b.y) }) (record { x = step edge.x0 edge.x1; y = step edge.y0 edge.y1 }))
        (plus (crossing (term a) (record { x = step edge.x0 edge.x1; y = step edge.y0 edge.y1 })) (crossing (term b) (record { x = step edge.x1 edge.x0; y = step edge.y1 edge.y0 }))) (omega arith) in
        omega (arith, ints, right, left, sum)
      where
        step : ℤ → ℤ → Term
        step s t = minus (number t) (number s)

    module _ (point : RationalPoint) where
      -- the point, seen from where the edge begins on the left
      abbrev pub w : Point
      w = vector_of (seen_from point (moved b u))

      -- how much of the width and of the length it lies away
      abbrev pub across : ℤ
      across = crossed w d

      abbrev pub onwards : ℤ
      onwards = crossed c w

      abbrev far : ℤ → ℤ → ℤ → Term
      far p s t = minus (number p) (times (n_of point.n) (plus (number s) (number t)))

      left-first : left_by (reversed left_edge) point ≡ across
      left-first =
          let back = λ (s p q : ℤ). minus (plus (number s) (number p)) (plus (number s) (number q)) in
          identity
          (minus (times (back b.x edge.x0 edge.x1) (far point.y b.y edge.y1)) (times (back b.y edge.y0 edge.y1) (far point.x b.x edge.x1)))
          (minus (times (far point.x b.x edge.x0) (minus (number edge.y1) (number edge.y0))) (times (far point.y b.y edge.y0) (minus (number edge.x1) (number edge.x0)))) (omega arith)

      left-second : left_by (edge_between (start_of left_edge) (moved c (start_of left_edge))) point ≡ onwards
      left-second =
          let to = λ (c s p : ℤ). minus (plus (number c) (plus (number s) (number p))) (plus (number s) (number p)) in
          identity
          (minus (times (to c.x b.x edge.x0) (far point.y b.y edge.y0)) (times (to c.y b.y edge.y0) (far point.x b.x edge.x0)))
          (minus (times (number c.x) (far point.y b.y edge.y0)) (times (number c.y) (far point.x b.x edge.x0))) (omega arith)

      left-third : left_by (moved_edge c left_edge) point ≡ ((pos point.n *ℤ crossed c d) -ℤ across)
      left-third =
          let n = n_of point.n in
          let at = λ (c s p : ℤ). plus (number c) (plus (number s) (number p)) in
          let out = λ (z c s p : ℤ). minus (number z) (times n (at c s p)) in
          identity
          (minus (times (minus (at c.x b.x edge.x1) (at c.x b.x edge.x0)) (out point.y c.y b.y edge.y0)) (times (minus (at c.y b.y edge.y1) (at c.y b.y edge.y0)) (out point.x c.x b.x edge.x0)))
          (minus (times n (minus (times (number c.x) (minus (number edge.y1) (number edge.y0))) (times (number c.y) (minus (number edge.x1) (number edge.x0)))))
          (minus (times (far point.x b.x edge.x0) (minus (number edge.y1) (number edge.y0))) (times (far point.y b.y edge.y0) (minus (number edge.x1) (number edge.x0))))) (omega arith)

      left-fourth : left_by (edge_between (moved c (end_of left_edge)) (end_of left_edge)) point ≡ ((pos point.n *ℤ crossed c d) -ℤ onwards)
      left-fourth =
          let n = n_of point.n in
          let at = λ (s p : ℤ). plus (number s) (number p) in
          let to = λ (c s p : ℤ). plus (number c) (plus (number s) (number p)) in
          let out = λ (z c s p : ℤ). minus (number z) (times n (to c s p)) in
          identity
          (minus (times (minus (at b.x edge.x1) (to c.x b.x edge.x1)) (out point.y c.y b.y edge.y1)) (times (minus (at b.y edge.y1) (to c.y b.y edge.y1)) (out point.x c.x b.x edge.x1)))
          (minus (times n (minus (times (number c.x) (minus (number edge.y1) (number edge.y0))) (times (number c.y) (minus (number edge.x1) (number edge.x0)))))
          (minus (times (number c.x) (far point.y b.y edge.y0)) (times (number c.y) (far point.x b.x edge.x0)))) (omega arith)

      along-winds : WindsSome (winding (along corners edge) point) (left_by (reversed left_edge) point) (left_by (edge_between (start_of left_edge) (moved c (start_of left_edge))) point) (left_by (moved_edge c left_edge) point) (left_by (edge_between (moved c (end_of left_edge)) (end_of left_edge)) point)
      along-winds =
          subst (λ (edges : List Edge). WindsSome (winding edges point) (left_by (reversed left_edge) point) (left_by (edge_between (start_of left_edge) (moved c (start_of left_edge))) point) (left_by (moved_edge c left_edge) point) (left_by (edge_between (moved c (end_of left_edge)) (end_of left_edge)) point)) (sym along-band)
          (band-winds left_edge c (let some = width in omega (arith, ints, some, same)) point)
        where
          same : cross c.x c.y (left_edge.x1 -ℤ left_edge.x0) (left_edge.y1 -ℤ left_edge.y0) ≡ crossed c d
          same =
              let moved_step = λ (s p q : ℤ). minus (plus (number s) (number q)) (plus (number s) (number p)) in
              identity
              (minus (times (number c.x) (moved_step b.y edge.y0 edge.y1)) (times (number c.y) (moved_step b.x edge.x0 edge.x1)))
              (minus (times (number c.x) (minus (number edge.y1) (number edge.y0))) (times (number c.y) (minus (number edge.x1) (number edge.x0)))) (omega arith)

      -- It winds around no point less than not at all.
      pub along-proper : pos 0 ≤ℤ winding (along corners edge) point
      along-proper = along-winds.natural

      -- the point by what it lies away
      pub away-x : (crossed c d *ℤ w.x) ≡ ((onwards *ℤ d.x) +ℤ (across *ℤ c.x))
      away-x = cramer_x c d w

      pub away-y : (crossed c d *ℤ w.y) ≡ ((onwards *ℤ d.y) +ℤ (across *ℤ c.y))
      away-y = cramer_y c d w

      -- Where it winds around a point, this is of the sum.
      pub along-closed : winding (along corners edge) point ≢ pos 0 → IsOfSumWith (λ from. IsOf edge from) corners point
      along-closed winds =
          let (first, second, third, fourth) = along-winds.closed winds in
          found (natural (crossed c d) (let some = width in omega (arith, ints, some)))
          (natural across (subst (λ z. pos 0 ≤ℤ z) left-first first)) (natural onwards (subst (λ z. pos 0 ≤ℤ z) left-second second))
          (subst (λ z. pos 0 ≤ℤ z) left-third third) (subst (λ z. pos 0 ≤ℤ z) left-fourth fourth)
        where
          found : Natural (crossed c d) → Natural across → Natural onwards → pos 0 ≤ℤ ((pos point.n *ℤ crossed c d) -ℤ across) → pos 0 ≤ℤ ((pos point.n *ℤ crossed c d) -ℤ onwards) → IsOfSumWith (λ from. IsOf edge from) corners point
          found m s t third fourth =
              let m_is = m.is in
              let s_is = s.is in
              let t_is = t.is in
              let some = width in
              let wide_some : 0 < m.k = omega (arith, ints, m_is, some) in
              let all = ap (λ z. pos point.n *ℤ z) m_is in
              let product = identity (times (n_of point.n) (n_of m.k)) (n_of (point.n * m.k)) (omega arith) in
              let s_upto : s.k ≤ point.n * m.k = omega (arith, ints, third, all, product, s_is) in
              let t_upto : t.k ≤ point.n * m.k = omega (arith, ints, fourth, all, product, t_is) in
              record {
                from = record {
                  n = point.n * m.k;
                  x = (pos (point.n * m.k) *ℤ edge.x0) +ℤ (pos t.k *ℤ (edge.x1 -ℤ edge.x0));
                  y = (pos (point.n * m.k) *ℤ edge.y0) +ℤ (pos t.k *ℤ (edge.y1 -ℤ edge.y0));
                  positive = mul-pos point.positive wide_some;
                };
                by = record {
                  n = point.n * m.k;
                  x = ((pos (point.n * m.k) -ℤ pos s.k) *ℤ b.x) +ℤ (pos s.k *ℤ a.x);
                  y = ((pos (point.n * m.k) -ℤ pos s.k) *ℤ b.y) +ℤ (pos s.k *ℤ a.y);
                  positive = mul-pos point.positive wide_some;
                };
                inside = (t.k, record { share = t_upto; x = refl; y = refl });
                of_shape = All-among (λ (f : Edge). pos 0 ≤ℤ cross (f.x1 -ℤ f.x0) (f.y1 -ℤ f.y0) ((((pos (point.n * m.k) -ℤ pos s.k) *ℤ b.x) +ℤ (pos s.k *ℤ a.x)) -ℤ (pos (point.n * m.k) *ℤ f.x0)) ((((pos (point.n * m.k) -ℤ pos s.k) *ℤ b.y) +ℤ (pos s.k *ℤ a.y)) -ℤ (pos (point.n * m.k) *ℤ f.y0))) (sides corners)
                    (λ f held.
                    let is = mixed f (point.n * m.k) s.k a b in
                    let one = above-product (pos (point.n * m.k) -ℤ pos s.k) (height_over f b) (omega (arith, ints, s_upto)) (corner-height corners convex f held b (furthest-held corners convex (reversed edge) (λ same. proper (sym same)))) in
                    let other = above-product (pos s.k) (height_over f a) (omega (arith, ints)) (corner-height corners convex f held a (furthest-held corners convex edge proper)) in
                    omega (arith, ints, is, one, other));
                x = adds point.n m.k t.k s.k point.x edge.x0 edge.x1 b.x a.x (ap (λ z. z *ℤ w.x) (sym m_is) ∙ away-x ∙ ap₂ (λ (y z : ℤ). (y *ℤ d.x) +ℤ (z *ℤ c.x)) t_is s_is);
                y = adds point.n m.k t.k s.k point.y edge.y0 edge.y1 b.y a.y (ap (λ z. z *ℤ w.y) (sym m_is) ∙ away-y ∙ ap₂ (λ (y z : ℤ). (y *ℤ d.y) +ℤ (z *ℤ c.y)) t_is s_is);
              }

      -- ---- around which points it winds

      off-side : (k m : ℕ) (n : ℕ) (p s q r : ℤ) → (pos m *ℤ (p -ℤ (pos n *ℤ (s +ℤ q)))) ≡ (pos k *ℤ (r -ℤ q)) → (pos m *ℤ (p -ℤ (pos n *ℤ (s +ℤ q)))) ≡ (pos k *ℤ ((s +ℤ r) -ℤ (s +ℤ q)))
      off-side k m n p s q r is = is ∙ identity (times (n_of k) (minus (number r) (number q))) (times (n_of k) (minus (plus (number s) (number r)) (plus (number s) (number q)))) (omega arith)

      -- on the right border it goes through
      on-right : pos 0 ≤ℤ onwards → onwards ≤ℤ (pos point.n *ℤ crossed c d) → across ≡ (pos point.n *ℤ crossed c d) → GoesThrough (moved_edge a edge) point
      on-right from upto level = found (natural (crossed c d) (let some = width in omega (arith, ints, some))) (natural onwards from)
        where
          axis : (k m : ℕ) (p s t q r : ℤ) → (pos m *ℤ (p -ℤ (pos point.n *ℤ (s +ℤ q)))) ≡ ((pos k *ℤ (r -ℤ q)) +ℤ ((pos point.n *ℤ pos m) *ℤ (t -ℤ s))) → (pos m *ℤ (p -ℤ (pos point.n *ℤ (t +ℤ q)))) ≡ (pos k *ℤ (r -ℤ q))
          axis k m p s t q r is =
              let split = identity (times (n_of m) (minus (number p) (times (n_of point.n) (plus (number t) (number q))))) (minus (times (n_of m) (minus (number p) (times (n_of point.n) (plus (number s) (number q))))) (times (times (n_of point.n) (n_of m)) (minus (number t) (number s)))) (omega arith) in
              omega (arith, ints, split, is)

          found : Natural (crossed c d) → Natural onwards → GoesThrough (moved_edge a edge) point
          found m k =
              let m_is = m.is in
              let k_is = k.is in
              let some = width in
              let all = ap (λ z. pos point.n *ℤ z) m_is in
              let product = identity (times (n_of point.n) (n_of m.k)) (n_of (point.n * m.k)) (omega arith) in
              goes-through (moved_edge a edge) point k.k m.k (omega (arith, ints, m_is, some)) (omega (arith, ints, upto, all, product, k_is))
              (off-side k.k m.k point.n point.x a.x edge.x0 edge.x1 (axis k.k m.k point.x b.x a.x edge.x0 edge.x1 (ap (λ z. z *ℤ w.x) (sym m_is) ∙ away-x ∙ ap₂ (λ (y z : ℤ). (y *ℤ d.x) +ℤ (z *ℤ c.x)) k_is (level ∙ all))))
              (off-side k.k m.k point.n point.y a.y edge.y0 edge.y1 (axis k.k m.k point.y b.y a.y edge.y0 edge.y1 (ap (λ z. z *ℤ w.y) (sym m_is) ∙ away-y ∙ ap₂ (λ (y z : ℤ). (y *ℤ d.y) +ℤ (z *ℤ c.y)) k_is (level ∙ all))))

      -- and on the left one
      on-left : pos 0 ≤ℤ onwards → onwards ≤ℤ (pos point.n *ℤ crossed c d) → across ≡ pos 0 → GoesThrough (moved_edge b (reversed edge)) point
      on-left from upto level = found (natural (crossed c d) (let some = width in omega (arith, ints, some))) (natural ((pos point.n *ℤ crossed c d) -ℤ onwards) (omega (arith, ints, upto)))
        where
          axis : (k m : ℕ) (t : ℤ) (p s e q r : ℤ) → pos k ≡ ((pos point.n *ℤ pos m) -ℤ t) → (pos m *ℤ (p -ℤ (pos point.n *ℤ (s +ℤ q)))) ≡ ((t *ℤ (r -ℤ q)) +ℤ (pos 0 *ℤ e)) → (pos m *ℤ (p -ℤ (pos point.n *ℤ (s +ℤ r)))) ≡ (pos k *ℤ (q -ℤ r))
          axis k m t p s e q r rest is =
              let split = identity (times (n_of m) (minus (number p) (times (n_of point.n) (plus (number s) (number r))))) (minus (times (n_of m) (minus (number p) (times (n_of point.n) (plus (number s) (number q))))) (times (times (n_of point.n) (n_of m)) (minus (number r) (number q)))) (omega arith) in
              let none = identity (times (n_of 0) (number e)) (n_of 0) (omega arith) in
              let part = ap (λ z. z *ℤ (q -ℤ r)) rest in
              let parted = identity (times (minus (times (n_of point.n) (n_of m)) (number t)) (minus (number q) (number r))) (minus (times (number t) (minus (number r) (number q))) (times (times (n_of point.n) (n_of m)) (minus (number r) (number q)))) (omega arith) in
              omega (arith, ints, split, is, none, part, parted)

          found : Natural (crossed c d) → Natural ((pos point.n *ℤ crossed c d) -ℤ onwards) → GoesThrough (moved_edge b (reversed edge)) point
          found m k =
              let m_is = m.is in
              let k_is = k.is in
              let some = width in
              let all = ap (λ z. pos point.n *ℤ z) m_is in
              let product = identity (times (n_of point.n) (n_of m.k)) (n_of (point.n * m.k)) (omega arith) in
              let rest : pos k.k ≡ ((pos point.n *ℤ pos m.k) -ℤ onwards) = omega (arith, ints, k_is, all) in
              goes-through (moved_edge b (reversed edge)) point k.k m.k (omega (arith, ints, m_is, some)) (omega (arith, ints, from, all, product, k_is))
              (off-side k.k m.k point.n point.x b.x edge.x1 edge.x0 (axis k.k m.k onwards point.x b.x c.x edge.x0 edge.x1 rest (ap (λ z. z *ℤ w.x) (sym m_is) ∙ away-x ∙ ap (λ z. (onwards *ℤ d.x) +ℤ (z *ℤ c.x)) level)))
              (off-side k.k m.k point.n point.y b.y edge.y1 edge.y0 (axis k.k m.k onwards point.y b.y c.y edge.y0 edge.y1 rest (ap (λ z. z *ℤ w.y) (sym m_is) ∙ away-y ∙ ap (λ z. (onwards *ℤ d.y) +ℤ (z *ℤ c.y)) level)))

      -- So it winds around each point between its short sides that isn't beyond the long ones, and on none of these.
      pub along-inside : pos 0 <ℤ onwards → onwards <ℤ (pos point.n *ℤ crossed c d) → pos 0 ≤ℤ across → across ≤ℤ (pos point.n *ℤ crossed c d)
          → ¬ (GoesThrough (moved_edge a edge) point) → ¬ (GoesThrough (moved_edge b (reversed edge)) point) → pos 0 <ℤ winding (along corners edge) point
      along-inside from upto left right off_right off_left =
          along-winds.inside
          (subst (λ z. pos 0 <ℤ z) (sym left-first) (by_lt_z (pos 0) across (λ above. above) (λ below. absurd (off_left (on-left (omega (arith, ints, from)) (omega (arith, ints, upto)) (omega (arith, ints, left, below)))))))
          (subst (λ z. pos 0 <ℤ z) (sym left-second) from)
          (subst (λ z. pos 0 <ℤ z) (sym left-third)
          (by_lt_z across (pos point.n *ℤ crossed c d) (λ below. omega (arith, ints, below)) (λ above. absurd (off_right (on-right (omega (arith, ints, from)) (omega (arith, ints, upto)) (omega (arith, ints, right, above)))))))
          (subst (λ z. pos 0 <ℤ z) (sym left-fourth) (omega (arith, ints, upto)))
