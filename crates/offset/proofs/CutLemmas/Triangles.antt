-- The triangle that a cut leaves out: how it winds, and where its points lie.
use Rattle.std.proofs.Common.{◌≡◌, ◌≢◌, ◌⊎◌, ℕ, ◌*◌, ℤ, pos, ◌+ℤ◌, ◌-ℤ◌, ◌*ℤ◌, ◌≤ℤ◌, ◌<ℤ◌, List, [], ◌∷◌, ap, sym, ◌∙◌, arith}
use Rattle.std.specs.List.{All, Contains}
use Rattle.std.proofs.lemmas.Int.{by_lt_z, ints}
use Rattle.std.proofs.lemmas.List.Elements.{All-head, All-tail}
use Rattle.plane.specs.declared.edge.Edge.{Edge}
use Rattle.plane.specs.declared.point.Point.{Point}
use Rattle.plane.specs.Ends.{edge_between, end_of, reversed, start_of}
use Rattle.plane.specs.Lines.{height_over}
use Rattle.plane.specs.Meet.Edges.{IsOf, RationalPoint}
use Rattle.plane.proofs.MeetLemmas.Identities.{identity, minus, number, plus, times}
use Rattle.noding.specs.Windings.{winding}
use Rattle.noding.proofs.SnapLemmas.Numbers.{Natural, n_of, natural}
use Rattle.offset.specs.Pieces.{triangle}
use Rattle.offset.specs.Raw.{GoesThrough, moved, moved_edge}
use Rattle.offset.specs.Shape.{IsConvexAroundOrigin}
use Rattle.offset.specs.Sum.{IsOfSumBeyond}
use Rattle.offset.proofs.CoverLemmas.Lines.{side-in, side-out, side-side}
use Rattle.offset.proofs.CoverLemmas.Near.{reversed-side}
use Rattle.offset.proofs.CoverLemmas.Numbers.{above-factor, above-product, positive-factor, positive-product}
use Rattle.offset.proofs.CoverLemmas.Sides.{ahead, ahead_term, side_of, way_term, whole}
use Rattle.offset.proofs.CoverLemmas.Vectors.{Terms, crossed, crossing, less_terms, reach, term, turn_back, way, wide}
use Rattle.offset.proofs.LineLemmas.Around.{corner-height, cramer_x, cramer_y, goes-through, height-is, side-wide}
use Rattle.offset.proofs.PieceLemmas.Parts.{passed_by-reversed}
use Rattle.offset.proofs.PieceLemmas.Sides.{passed_by, winding-passed}
use Rattle.offset.proofs.PieceLemmas.Sums.{HaveNear, margin, sum-near}
use Rattle.offset.proofs.PieceLemmas.Triangles.{triangle-winds, turn_at}

-- How far the point lies to the left of the cut, gone backwards, times its length: from v moved by one corner to v moved by the
-- other.
abbrev pub rest_of : Point → Point → Point → RationalPoint → ℤ
rest_of v from to point = (pos point.n *ℤ crossed to from) -ℤ (crossed to (ahead point v) +ℤ crossed (ahead point v) from)

-- The point lies in the triangle of v and of v moved by two corners, of which the other one stands clockwise from the one: none of
-- its weights is below 0.
pub record IsCutOff (v from to : Point) (point : RationalPoint) : Type 0 where
  pub turned : pos 0 <ℤ crossed to from
  pub by_from : pos 0 ≤ℤ crossed to (ahead point v)
  pub by_to : pos 0 ≤ℤ crossed (ahead point v) from
  pub rest : pos 0 ≤ℤ rest_of v from to point

-- The triangle, counterclockwise.
abbrev pub cut_off : Point → Point → Point → List Edge
cut_off v from to = triangle v (moved to v) (moved from v)

-- ---- how it winds

-- as expressions
abbrev moved_term : Point → Point → Terms
moved_term by point = record {
  x = plus (number by.x) (number point.x);
  y = plus (number by.y) (number point.y);
}

-- its area
turned-at : (v from to : Point) → turn_at v (moved to v) (moved from v) ≡ crossed to from
turned-at v from to =
    identity (crossing (less_terms (moved_term to v) (term v)) (less_terms (moved_term from v) (term v))) (crossing (term to) (term from)) (omega arith)

-- what lies to the left of the cut, gone backwards
side-cut : (v from to : Point) (point : RationalPoint) → side_of (edge_between (moved to v) (moved from v)) point ≡ rest_of v from to point
side-cut v from to point =
    let n = number (pos point.n) in
    let out : Terms = record {
      x = minus (number point.x) (times n (plus (number to.x) (number v.x)));
      y = minus (number point.y) (times n (plus (number to.y) (number v.y)));
    } in
    identity
    (crossing (less_terms (moved_term from v) (moved_term to v)) out)
    (minus (times n (crossing (term to) (term from))) (plus (crossing (term to) (ahead_term point v)) (crossing (ahead_term point v) (term from))))
    (omega arith)

-- It winds once around a point or not at all, and only around its own.
pub cut-winds : (v from to : Point) → pos 0 <ℤ crossed to from → (point : RationalPoint)
    → ((winding (cut_off v from to) point ≡ pos 0) ⊎ (winding (cut_off v from to) point ≡ pos 1)) × (winding (cut_off v from to) point ≢ pos 0 → IsCutOff v from to point)
cut-winds v from to turned point =
    let found = triangle-winds v (moved to v) (moved from v) (let same = turned-at v from to in omega (arith, ints, turned, same)) point in
    let first = side-out to v point in
    let exchanged = turn_back to (ahead point v) in
    let second = side-cut v from to point in
    let third = side-in from v point in (
      found.once,
      λ some.
          let (a, b, c) = found.closed some in
          record {
            turned = turned;
            by_from = omega (arith, ints, a, first, exchanged);
            by_to = omega (arith, ints, c, third);
            rest = omega (arith, ints, b, second);
          },
    )

-- The cut counts as the ways that it stands for, less what the triangle winds.
pub cut-counts : (v from to : Point) (point : RationalPoint)
    → passed_by (edge_between (moved from v) (moved to v)) point ≡ ((passed_by (edge_between v (moved to v)) point -ℤ passed_by (edge_between v (moved from v)) point) -ℤ winding (cut_off v from to) point)
cut-counts v from to point =
    let all = winding-passed (cut_off v from to) point in
    let across = passed_by-reversed (edge_between (moved to v) (moved from v)) point in
    let back = passed_by-reversed (edge_between v (moved from v)) point in
    omega (arith, ints, all, across, back)

-- ---- where its points lie

-- how far a vector reaches, by its parts along two others
parted : (to from q w : Point) → (crossed to from *ℤ crossed q w) ≡ ((crossed to q *ℤ crossed from w) +ℤ (crossed q from *ℤ crossed to w))
parted to from q w =
    identity
    (times (crossing (term to) (term from)) (crossing (term q) (term w)))
    (plus (times (crossing (term to) (term q)) (crossing (term from) (term w))) (times (crossing (term q) (term from)) (crossing (term to) (term w))))
    (omega arith)

-- what is left of a height, by the parts
balance : (n d height reached a b one other : ℤ) → (d *ℤ reached) ≡ ((a *ℤ one) +ℤ (b *ℤ other))
    → (d *ℤ ((n *ℤ height) -ℤ reached)) ≡ (((((n *ℤ d) -ℤ (a +ℤ b)) *ℤ height) +ℤ (a *ℤ (height -ℤ one))) +ℤ (b *ℤ (height -ℤ other)))
balance n d height reached a b one other is =
    let m = λ (z : ℤ). number z in
    let whole_of = times (times (m n) (m d)) (m height) in
    identity (times (m d) (minus (times (m n) (m height)) (m reached))) (minus whole_of (times (m d) (m reached))) (omega arith)
    ∙ ap (λ z. ((n *ℤ d) *ℤ height) -ℤ z) is
    ∙ identity (minus whole_of (plus (times (m a) (m one)) (times (m b) (m other))))
    (plus (plus (times (minus (times (m n) (m d)) (plus (m a) (m b))) (m height)) (times (m a) (minus (m height) (m one)))) (times (m b) (minus (m height) (m other)))) (omega arith)

-- which side of a line a point is on, by its way from a whole one
side-seen : (v : Point) (line : Edge) (point : RationalPoint) → side_of line point ≡ ((pos point.n *ℤ height_over line v) -ℤ reach line (ahead point v))
side-seen v line point =
    identity
    (crossing (way_term line) (ahead_term point (start_of line)))
    (minus (times (number (pos point.n)) (crossing (way_term line) (less_terms (term v) (term (start_of line))))) (crossing (ahead_term point v) (way_term line)))
    (omega arith)

-- a moved point is so far over a line
height-moved : (by v : Point) (line : Edge) → height_over line (moved by v) ≡ (height_over line v -ℤ reach line by)
height-moved by v line =
    identity
    (crossing (way_term line) (less_terms (moved_term by v) (term (start_of line))))
    (minus (crossing (way_term line) (less_terms (term v) (term (start_of line)))) (crossing (term by) (way_term line)))
    (omega arith)

-- and over the line the other way round
height-reversed : (line : Edge) (tip : Point) → height_over (reversed line) tip ≡ (pos 0 -ℤ height_over line tip)
height-reversed line tip =
    let start = term (start_of line) in
    let end = term (end_of line) in
    identity (crossing (less_terms start end) (less_terms (term tip) end)) (minus (n_of 0) (crossing (less_terms end start) (less_terms (term tip) start))) (omega arith)

-- what is so of three items
of_three : {X : Type 0} (P : X → Type 0) (a b c : X) → All P (a ∷ b ∷ c ∷ []) → P a × P b × P c
of_three P a b c all =
    let rest = All-tail P a (b ∷ c ∷ []) all in
    (All-head P a (b ∷ c ∷ []) all, All-head P b (c ∷ []) rest, All-head P c [] (All-tail P b (c ∷ []) rest))

module _ (v from to : Point) (point : RationalPoint) (is : IsCutOff v from to point) where
  -- what is left of a height, times the triangle's area
  balanced : (line : Edge) (height : ℤ)
      → (crossed to from *ℤ ((pos point.n *ℤ height) -ℤ reach line (ahead point v)))
      ≡ (((rest_of v from to point *ℤ height) +ℤ (crossed to (ahead point v) *ℤ (height -ℤ reach line from))) +ℤ (crossed (ahead point v) from *ℤ (height -ℤ reach line to)))
  balanced line height =
      balance (pos point.n) (crossed to from) height (reach line (ahead point v)) (crossed to (ahead point v)) (crossed (ahead point v) from) (reach line from) (reach line to)
      (parted to from (ahead point v) (way line))

  -- its point reaches no further than the corners
  reaches-most : (line : Edge) (height : ℤ) → pos 0 ≤ℤ height → reach line from ≤ℤ height → reach line to ≤ℤ height → pos 0 ≤ℤ ((pos point.n *ℤ height) -ℤ reach line (ahead point v))
  reaches-most line height above from_most to_most =
      let sum = balanced line height in
      let one = above-product (rest_of v from to point) height is.rest above in
      let two = above-product (crossed to (ahead point v)) (height -ℤ reach line from) is.by_from (omega (arith, ints, from_most)) in
      let three = above-product (crossed (ahead point v) from) (height -ℤ reach line to) is.by_to (omega (arith, ints, to_most)) in
      above-factor (crossed to from) ((pos point.n *ℤ height) -ℤ reach line (ahead point v)) is.turned (omega (arith, ints, sum, one, two, three))

  -- and not as far, if it isn't on the cut
  reaches-less : (line : Edge) (height : ℤ) → pos 0 <ℤ rest_of v from to point → pos 0 <ℤ height → reach line from ≤ℤ height → reach line to ≤ℤ height → pos 0 <ℤ ((pos point.n *ℤ height) -ℤ reach line (ahead point v))
  reaches-less line height inside above from_most to_most =
      let sum = balanced line height in
      let one = positive-product (rest_of v from to point) height inside above in
      let two = above-product (crossed to (ahead point v)) (height -ℤ reach line from) is.by_from (omega (arith, ints, from_most)) in
      let three = above-product (crossed (ahead point v) from) (height -ℤ reach line to) is.by_to (omega (arith, ints, to_most)) in
      positive-factor (crossed to from) ((pos point.n *ℤ height) -ℤ reach line (ahead point v)) is.turned (omega (arith, ints, sum, one, two, three))

  -- the point isn't to the right of a line that no corner of the triangle is to the right of
  left-of : (line : Edge) → pos 0 ≤ℤ height_over line v → pos 0 ≤ℤ height_over line (moved from v) → pos 0 ≤ℤ height_over line (moved to v) → pos 0 ≤ℤ side_of line point
  left-of line at first second =
      let first_is = height-moved from v line in
      let second_is = height-moved to v line in
      let found = reaches-most line (height_over line v) at (omega (arith, ints, first, first_is)) (omega (arith, ints, second, second_is)) in
      let same = side-seen v line point in
      omega (arith, ints, found, same)

  -- Where none of the triangle's corners lies to the right of a line, the point doesn't either.
  pub cut-left : (line : Edge) → All (λ tip. pos 0 ≤ℤ height_over line tip) (v ∷ moved from v ∷ moved to v ∷ []) → pos 0 ≤ℤ side_of line point
  cut-left line all =
      let (at, first, second) = of_three (λ tip. pos 0 ≤ℤ height_over line tip) v (moved from v) (moved to v) all in
      left-of line at first second

  -- And where none lies to the left of it, the point doesn't.
  pub cut-right : (line : Edge) → All (λ tip. height_over line tip ≤ℤ pos 0) (v ∷ moved from v ∷ moved to v ∷ []) → side_of line point ≤ℤ pos 0
  cut-right line all =
      let (at, first, second) = of_three (λ tip. height_over line tip ≤ℤ pos 0) v (moved from v) (moved to v) all in
      let at_is = height-reversed line v in
      let first_is = height-reversed line (moved from v) in
      let second_is = height-reversed line (moved to v) in
      let found = left-of (reversed line) (omega (arith, ints, at, at_is)) (omega (arith, ints, first, first_is)) (omega (arith, ints, second, second_is)) in
      let same = reversed-side line point in
      omega (arith, ints, found, same)

  -- It isn't beyond a side that is moved there, where neither the origin nor one of the two corners is beyond the side.
  pub cut-within : (side : Edge) → pos 0 ≤ℤ wide side → reach side from ≤ℤ wide side → reach side to ≤ℤ wide side → pos 0 ≤ℤ side_of (moved_edge v side) point
  cut-within side around from_most to_most =
      let found = reaches-most side (wide side) around from_most to_most in
      let same = side-side v side point in
      omega (arith, ints, found, same)

  -- Nor is it on that, if it isn't on the cut and the origin isn't on the side.
  pub cut-inside : (side : Edge) → pos 0 <ℤ wide side → reach side from ≤ℤ wide side → reach side to ≤ℤ wide side → pos 0 <ℤ rest_of v from to point → pos 0 <ℤ side_of (moved_edge v side) point
  cut-inside side around from_most to_most inside =
      let found = reaches-less side (wide side) inside around from_most to_most in
      let same = side-side v side point in
      omega (arith, ints, found, same)

  -- the cut goes through what lies on it
  on-cut : rest_of v from to point ≤ℤ pos 0 → GoesThrough (edge_between (moved from v) (moved to v)) point
  on-cut level = found (natural (crossed to from) (let turned = is.turned in omega (arith, ints, turned))) (natural (crossed (ahead point v) from) is.by_to)
    where
      along : (m k : ℕ) (p at one other part : ℤ) → part ≡ ((pos point.n *ℤ pos m) -ℤ pos k) → (pos m *ℤ (p -ℤ (pos point.n *ℤ at))) ≡ ((part *ℤ one) +ℤ (pos k *ℤ other))
          → (pos m *ℤ (p -ℤ (pos point.n *ℤ (one +ℤ at)))) ≡ (pos k *ℤ ((other +ℤ at) -ℤ (one +ℤ at)))
      along m k p at one other part part_is seen =
          let n = n_of point.n in
          let split = identity (times (n_of m) (minus (number p) (times n (plus (number one) (number at))))) (minus (times (n_of m) (minus (number p) (times n (number at)))) (times (times n (n_of m)) (number one))) (omega arith) in
          let parts = ap (λ z. z *ℤ one) part_is in
          let parts_split = identity (times (minus (times n (n_of m)) (n_of k)) (number one)) (minus (times (times n (n_of m)) (number one)) (times (n_of k) (number one))) (omega arith) in
          let last = identity (times (n_of k) (minus (plus (number other) (number at)) (plus (number one) (number at)))) (minus (times (n_of k) (number other)) (times (n_of k) (number one))) (omega arith) in
          omega (arith, ints, split, seen, parts, parts_split, last)

      found : Natural (crossed to from) → Natural (crossed (ahead point v) from) → GoesThrough (edge_between (moved from v) (moved to v)) point
      found m k =
          let m_is = m.is in
          let k_is = k.is in
          let turned = is.turned in
          let by_from = is.by_from in
          let rest = is.rest in
          let all = ap (λ z. pos point.n *ℤ z) m_is in
          let product = identity (times (n_of point.n) (n_of m.k)) (n_of (point.n * m.k)) (omega arith) in
          let part : crossed to (ahead point v) ≡ ((pos point.n *ℤ pos m.k) -ℤ pos k.k) = omega (arith, ints, rest, level, all, k_is) in
          let at_x = sym (ap (λ z. z *ℤ (ahead point v).x) m_is) ∙ cramer_x to from (ahead point v) ∙ ap (λ z. (crossed to (ahead point v) *ℤ from.x) +ℤ (z *ℤ to.x)) k_is in
          let at_y = sym (ap (λ z. z *ℤ (ahead point v).y) m_is) ∙ cramer_y to from (ahead point v) ∙ ap (λ z. (crossed to (ahead point v) *ℤ from.y) +ℤ (z *ℤ to.y)) k_is in
          goes-through (edge_between (moved from v) (moved to v)) point k.k m.k (omega (arith, ints, m_is, turned)) (omega (arith, ints, part, by_from, product))
          (along m.k k.k point.x v.x from.x to.x (crossed to (ahead point v)) part at_x)
          (along m.k k.k point.y v.y from.y to.y (crossed to (ahead point v)) part at_y)

-- ---- its points are of the sum

-- how far a point, less a whole one, lies to the left of a side
margin-whole : (v : Point) (side : Edge) (point : RationalPoint) → margin point (whole v) side ≡ side_of (moved_edge v side) point
margin-whole v side point =
    let n = n_of point.n in
    let less = λ (z at start : ℤ). minus (minus (times (n_of 1) (number z)) (times n (number at))) (times (n_of (point.n * 1)) (number start)) in
    let from = λ (z at start : ℤ). minus (number z) (times n (plus (number at) (number start))) in
    let one : Terms = record { x = less point.x v.x side.x0; y = less point.y v.y side.y0 } in
    let other : Terms = record { x = from point.x v.x side.x0; y = from point.y v.y side.y0 } in
    identity (crossing (way_term side) one) (crossing (less_terms (moved_term v (end_of side)) (moved_term v (start_of side))) other) (omega arith)

-- an edge's end is of it
end-of : (edge : Edge) → IsOf edge (whole (end_of edge))
end-of edge = (1, record { share = omega arith; x = last edge.x0 edge.x1; y = last edge.y0 edge.y1 })
  where
    last : (u w : ℤ) → w ≡ ((pos 1 *ℤ u) +ℤ (pos 1 *ℤ (w -ℤ u)))
    last u w = identity (number w) (plus (times (n_of 1) (number u)) (times (n_of 1) (minus (number w) (number u)))) (omega arith)

-- A point of a triangle at an edge's end and between two corners is of the sum, where it isn't on the cut.
pub sum-of_cut : (outer : ℤ) (edges : List Edge) (corners : List Point) → IsConvexAroundOrigin corners → HaveNear outer edges → (point : RationalPoint) (edge : Edge) → Contains edges edge
    → (from to : Point) → Contains corners from → Contains corners to → IsCutOff (end_of edge) from to point
    → ¬ (GoesThrough (edge_between (moved from (end_of edge)) (moved to (end_of edge))) point) → IsOfSumBeyond outer edges corners point
sum-of_cut outer edges corners convex near point edge among from to from_held to_held is off =
    sum-near outer edges corners near point (whole (end_of edge)) edge among (end-of edge)
    (λ side held.
    let from_height = corner-height corners convex side held from from_held in
    let from_is = height-is side from in
    let to_height = corner-height corners convex side held to to_held in
    let to_is = height-is side to in
    let strict = cut-inside (end_of edge) from to point is side (side-wide corners convex side held) (omega (arith, ints, from_height, from_is)) (omega (arith, ints, to_height, to_is)) inside in
    let same = margin-whole (end_of edge) side point in
    omega (arith, ints, strict, same))
  where
    inside : pos 0 <ℤ rest_of (end_of edge) from to point
    inside = by_lt_z (pos 0) (rest_of (end_of edge) from to point) (λ above. above) (λ level. absurd (off (on-cut (end_of edge) from to point is level)))
