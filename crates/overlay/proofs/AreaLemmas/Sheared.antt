-- Edges and rings that are sheared along x, so that none of their edges stays vertical.
use Rattle.std.proofs.Common.{◌≡◌, ◌≢◌, inl, inr, ◌*◌, ◌<◌, ℕ, ℤ, pos, ◌+ℤ◌, ◌-ℤ◌, ◌*ℤ◌, List, [], ◌∷◌, length, get_or, map, refl, ap, ap₂, sym, subst, ◌∙◌, arith}
use Rattle.std.proofs.lemmas.Int.{ints}
use Rattle.std.proofs.lemmas.Nat.{mul-le}
use Rattle.std.proofs.Math.Nat.{mul-pos}
use Rattle.i_tree.proofs.RootLemmas.Joined.{AllPairs-to_map}
use Rattle.plane.specs.declared.edge.Edge.{Edge}
use Rattle.plane.specs.declared.point.Point.{Point}
use Rattle.plane.specs.Ends.{edge_between, end_of, reversed, start_of}
use Rattle.plane.specs.Meet.Edges.{IsOf, RationalPoint}
use Rattle.plane.specs.Meet.Kinds.{IsAt, IsEnd}
use Rattle.plane.proofs.MeetLemmas.Identities.{identity, minus, number, plus, times, unscaled}
use Rattle.plane.proofs.PairsLemmas.Bags.{Contains-from_map}
use Rattle.noding.specs.Meeting.{MeetAtEnds}
use Rattle.noding.proofs.SnapLemmas.Numbers.{n_of}
use Rattle.overlay.specs.Areas.{swept}
use Rattle.overlay.specs.Contours.Outlines.{next_or}
use Rattle.overlay.specs.Contours.Rings.{IsRing, ring_edges}
use Rattle.overlay.specs.Fill.Filled.{AreDistinct, AreNoded, HaveSameEnds}
use Rattle.overlay.specs.Fill.Pieces.{total}
use Rattle.overlay.specs.Grouping.{edges_from}
use Rattle.overlay.specs.Sides.{sheared, sheared_edge}
use Rattle.overlay.proofs.ContourLemmas.Order.{point}
use Rattle.overlay.proofs.FillLemmas.Level.{MeetOnly}
use Rattle.overlay.proofs.GroupingLemmas.Edges.{edges_from-first}

-- ---- the edges of a ring

-- the first of the points, or the one behind them
next_or-sheared : (n : ℕ) (points : List Point) (behind : Point) → next_or (map (sheared n) points) (sheared n behind) ≡ sheared n (next_or points behind)
next_or-sheared n [] behind = refl
next_or-sheared n (at ∷ points) behind = refl

-- from each point to the next one
edges_from-sheared : (n : ℕ) (points : List Point) (behind : Point) → edges_from (map (sheared n) points) (sheared n behind) ≡ map (sheared_edge n) (edges_from points behind)
edges_from-sheared n [] behind = refl
edges_from-sheared n (at ∷ points) behind =
    ap₂ (λ (next : Point) (rest : List Edge). edge_between (sheared n at) next ∷ rest) (next_or-sheared n points behind) (edges_from-sheared n points behind)

-- those of a sheared ring are the sheared ones
pub ring_edges-sheared : (n : ℕ) (ring : List Point) → ring_edges (map (sheared n) ring) ≡ map (sheared_edge n) (ring_edges ring)
ring_edges-sheared n [] = refl
ring_edges-sheared n (first ∷ others) =
    edges_from-first (map (sheared n) (first ∷ others))
    ∙ edges_from-sheared n (first ∷ others) first
    ∙ sym (ap (λ (edges : List Edge). map (sheared_edge n) edges) (edges_from-first (first ∷ others)))

-- ---- the area

-- what an edge sweeps grows n times
swept-sheared : (n : ℕ) (edge : Edge) → swept (sheared_edge n edge) ≡ (pos n *ℤ swept edge)
swept-sheared n edge =
    identity (minus (times (plus (times (n_of n) (number edge.x0)) (number edge.y0)) (number edge.y1)) (times (number edge.y0) (plus (times (n_of n) (number edge.x1)) (number edge.y1))))
    (times (n_of n) (minus (times (number edge.x0) (number edge.y1)) (times (number edge.y0) (number edge.x1))))
    (omega arith)

-- and so does what all of them sweep
pub total-sheared : (n : ℕ) (edges : List Edge) → total swept (map (sheared_edge n) edges) ≡ (pos n *ℤ total swept edges)
total-sheared n [] = identity (n_of 0) (times (n_of n) (n_of 0)) (omega arith)
total-sheared n (edge ∷ edges) =
    ap₂ (λ a b. a +ℤ b) (swept-sheared n edge) (total-sheared n edges)
    ∙ identity (plus (times (n_of n) (number (swept edge))) (times (n_of n) (number (total swept edges)))) (times (n_of n) (plus (number (swept edge)) (number (total swept edges)))) (omega arith)

-- ---- back to the point

-- numbers with the same positive multiple
cancelled : (n : ℕ) (a b : ℤ) → 0 < n → (pos n *ℤ a) ≡ (pos n *ℤ b) → a ≡ b
cancelled n a b some same =
    let upto = unscaled n a b some (omega (arith, ints, same)) in
    let from = unscaled n b a some (omega (arith, ints, same)) in
    omega (arith, ints, upto, from)

module _ (n : ℕ) (some : 0 < n) where
  -- different points stay different
  pub sheared-same : (p q : Point) → sheared n p ≡ sheared n q → p ≡ q
  sheared-same p q same =
      let even : p.y ≡ q.y = ap (λ (r : Point). r.y) same in
      let sum : ((pos n *ℤ p.x) +ℤ p.y) ≡ ((pos n *ℤ q.x) +ℤ q.y) = ap (λ (r : Point). r.x) same in
      ap₂ point (cancelled n p.x q.x some (without (pos n *ℤ p.x) (pos n *ℤ q.x) p.y q.y sum even)) even
    where
      without : (a b c d : ℤ) → (a +ℤ c) ≡ (b +ℤ d) → c ≡ d → a ≡ b
      without a b c d sum same = omega (arith, ints, sum, same)

  -- and so do different edges
  pub edge-same : (one other : Edge) → sheared_edge n one ≡ sheared_edge n other → one ≡ other
  edge-same one other same = ap₂ edge_between (sheared-same (start_of one) (start_of other) (ap start_of same)) (sheared-same (end_of one) (end_of other) (ap end_of same))

  -- a sheared ring is a ring
  pub IsRing-sheared : (ring : List Point) → IsRing ring → IsRing (map (sheared n) ring)
  IsRing-sheared ring is = record {
    some = some_points ring is.some;
    once = AllPairs-to_map (λ (p q : Point). p ≢ q) (sheared n) ring (λ i j d below within same. is.once i j d below within (sheared-same (get_or ring i d) (get_or ring j d) same));
  }
    where
      some_points : (points : List Point) → points ≢ [] → map (sheared n) points ≢ []
      some_points [] any none = absurd (any refl)
      some_points (first ∷ others) any none = let long = ap (λ (points : List Point). length points) none in omega (arith, long)

  -- edges that have the same ends once they are sheared had the same before
  ends-same : (one other : Edge) → HaveSameEnds (sheared_edge n one) (sheared_edge n other) → HaveSameEnds one other
  ends-same one other (inl same) = inl (edge-same one other same)
  ends-same one other (inr back) = inr (edge-same one (reversed other) back)

  -- so distinct edges stay distinct
  pub AreDistinct-sheared : (edges : List Edge) → AreDistinct edges → AreDistinct (map (sheared_edge n) edges)
  AreDistinct-sheared edges distinct =
      AllPairs-to_map (λ (one other : Edge). ¬ (HaveSameEnds one other)) (sheared_edge n) edges
      (λ i j d below within same. distinct i j d below within (ends-same (get_or edges i d) (get_or edges j d) same))

  -- ---- points of sheared edges

  -- the point of which this is the sheared one
  abbrev pub back : RationalPoint → RationalPoint
  back at = record {
    n = at.n * n;
    x = at.x -ℤ at.y;
    y = pos n *ℤ at.y;
    positive = (let first = at.positive in mul-pos {m = at.n} {n = n} first some);
  }

  -- its x lies as far along the edge
  back_x : (m a : ℕ) (x0 x1 y0 y1 x y : ℤ) → x ≡ ((pos m *ℤ ((pos n *ℤ x0) +ℤ y0)) +ℤ (pos a *ℤ (((pos n *ℤ x1) +ℤ y1) -ℤ ((pos n *ℤ x0) +ℤ y0)))) → y ≡ ((pos m *ℤ y0) +ℤ (pos a *ℤ (y1 -ℤ y0)))
      → (x -ℤ y) ≡ ((pos (m * n) *ℤ x0) +ℤ (pos (a * n) *ℤ (x1 -ℤ x0)))
  back_x m a x0 x1 y0 y1 x y first second =
      let left = plus (times (n_of n) (number x0)) (number y0) in
      let right = plus (times (n_of n) (number x1)) (number y1) in
      ap₂ (λ p q. p -ℤ q) first second
      ∙ identity (minus (plus (times (n_of m) left) (times (n_of a) (minus right left))) (plus (times (n_of m) (number y0)) (times (n_of a) (minus (number y1) (number y0)))))
      (plus (times (n_of (m * n)) (number x0)) (times (n_of (a * n)) (minus (number x1) (number x0))))
      (omega arith)

  -- and so does its y
  back_y : (m a : ℕ) (y0 y1 y : ℤ) → y ≡ ((pos m *ℤ y0) +ℤ (pos a *ℤ (y1 -ℤ y0))) → (pos n *ℤ y) ≡ ((pos (m * n) *ℤ y0) +ℤ (pos (a * n) *ℤ (y1 -ℤ y0)))
  back_y m a y0 y1 y is =
      ap (λ z. pos n *ℤ z) is
      ∙ identity (times (n_of n) (plus (times (n_of m) (number y0)) (times (n_of a) (minus (number y1) (number y0)))))
      (plus (times (n_of (m * n)) (number y0)) (times (n_of (a * n)) (minus (number y1) (number y0))))
      (omega arith)

  -- where the sheared edge has a point, the edge has that one
  IsOf-back : (edge : Edge) (at : RationalPoint) → IsOf (sheared_edge n edge) at → IsOf edge (back at)
  IsOf-back edge at (a, share) =
      let within = share.share in (
        a * n,
        record {
          share = mul-le a n at.n n within (omega arith);
          x = back_x at.n a edge.x0 edge.x1 edge.y0 edge.y1 at.x at.y share.x share.y;
          y = back_y at.n a edge.y0 edge.y1 at.y share.y;
        },
      )

  -- where that one is whole, so is the point
  IsAt-sheared : (at : RationalPoint) (x y : ℤ) → IsAt (back at) x y → IsAt at ((pos n *ℤ x) +ℤ y) y
  IsAt-sheared at x y is =
      let even : at.y ≡ (pos at.n *ℤ y) =
      cancelled n at.y (pos at.n *ℤ y) some (is.y_is ∙ identity (times (n_of (at.n * n)) (number y)) (times (n_of n) (times (n_of at.n) (number y))) (omega arith)) in
      let level = is.x_is in
      let sum = identity (plus (times (n_of (at.n * n)) (number x)) (times (n_of at.n) (number y))) (times (n_of at.n) (plus (times (n_of n) (number x)) (number y))) (omega arith) in
      record {
        x_is = added at.x at.y (pos (at.n * n) *ℤ x) (pos at.n *ℤ y) level even ∙ sum;
        y_is = even;
      }
    where
      added : (p q a b : ℤ) → (p -ℤ q) ≡ a → q ≡ b → p ≡ (a +ℤ b)
      added p q a b first second = omega (arith, ints, first, second)

  -- where that one is an end, so is the point
  IsEnd-sheared : (edge : Edge) (at : RationalPoint) → IsEnd edge (back at) → IsEnd (sheared_edge n edge) at
  IsEnd-sheared edge at (inl is) = inl (IsAt-sheared at edge.x0 edge.y0 is)
  IsEnd-sheared edge at (inr is) = inr (IsAt-sheared at edge.x1 edge.y1 is)

  -- so edges that meet only at common ends do so still
  meet-sheared : (one other : Edge) → MeetOnly one other → MeetOnly (sheared_edge n one) (sheared_edge n other)
  meet-sheared one other meet at of_one of_other = by (meet (back at) (IsOf-back one at of_one) (IsOf-back other at of_other))
    where
      by : MeetAtEnds one other (back at) → MeetAtEnds (sheared_edge n one) (sheared_edge n other) at
      by (inl (first, second)) = inl (IsEnd-sheared one at first, IsEnd-sheared other at second)
      by (inr (inl same)) = inr (inl (ap (sheared_edge n) same))
      by (inr (inr same)) = inr (inr (ap (sheared_edge n) same))

  -- and so do all of them
  pub AreNoded-sheared : (edges : List Edge) → AreNoded edges → AreNoded (map (sheared_edge n) edges)
  AreNoded-sheared edges noded one other at first second of_one of_other =
      let (before, inside, is) = Contains-from_map (sheared_edge n) edges one first in
      let (before_other, inside_other, is_other) = Contains-from_map (sheared_edge n) edges other second in
      subst (λ (e : Edge). MeetAtEnds e other at) is
      (subst (λ (e : Edge). MeetAtEnds (sheared_edge n before) e at) is_other
      (meet-sheared before before_other (λ there a b. noded before before_other there inside inside_other a b) at
      (subst (λ (e : Edge). IsOf e at) (sym is) of_one) (subst (λ (e : Edge). IsOf e at) (sym is_other) of_other)))
