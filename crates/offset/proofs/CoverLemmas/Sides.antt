-- Points beside edges, and the ways from one point to another.
use Rattle.std.proofs.Common.{List, ap, arith, pos, ℕ, ℤ, ◌*ℤ◌, ◌+ℤ◌, ◌-ℤ◌, ◌<ℤ◌, ◌<◌, ◌≡◌, ◌≤◌, ◌⊎◌, ◌∙◌}
use Rattle.std.specs.Prelude.{Contains}
use Rattle.plane.specs.declared.edge.Edge.{Edge}
use Rattle.plane.specs.declared.point.Point.{Point}
use Rattle.plane.specs.Ends.{end_of, start_of}
use Rattle.plane.specs.Meet.Crosses.{cross}
use Rattle.plane.specs.Meet.Edges.{IsAtShare, IsOf, RationalPoint}
use Rattle.plane.proofs.MeetLemmas.Identities.{identity, minus, number, plus, times}
use Rattle.offset.proofs.CoverLemmas.Vectors.{Terms, crossed, crossing, less_terms, term, way}

-- The way from a whole point to a rational one, times what the latter is over.
abbrev pub ahead : RationalPoint → Point → Point
ahead point from = record {
  x = point.x -ℤ (pos point.n *ℤ from.x);
  y = point.y -ℤ (pos point.n *ℤ from.y);
}

-- The way from a rational point to another one, times what both are over.
abbrev pub apart : RationalPoint → RationalPoint → Point
apart point from = record {
  x = (pos from.n *ℤ point.x) -ℤ (pos point.n *ℤ from.x);
  y = (pos from.n *ℤ point.y) -ℤ (pos point.n *ℤ from.y);
}

-- Which side of the edge's line the point is on: above 0 on its left, below 0 on its right.
abbrev pub side_of : Edge → RationalPoint → ℤ
side_of edge point = crossed (way edge) (ahead point (start_of edge))

-- A whole point, as a rational one.
abbrev pub whole : Point → RationalPoint
whole point = record {
  n = 1;
  x = point.x;
  y = point.y;
  positive = omega arith;
}

-- The point lies a of m parts of the way from one point to another.
pub record IsOnWay (from to point : RationalPoint) (a m : ℕ) : Type 0 where
  pub some : 0 < m
  pub share : a ≤ m
  pub x : ((pos m *ℤ (pos from.n *ℤ pos to.n)) *ℤ point.x) ≡ (pos point.n *ℤ (((pos m -ℤ pos a) *ℤ (pos to.n *ℤ from.x)) +ℤ (pos a *ℤ (pos from.n *ℤ to.x))))
  pub y : ((pos m *ℤ (pos from.n *ℤ pos to.n)) *ℤ point.y) ≡ (pos point.n *ℤ (((pos m -ℤ pos a) *ℤ (pos to.n *ℤ from.y)) +ℤ (pos a *ℤ (pos from.n *ℤ to.y))))

-- The way from one point to another meets none of the edges after its start.
abbrev pub MeetsAtStart : List Edge → RationalPoint → RationalPoint → Type 0
MeetsAtStart edges from to = (edge : Edge) (point : RationalPoint) (a m : ℕ) → Contains edges edge → IsOf edge point → IsOnWay from to point a m → a ≡ 0

-- Going counterclockwise from one direction, another one is passed before the last.
abbrev pub IsBetween : Point → Point → Point → Type 0
IsBetween one other last =
    (pos 0 <ℤ crossed one other) × (pos 0 <ℤ crossed other last)
    ⊎ ((pos 0 <ℤ crossed one other) × (pos 0 <ℤ crossed last one)
    ⊎ (pos 0 <ℤ crossed other last) × (pos 0 <ℤ crossed last one))

-- The way that an edge goes, backwards.
abbrev pub back : Edge → Point
back edge = record { x = edge.x0 -ℤ edge.x1; y = edge.y0 -ℤ edge.y1 }

-- ---- as expressions

abbrev pub ahead_term : RationalPoint → Point → Terms
ahead_term point from = record {
  x = minus (number point.x) (times (number (pos point.n)) (number from.x));
  y = minus (number point.y) (times (number (pos point.n)) (number from.y));
}

abbrev pub way_term : Edge → Terms
way_term edge = less_terms (term (end_of edge)) (term (start_of edge))

-- from a point of an edge, by its share
pub apart-at : (edge : Edge) (point from : RationalPoint) (a : ℕ) (f : Point) → IsAtShare edge from a → crossed (apart point from) f ≡ ((pos from.n *ℤ crossed (ahead point (start_of edge)) f) -ℤ ((pos point.n *ℤ pos a) *ℤ crossed (way edge) f))
apart-at edge point from a f at =
    let n = number (pos point.n) in
    let m = number (pos from.n) in
    let share = number (pos a) in
    let d = way_term edge in
    let u = term (start_of edge) in
    let there : Terms = record {
      x = minus (times m (number point.x)) (times n (plus (times m u.x) (times share d.x)));
      y = minus (times m (number point.y)) (times n (plus (times m u.y) (times share d.y)));
    } in
    ap (λ z. cross ((pos from.n *ℤ point.x) -ℤ (pos point.n *ℤ z)) ((pos from.n *ℤ point.y) -ℤ (pos point.n *ℤ from.y)) f.x f.y) at.x
    ∙ ap (λ z. cross ((pos from.n *ℤ point.x) -ℤ (pos point.n *ℤ ((pos from.n *ℤ edge.x0) +ℤ (pos a *ℤ (edge.x1 -ℤ edge.x0))))) ((pos from.n *ℤ point.y) -ℤ (pos point.n *ℤ z)) f.x f.y) at.y
    ∙ identity (crossing there (term f)) (minus (times m (crossing (ahead_term point (start_of edge)) (term f))) (times (times n share) (crossing d (term f)))) (omega arith)

-- from its end
pub ahead-end : (edge : Edge) (point : RationalPoint) (f : Point) → crossed (ahead point (end_of edge)) f ≡ (crossed (ahead point (start_of edge)) f -ℤ (pos point.n *ℤ crossed (way edge) f))
ahead-end edge point f =
    identity
    (crossing (ahead_term point (end_of edge)) (term f))
    (minus (crossing (ahead_term point (start_of edge)) (term f)) (times (number (pos point.n)) (crossing (way_term edge) (term f))))
    (omega arith)

-- from a whole point
pub apart-whole : (point : RationalPoint) (from f : Point) → crossed (apart point (whole from)) f ≡ crossed (ahead point from) f
apart-whole point from f =
    let one = number (pos 1) in
    let n = number (pos point.n) in
    let there : Terms = record {
      x = minus (times one (number point.x)) (times n (number from.x));
      y = minus (times one (number point.y)) (times n (number from.y));
    } in
    identity (crossing there (term f)) (crossing (ahead_term point from) (term f)) (omega arith)
