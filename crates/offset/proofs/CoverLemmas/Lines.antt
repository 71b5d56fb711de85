-- The lines that a point is to be off, and the edges of bands and triangles, by which side of them it is on.
use Rattle.std.proofs.Common.{List, [], ◌∷◌, ap₂, arith, pos, refl, subst, ℤ, ◌*ℤ◌, ◌+ℤ◌, ◌-ℤ◌, ◌<ℤ◌, ◌≡◌, ◌≢◌}
use Rattle.std.specs.List.{flat_map}
use Rattle.std.specs.Prelude.{All, Contains}
use Rattle.std.proofs.lemmas.Int.{ints}
use Rattle.std.proofs.lemmas.List.Elements.{All-contains}
use Rattle.i_tree.proofs.RootLemmas.Lists.{Contains-here, Contains-there}
use Rattle.plane.specs.declared.edge.Edge.{Edge}
use Rattle.plane.specs.declared.point.Point.{Point}
use Rattle.plane.specs.Ends.{edge_between, end_of, reversed, start_of}
use Rattle.plane.specs.Meet.Edges.{RationalPoint}
use Rattle.plane.proofs.MeetLemmas.Identities.{identity, minus, number, plus, times}
use Rattle.overlay.proofs.GroupingLemmas.Bags.{Contains-in_flat_map}
use Rattle.offset.specs.Raw.{moved, moved_edge}
use Rattle.offset.proofs.CoverLemmas.Cover.{IsGeneric, IsInBand, IsInTriangle}
use Rattle.offset.proofs.CoverLemmas.Near.{reversed-side}
use Rattle.offset.proofs.CoverLemmas.Numbers.{none}
use Rattle.offset.proofs.CoverLemmas.Sides.{ahead, ahead_term, side_of, way_term}
use Rattle.offset.proofs.CoverLemmas.Vectors.{Terms, crossed, crossing, less_terms, reach, term, way, wide}

-- ---- which side of them a point is on

abbrev moved_term : Point → Point → Terms
moved_term by point = record {
  x = plus (number by.x) (number point.x);
  y = plus (number by.y) (number point.y);
}

-- the way from a point given as an expression
abbrev from_term : RationalPoint → Terms → Terms
from_term point from = record {
  x = minus (number point.x) (times (number (pos point.n)) from.x);
  y = minus (number point.y) (times (number (pos point.n)) from.y);
}

-- of the way from a whole point by a vector, and back
pub side-out : (by from : Point) (point : RationalPoint) → side_of (edge_between from (moved by from)) point ≡ (pos 0 -ℤ crossed (ahead point from) by)
side-out by from point =
    identity
    (crossing (less_terms (moved_term by from) (term from)) (ahead_term point from))
    (minus none (crossing (ahead_term point from) (term by)))
    (omega arith)

pub side-in : (by from : Point) (point : RationalPoint) → side_of (edge_between (moved by from) from) point ≡ crossed (ahead point from) by
side-in by from point =
    identity
    (crossing (less_terms (term from) (moved_term by from)) (from_term point (moved_term by from)))
    (crossing (ahead_term point from) (term by))
    (omega arith)

-- of an edge that is moved
pub side-moved : (by : Point) (edge : Edge) (point : RationalPoint) → side_of (moved_edge by edge) point ≡ (side_of edge point -ℤ (pos point.n *ℤ crossed (way edge) by))
side-moved by edge point =
    identity
    (crossing (less_terms (moved_term by (end_of edge)) (moved_term by (start_of edge))) (from_term point (moved_term by (start_of edge))))
    (minus (crossing (way_term edge) (ahead_term point (start_of edge))) (times (number (pos point.n)) (crossing (way_term edge) (term by))))
    (omega arith)

-- of a side of the shape that is moved by a point
pub side-side : (from : Point) (side : Edge) (point : RationalPoint) → side_of (moved_edge from side) point ≡ ((pos point.n *ℤ wide side) -ℤ reach side (ahead point from))
side-side from side point =
    identity
    (crossing (less_terms (moved_term from (end_of side)) (moved_term from (start_of side))) (from_term point (moved_term from (start_of side))))
    (minus (times (number (pos point.n)) (crossing (term (start_of side)) (term (end_of side)))) (crossing (ahead_term point from) (way_term side)))
    (omega arith)

-- ---- the lines

-- Those of an edge and a side of the shape: from the edge's ends along the side's first corner, the edge moved by that corner,
-- and the side moved by the edge's end.
abbrev pub lines_of_two : Edge → Edge → List Edge
lines_of_two edge side =
    edge_between (start_of edge) (moved (start_of side) (start_of edge)) ∷ edge_between (end_of edge) (moved (start_of side) (end_of edge)) ∷ moved_edge (start_of side) edge ∷ moved_edge (end_of edge) side ∷ []

-- The edge itself, and those.
abbrev pub lines_of : List Edge → Edge → List Edge
lines_of sides edge = edge ∷ flat_map (lines_of_two edge) sides

abbrev pub lines : List Edge → List Edge → List Edge
lines sides edges = flat_map (lines_of sides) edges

-- A point that is on none of the lines.
pub generic-off : (sides edges : List Edge) (point : RationalPoint) → All (λ line. ¬ (side_of line point ≡ pos 0)) (lines sides edges) → IsGeneric sides edges point
generic-off sides edges point off = record {
  off = λ edge of. record {
    off = at edge edge of (Contains-here edge (flat_map (lines_of_two edge) sides));
    start = λ side of_side is.
        two edge side of of_side (edge_between (start_of edge) (moved (start_of side) (start_of edge))) (0, omega arith, refl)
        (let same = side-out (start_of side) (start_of edge) point in omega (arith, ints, is, same));
    end = λ side of_side is.
        two edge side of of_side (edge_between (end_of edge) (moved (start_of side) (end_of edge))) (1, omega arith, refl)
        (let same = side-out (start_of side) (end_of edge) point in omega (arith, ints, is, same));
  };
  band = λ edge side of of_side is.
      two edge side of of_side (moved_edge (start_of side) edge) (2, omega arith, refl)
      (let same = side-moved (start_of side) edge point in
      let turned = identity (times (number (pos point.n)) (minus none (number (crossed (way edge) (start_of side))))) (minus none (times (number (pos point.n)) (number (crossed (way edge) (start_of side))))) (omega arith) in
      omega (arith, ints, is, same, turned));
  triangle = λ edge side of of_side is.
      two edge side of of_side (moved_edge (end_of edge) side) (3, omega arith, refl)
      (let same = side-side (end_of edge) side point in omega (arith, ints, is, same));
}
  where
    at : (edge line : Edge) → Contains edges edge → Contains (lines_of sides edge) line → side_of line point ≢ pos 0
    at edge line of held = All-contains (λ (one : Edge). ¬ (side_of one point ≡ pos 0)) (lines sides edges) line off (Contains-in_flat_map (lines_of sides) edges edge line of held)

    two : (edge side : Edge) → Contains edges edge → Contains sides side → (line : Edge) → Contains (lines_of_two edge side) line → side_of line point ≢ pos 0
    two edge side of of_side line held = at edge line of (Contains-there edge (flat_map (lines_of_two edge) sides) line (Contains-in_flat_map (lines_of_two edge) sides side line of_side held))

-- ---- bands and triangles

-- The point lies left of each edge of the band.
pub record IsLeftOfBand (edge : Edge) (corner : Point) (point : RationalPoint) : Type 0 where
  pub behind : pos 0 <ℤ side_of (reversed edge) point
  pub from : pos 0 <ℤ side_of (edge_between (start_of edge) (moved corner (start_of edge))) point
  pub before : pos 0 <ℤ side_of (moved_edge corner edge) point
  pub upto : pos 0 <ℤ side_of (edge_between (moved corner (end_of edge)) (end_of edge)) point

pub left-of_band : (edges : List Edge) (pairs : List (Edge × Edge)) (point : RationalPoint) (is : IsInBand edges pairs point) → IsLeftOfBand is.edge (start_of is.corner) point
left-of_band edges pairs point is =
    let edge = is.edge in
    let corner = start_of is.corner in
    let right = is.right in
    let after = is.after in
    let before = is.before in
    let within = is.within in
    let first = reversed-side edge point in
    let second = side-out corner (start_of edge) point in
    let third = side-moved corner edge point in
    let fourth = side-in corner (end_of edge) point in
    let turned = identity (times (number (pos point.n)) (minus none (number (crossed (way edge) corner)))) (minus none (times (number (pos point.n)) (number (crossed (way edge) corner)))) (omega arith) in
    record {
      behind = omega (arith, ints, right, first);
      from = omega (arith, ints, after, second);
      before = omega (arith, ints, within, third, turned);
      upto = omega (arith, ints, before, fourth);
    }

-- The point lies left of each edge of the triangle.
pub record IsLeftOfTriangle (vertex : Point) (side : Edge) (point : RationalPoint) : Type 0 where
  pub from : pos 0 <ℤ side_of (edge_between vertex (moved vertex (start_of side))) point
  pub before : pos 0 <ℤ side_of (moved_edge vertex side) point
  pub upto : pos 0 <ℤ side_of (edge_between (moved vertex (end_of side)) vertex) point

-- the corner moved by the vertex, as the vertex moved by the corner
pub moved-other : (by point : Point) → moved by point ≡ moved point by
moved-other by point = ap₂ (λ a b. record { x = a; y = b }) (swap by.x point.x) (swap by.y point.y)
  where
    swap : (a b : ℤ) → (a +ℤ b) ≡ (b +ℤ a)
    swap a b = identity (plus (number a) (number b)) (plus (number b) (number a)) (omega arith)

pub left-of_triangle : (sides : List Edge) (joints : List (Edge × Edge)) (point : RationalPoint) (is : IsInTriangle sides joints point) → IsLeftOfTriangle (end_of is.edge) is.side point
left-of_triangle sides joints point is =
    let vertex = end_of is.edge in
    let side = is.side in
    let after = is.after in
    let before = is.before in
    let within = is.within in
    let first = side-out (start_of side) vertex point in
    let second = side-side vertex side point in
    let third = side-in (end_of side) vertex point in
    let out : pos 0 <ℤ side_of (edge_between vertex (moved (start_of side) vertex)) point = omega (arith, ints, after, first) in
    let back : pos 0 <ℤ side_of (edge_between (moved (end_of side) vertex) vertex) point = omega (arith, ints, before, third) in
    record {
      from = subst (λ (corner : Point). pos 0 <ℤ side_of (edge_between vertex corner) point) (moved-other (start_of side) vertex) out;
      before = omega (arith, ints, within, second);
      upto = subst (λ (corner : Point). pos 0 <ℤ side_of (edge_between corner vertex) point) (moved-other (end_of side) vertex) back;
    }
