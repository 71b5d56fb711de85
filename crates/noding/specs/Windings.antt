-- How often edges wind around a point: those under it that go rightwards, less those under it that go leftwards.
use Rattle.std.specs.List.{count_by, zip}
use Rattle.std.specs.Prelude.{◌≡◌, Bool, cond, ◌&&◌, List, ℤ, pos, ◌+ℤ◌, ◌-ℤ◌, ◌*ℤ◌, drop, int_le, int_lt, map}
use Rattle.plane.specs.declared.edge.Edge.{Edge}
use Rattle.plane.specs.declared.point.Point.{Point}
use Rattle.plane.specs.Ends.{start_of, end_of, edge_between, reversed}
use Rattle.plane.specs.Meet.Crosses.{cross}
use Rattle.plane.specs.Meet.Edges.{RationalPoint}

-- How far the point lies in the direction (u, v).
abbrev pub further : ℤ → ℤ → Point → ℤ
further u v point = (u *ℤ point.x) +ℤ (v *ℤ point.y)

-- 1 where the test is true, else 0.
abbrev pub count : Bool → ℤ
count test = cond test (pos 1) (pos 0)

-- The edge goes rightwards and is under the point: it covers the point's x, from its start up to and without its end, and the
-- point isn't to the right of it.
abbrev pub is_under : Edge → RationalPoint → Bool
is_under edge point =
    (int_le (pos point.n *ℤ edge.x0) point.x && int_lt point.x (pos point.n *ℤ edge.x1))
    && int_le (pos 0) (cross (edge.x1 -ℤ edge.x0) (edge.y1 -ℤ edge.y0) (point.x -ℤ (pos point.n *ℤ edge.x0)) (point.y -ℤ (pos point.n *ℤ edge.y0)))

-- The winding number of edges around a point: of those that go rightwards as many as are under it, less those that go leftwards
-- and are. Of a ring that goes counterclockwise it is 1 inside and 0 outside. A vertical edge or a point is under nothing.
abbrev pub winding : List Edge → RationalPoint → ℤ
winding edges point = pos (count_by (λ edge. is_under edge point) edges) -ℤ pos (count_by (λ edge. is_under (reversed edge) point) edges)

-- Closed edges, as those of rings: in each set of points as many of them start as end.
abbrev pub IsClosed : List Edge → Type 0
IsClosed edges = (test : Point → Bool) → count_by (λ edge. test (start_of edge)) edges ≡ count_by (λ edge. test (end_of edge)) edges

-- The pieces of a chain: the edges from each of its points to the next.
abbrev pub pieces : List Point → List Edge
pieces chain = map (λ ends. edge_between ends.0 ends.1) (zip chain (drop 1 chain))
