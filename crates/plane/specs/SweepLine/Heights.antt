-- The heights of edges at an x, as rational numbers that are compared by cross-multiplying; and which edges are under a point.
use Rattle.std.specs.Prelude.{ℤ, ◌+ℤ◌, ◌-ℤ◌, ◌*ℤ◌, ◌≤ℤ◌, ◌<ℤ◌, cond}
use Rattle.std.specs.Int.Signed.{lt_z}
use Rattle.plane.specs.declared.edge.Edge.{Edge}
use Rattle.plane.specs.declared.point.Point.{Point}

-- The edge from its lesser end along x to its greater. A vertical edge, or a point, stays as it is.
unfoldable pub rightwards : Edge → Edge
rightwards edge =
    cond (lt_z edge.x1 edge.x0)
    (record {
      x0 = edge.x1;
      y0 = edge.y1;
      x1 = edge.x0;
      y1 = edge.y0;
    })
    edge

-- An edge spans the x's from its lesser to its greater end, both of them.
pub record Spans (edge : Edge) (x : ℤ) : Type 0 where
  pub from : (rightwards edge).x0 ≤ℤ x
  pub upto : x ≤ℤ (rightwards edge).x1

-- It covers those of them but the last: where one edge of a chain ends and the next begins, one of them covers the x. A
-- vertical edge or a point covers nothing.
pub record Covers (edge : Edge) (x : ℤ) : Type 0 where
  pub from : (rightwards edge).x0 ≤ℤ x
  pub before : x <ℤ (rightwards edge).x1

-- ---- an edge that goes to the right

-- how far it goes along x, which is more than 0 where it isn't vertical or a point
abbrev pub run : Edge → ℤ
run edge = edge.x1 -ℤ edge.x0

-- its height at x, times its run: its ends' heights, each by how far it is from the other end to x
abbrev pub height_by_run : Edge → ℤ → ℤ
height_by_run edge x = (edge.y0 *ℤ (edge.x1 -ℤ x)) +ℤ (edge.y1 *ℤ (x -ℤ edge.x0))

-- its height at x, times its run and another's
abbrev pub height_by_runs : Edge → Edge → ℤ → ℤ
height_by_runs edge other x = height_by_run edge x *ℤ run other

-- the one isn't above the other at x
abbrev pub IsUpto : Edge → Edge → ℤ → Type 0
IsUpto one other x = height_by_runs one other x ≤ℤ height_by_runs other one x

-- how far it goes up, and this times another's run, by which slopes are compared
abbrev pub rise : Edge → ℤ
rise edge = edge.y1 -ℤ edge.y0

-- The rise of the one, times the run of the other: slopes are compared so, without a division.
abbrev pub rise_by_run : Edge → Edge → ℤ
rise_by_run edge other = rise edge *ℤ run other

-- ---- any edge

-- The one is below the other at x, which both span. A vertical edge or a point has no run, and is never below or above.
abbrev pub IsLowerAt : ℤ → Edge → Edge → Type 0
IsLowerAt x one other =
    height_by_runs (rightwards one) (rightwards other) x <ℤ height_by_runs (rightwards other) (rightwards one) x

-- The edge is under the point: it covers the point's x, at a height that is at most the point's.
pub record IsUnder (point : Point) (edge : Edge) : Type 0 where
  pub covers : Covers edge point.x
  pub upto : height_by_run (rightwards edge) point.x ≤ℤ (point.y *ℤ run (rightwards edge))
