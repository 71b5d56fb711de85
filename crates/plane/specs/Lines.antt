-- Lines along edges, and points beside them.
use Rattle.std.specs.Prelude.{◌≡◌, ◌⊎◌, ◌+◌, ℤ, pos, ◌-ℤ◌, unsigned_abs}
use Rattle.plane.specs.Meet.Crosses.{cross}
use Rattle.plane.specs.declared.edge.Edge.{Edge}
use Rattle.plane.specs.declared.point.Point.{Point}

-- How far the point lies to the left of the line, times its length.
abbrev pub height_over : Edge → Point → ℤ
height_over line point = cross (line.x1 -ℤ line.x0) (line.y1 -ℤ line.y0) (point.x -ℤ line.x0) (point.y -ℤ line.y0)

-- A unit on both axes, times the line's length.
abbrev pub margin_of : Edge → ℤ
margin_of line = pos (unsigned_abs (line.x1 -ℤ line.x0) + unsigned_abs (line.y1 -ℤ line.y0))

-- The edge runs along an axis, or is a point.
abbrev pub IsAlongAxis : Edge → Type 0
IsAlongAxis edge = (edge.x1 ≡ edge.x0) ⊎ (edge.y1 ≡ edge.y0)
