-- Rings without the points at which they go straight on.
use Rattle.std.specs.List.{flat_map}
use Rattle.std.specs.Prelude.{◌≡◌, ℕ, ◌-◌, ℤ, pos, ◌-ℤ◌, ◌<ℤ◌, Bool, cond, ◌&&◌, int_le, int_lt, List, [], ◌∷◌, All, get_or, length}
use Rattle.plane.specs.Meet.Crosses.{cross}
use Rattle.plane.specs.Meet.Edges.{RationalPoint}
use Rattle.plane.specs.declared.edge.Edge.{Edge}
use Rattle.plane.specs.declared.point.Point.{Point}
use Rattle.overlay.specs.Contours.Rings.{IsRing, ring_edges}
use Rattle.overlay.specs.Contours.Turns.{dot}
use Rattle.noding.specs.Windings.{winding}

-- From the first point over the second to the third it goes straight on: along one line, and in one direction.
pub record IsStraight (before at after : Point) : Type 0 where
  pub along : cross (at.x -ℤ before.x) (at.y -ℤ before.y) (after.x -ℤ at.x) (after.y -ℤ at.y) ≡ pos 0
  pub ahead : pos 0 <ℤ dot (at.x -ℤ before.x) (at.y -ℤ before.y) (after.x -ℤ at.x) (after.y -ℤ at.y)

-- whether it does, of a cross product and a scalar product
abbrev pub are_straight : ℤ → ℤ → Bool
are_straight turned onwards = (int_le turned (pos 0) && int_le (pos 0) turned) && int_lt (pos 0) onwards

abbrev pub goes_straight : Point → Point → Point → Bool
goes_straight before at after =
    are_straight
    (cross (at.x -ℤ before.x) (at.y -ℤ before.y) (after.x -ℤ at.x) (after.y -ℤ at.y))
    (dot (at.x -ℤ before.x) (at.y -ℤ before.y) (after.x -ℤ at.x) (after.y -ℤ at.y))

-- The first of the points, or if there is none the one behind them.
abbrev pub next_or : List Point → Point → Point
next_or [] behind = behind
next_or (point ∷ points) behind = point

-- Those of the points at which it doesn't go straight on, on the way from the point before them to the one behind them.
abbrev pub bends : Point → List Point → Point → List Point
bends before [] behind = []
bends before (at ∷ points) behind = cond (goes_straight before at (next_or points behind)) (bends at points behind) (at ∷ bends at points behind)

-- The point of a ring at a place.
abbrev pub ring_point : List Point → ℕ → Point
ring_point ring place = get_or ring place (record { x = pos 0; y = pos 0 })

-- The points of a ring at which it doesn't go straight on.
abbrev pub outline : List Point → List Point
outline ring = bends (ring_point ring (length ring - 1)) ring (ring_point ring 0)

-- Rings that wind around each rational point as the edges do.
pub record AreOutlines (edges : List Edge) (outlines : List (List Point)) : Type 0 where
  pub each : All IsRing outlines
  pub winds : (point : RationalPoint) → winding (flat_map ring_edges outlines) point ≡ winding edges point
