-- Grids of points, and the point of one that is nearest to a position.
use Rattle.std.specs.Prelude.{◌≡◌, ℕ, ℤ, ◌-◌, ◌*◌, ◌%◌, ◌^◌, ◌≤◌, ◌+ℤ◌, ◌-ℤ◌, ◌*ℤ◌, ◌≤ℤ◌, ◌<◌, List, length, slice_index_or, pos, negsuc, unsigned_abs, FitsSigned}
use Rattle.std.specs.Int.{w32}
use Rattle.plane.specs.declared.point.Point.{Point}
use Rattle.grid.specs.declared.position.Position.{Position}
use Rattle.grid.specs.declared.units.Grid.{Grid}
use Rattle.grid.specs.declared.units.CoordinateFault.{CoordinateFault}
use Rattle.grid.specs.declared.units.CoordinateFault.TheVariants.{NotFinite, OffGrid}
use Rattle.grid.specs.Doubles.{IsFinite, in_leasts}

-- The power of two that the unit is, in leasts.
abbrev pub scale_of : Grid → ℕ
scale_of grid = unsigned_abs (grid.exponent +ℤ pos 1074)

-- The unit, in leasts.
abbrev pub unit_of : Grid → ℕ
unit_of grid = 2 ^ scale_of grid

-- The number of units from 0 to a grid's origin, on an axis. A coordinate is at most 2 ^ 53 units then.
abbrev pub IsOrigin : ℤ → Type 0
IsOrigin units = unsigned_abs units ≤ 2 ^ 53 - 2 ^ 31

-- All points of the grid are doubles, and none of them is subnormal or infinite: the unit is from 2 ^ -1022 to 2 ^ 970, and
-- a coordinate is at most 2 ^ 53 units.
pub record IsGrid (grid : Grid) : Type 0 where
  pub from : negsuc 1021 ≤ℤ grid.exponent
  pub upto : grid.exponent ≤ℤ pos 970
  pub x : IsOrigin grid.x
  pub y : IsOrigin grid.y

-- No whole number of units is nearer to a number of leasts. Of two that are as near it is the even one.
pub record IsNearest (unit : ℕ) (leasts units : ℤ) : Type 0 where
  pub near : 2 * unsigned_abs (leasts -ℤ (units *ℤ pos unit)) ≤ unit
  pub even : 2 * unsigned_abs (leasts -ℤ (units *ℤ pos unit)) ≡ unit → unsigned_abs units % 2 ≡ 0

-- Both coordinates are finite.
pub record IsFinitePosition (position : Position) : Type 0 where
  pub x : IsFinite position.x
  pub y : IsFinite position.y

-- The point of the grid that is nearest to a position, on each axis.
pub record IsNearestPoint (grid : Grid) (position : Position) (point : Point) : Type 0 where
  pub x : IsNearest (unit_of grid) (in_leasts position.x) (point.x +ℤ grid.x)
  pub y : IsNearest (unit_of grid) (in_leasts position.y) (point.y +ℤ grid.y)

-- The point that a position is told by: both coordinates are finite, and it is nearest.
pub record IsTold (grid : Grid) (position : Position) (point : Point) : Type 0 where
  pub finite : IsFinitePosition position
  pub nearest : IsNearestPoint grid position point

-- The position that a point of the grid is.
pub record IsPositionOf (grid : Grid) (point : Point) (position : Position) : Type 0 where
  pub x : in_leasts position.x ≡ (point.x +ℤ grid.x) *ℤ pos (unit_of grid)
  pub y : in_leasts position.y ≡ (point.y +ℤ grid.y) *ℤ pos (unit_of grid)

-- Coordinates of 32 bits.
pub record IsPoint (point : Point) : Type 0 where
  pub x : FitsSigned w32 point.x
  pub y : FitsSigned w32 point.y

-- What is wrong with a position: a coordinate isn't finite; or both are, and the nearest point has no 32 bits.
abbrev pub IsFaultOf : Grid → Position → CoordinateFault → Type 0
IsFaultOf grid position NotFinite = IsFinitePosition position → ⊥
IsFaultOf grid position OffGrid =
    IsFinitePosition position × ((point : Point) → IsPoint point → IsNearestPoint grid position point → ⊥)

-- The position that is written for a point: it is the point's, finite, and +0 where a coordinate is 0.
pub record IsWritten (grid : Grid) (point : Point) (position : Position) : Type 0 where
  pub exact : IsPositionOf grid point position
  pub finite : IsFinitePosition position
  pub zero_x : point.x +ℤ grid.x ≡ pos 0 → position.x ≡ 0
  pub zero_y : point.y +ℤ grid.y ≡ pos 0 → position.y ≡ 0

-- The position at a place.
abbrev pub position_at : List Position → ℕ → Position
position_at positions k = slice_index_or positions k (record { x = 0; y = 0 })

-- The point at a place.
abbrev pub point_at : List Point → ℕ → Point
point_at points k = slice_index_or points k (record { x = pos 0; y = pos 0 })

-- The point at a place is told by the position there.
abbrev pub IsToldAt : Grid → List Position → List Point → ℕ → Type 0
IsToldAt grid positions points k = IsTold grid (position_at positions k) (point_at points k)

-- The position at a place is written for the point there.
abbrev pub IsWrittenAt : Grid → List Point → List Position → ℕ → Type 0
IsWrittenAt grid points positions k = IsWritten grid (point_at points k) (position_at positions k)

-- What is wrong with the position at a place.
pub record IsFaultAt (grid : Grid) (positions : List Position) (k : ℕ) (fault : CoordinateFault) : Type 0 where
  pub within : k < length positions
  pub is : IsFaultOf grid (position_at positions k) fault
