-- Grids that fit positions: the finest whose points are doubles, and on which the positions have points.
use Rattle.std.specs.Prelude.{◌≡◌, ℕ, ℤ, List, length, ◌-◌, ◌/◌, ◌^◌, ◌<◌, ◌≤◌, ◌+ℤ◌, ◌-ℤ◌, ◌≤ℤ◌, ◌⊎◌, pos, negsuc, neg_ℤ}
use Rattle.std.specs.Int.{int_max, int_min}
use Rattle.plane.specs.declared.point.Point.{Point}
use Rattle.grid.specs.declared.position.Position.{Position}
use Rattle.grid.specs.declared.units.Grid.{Grid}
use Rattle.grid.specs.declared.fit.FitFault.{FitFault}
use Rattle.grid.specs.declared.fit.FitFault.TheVariants.{NotFinite, TooFar}
use Rattle.grid.specs.Doubles.{exponent_field, in_leasts}
use Rattle.grid.specs.Grid.{IsFinitePosition, IsNearest, IsNearestPoint, IsPoint, position_at, scale_of}

-- The power of two, in leasts, that a double's last bit stands for.
abbrev pub last_place : ℕ → ℕ
last_place bits = exponent_field bits - 1

-- A coordinate of one of the positions that is in order before each of the first so many.
pub record IsFirst (InOrder : ℤ → ℤ → Type 0) (axis : Position → ℕ) (positions : List Position) (count bits : ℕ) : Type 0 where
  pub of : (k : ℕ) × (k < length positions) × (axis (position_at positions k) ≡ bits)
  pub first : (k : ℕ) → k < count → InOrder (in_leasts bits) (in_leasts (axis (position_at positions k)))

abbrev pub AtMost : ℤ → ℤ → Type 0
AtMost a b = a ≤ℤ b

abbrev pub AtLeast : ℤ → ℤ → Type 0
AtLeast a b = b ≤ℤ a

-- The one of two doubles that is in order before both.
pub record IsOfTwo (InOrder : ℤ → ℤ → Type 0) (one other bits : ℕ) : Type 0 where
  pub of : (bits ≡ one) ⊎ (bits ≡ other)
  pub first : InOrder (in_leasts bits) (in_leasts one)
  pub second : InOrder (in_leasts bits) (in_leasts other)

-- The least and the greatest coordinates of the first so many positions.
pub record AreCornersBelow (positions : List Position) (count : ℕ) (low high : Position) : Type 0 where
  pub low_x : IsFirst AtMost (λ p. p.x) positions count low.x
  pub low_y : IsFirst AtMost (λ p. p.y) positions count low.y
  pub high_x : IsFirst AtLeast (λ p. p.x) positions count high.x
  pub high_y : IsFirst AtLeast (λ p. p.y) positions count high.y

-- The same of all positions.
abbrev pub AreCorners : List Position → Position → Position → Type 0
AreCorners positions low high = AreCornersBelow positions (length positions) low high

-- All positions are finite.
abbrev pub AreFinite : List Position → Type 0
AreFinite positions = (k : ℕ) → k < length positions → IsFinitePosition (position_at positions k)

-- The first place at which a position isn't finite.
pub record IsFirstInfinite (positions : List Position) (place : ℕ) : Type 0 where
  pub within : place < length positions
  pub infinite : IsFinitePosition (position_at positions place) → ⊥
  pub before : (k : ℕ) → k < place → IsFinitePosition (position_at positions k)

-- On an axis, the numbers of units that are nearest to the least and to the greatest coordinate are at most 2 ^ 31 apart.
abbrev pub IsNarrow : ℕ → ℕ → ℕ → Type 0
IsNarrow scale low high =
    (a b : ℤ) → IsNearest (2 ^ scale) (in_leasts low) a → IsNearest (2 ^ scale) (in_leasts high) b → (b -ℤ a) ≤ℤ pos (2 ^ 31)

-- A unit of 2 ^ scale leasts: it isn't subnormal, doubles at the corners lie no further apart, and both axes are narrow.
pub record IsScale (low high : Position) (scale : ℕ) : Type 0 where
  pub normal : 52 ≤ scale
  pub low_x : last_place low.x ≤ scale
  pub low_y : last_place low.y ≤ scale
  pub high_x : last_place high.x ≤ scale
  pub high_y : last_place high.y ≤ scale
  pub x : IsNarrow scale low.x high.x
  pub y : IsNarrow scale low.y high.y

-- Half of a number, rounded downwards.
abbrev pub half : ℤ → ℤ
half (pos n) = pos (n / 2)
half (negsuc n) = negsuc (n / 2)

-- The next number that may be an origin.
abbrev pub limited : ℤ → ℤ
limited units = int_max (neg_ℤ (pos (2 ^ 53 - 2 ^ 31))) (int_min (pos (2 ^ 53 - 2 ^ 31)) units)

-- The origin is the middle of what is nearest to the least and to the greatest coordinate.
abbrev pub IsMiddle : ℕ → ℕ → ℕ → ℤ → Type 0
IsMiddle scale low high origin =
    (a b : ℤ) → IsNearest (2 ^ scale) (in_leasts low) a → IsNearest (2 ^ scale) (in_leasts high) b → origin ≡ limited (half (a +ℤ b))

-- A grid with a unit of 2 ^ scale leasts, on which both axes are narrow.
pub record IsGridOfScale (low high : Position) (scale : ℕ) (grid : Grid) : Type 0 where
  pub unit : scale_of grid ≡ scale
  pub narrow_x : IsNarrow scale low.x high.x
  pub narrow_y : IsNarrow scale low.y high.y
  pub x : IsMiddle scale low.x high.x grid.x
  pub y : IsMiddle scale low.y high.y grid.y

-- The grid of the finest unit.
pub record IsFinest (low high : Position) (grid : Grid) : Type 0 where
  pub scale : IsScale low high (scale_of grid)
  pub finest : (scale : ℕ) → scale < scale_of grid → IsScale low high scale → ⊥
  pub x : IsMiddle (scale_of grid) low.x high.x grid.x
  pub y : IsMiddle (scale_of grid) low.y high.y grid.y

-- All coordinates are 0.
pub record AreZero (low high : Position) : Type 0 where
  pub low_x : in_leasts low.x ≡ pos 0
  pub low_y : in_leasts low.y ≡ pos 0
  pub high_x : in_leasts high.x ≡ pos 0
  pub high_y : in_leasts high.y ≡ pos 0

-- The unit is 1, and the origin 0.
abbrev pub whole_grid : Grid
whole_grid = record { x = pos 0; y = pos 0; exponent = pos 0 }

-- The grid of positions with these corners.
pub record IsFitBetween (low high : Position) (grid : Grid) : Type 0 where
  pub zero : AreZero low high → grid ≡ whole_grid
  pub finest : (AreZero low high → ⊥) → IsFinest low high grid

-- The grid of some positions.
pub record IsFit (positions : List Position) (grid : Grid) : Type 0 where
  pub none : length positions ≡ 0 → grid ≡ whole_grid
  pub some : 0 < length positions → (low : Position) × (high : Position) × AreCorners positions low high × IsFitBetween low high grid

-- A position between the corners, on both axes.
pub record IsBetween (low high position : Position) : Type 0 where
  pub low_x : in_leasts low.x ≤ℤ in_leasts position.x
  pub low_y : in_leasts low.y ≤ℤ in_leasts position.y
  pub high_x : in_leasts position.x ≤ℤ in_leasts high.x
  pub high_y : in_leasts position.y ≤ℤ in_leasts high.y

-- The nearest point to a position has 32 bits.
abbrev pub HasPoint : Grid → Position → Type 0
HasPoint grid position = (point : Point) × IsPoint point × IsNearestPoint grid position point

-- No unit is a scale.
pub record IsTooFar (positions : List Position) : Type 0 where
  pub low : Position
  pub high : Position
  pub corners : AreCorners positions low high
  pub none : (scale : ℕ) → scale ≤ 2044 → IsScale low high scale → ⊥

-- Why no grid fits: a position isn't finite, or the coarsest unit is too fine.
abbrev pub IsFitFault : List Position → FitFault → Type 0
IsFitFault positions (NotFinite place) = IsFirstInfinite positions place
IsFitFault positions TooFar = IsTooFar positions
