-- The Minkowski sum of a region with a shape: the points that some point of the one and some point of the other add up to. And what
-- is left of a region where the shape is taken along outside.
use Rattle.std.specs.Prelude.{◌≡◌, ◌≢◌, ◌*◌, ℤ, pos, ◌+ℤ◌, ◌*ℤ◌, List}
use Rattle.plane.specs.declared.edge.Edge.{Edge}
use Rattle.plane.specs.declared.point.Point.{Point}
use Rattle.plane.specs.Meet.Edges.{RationalPoint}
use Rattle.noding.specs.Windings.{winding}
use Rattle.offset.specs.Shape.{IsIn}

-- The point is the sum of two: of one of the region, and of one of the shape.
pub record IsOfSumWith (region : RationalPoint → Type 0) (corners : List Point) (point : RationalPoint) : Type 0 where
  pub from : RationalPoint
  pub by : RationalPoint
  pub inside : region from
  pub of_shape : IsIn corners by
  pub x : (pos (from.n * by.n) *ℤ point.x) ≡ (pos point.n *ℤ ((from.x *ℤ pos by.n) +ℤ (by.x *ℤ pos from.n)))
  pub y : (pos (from.n * by.n) *ℤ point.y) ≡ (pos point.n *ℤ ((from.y *ℤ pos by.n) +ℤ (by.y *ℤ pos from.n)))

-- The region is what the edges don't wind around just so often.
abbrev pub IsOfSumBeyond : ℤ → List Edge → List Point → RationalPoint → Type 0
IsOfSumBeyond outer edges corners point = IsOfSumWith (λ from. winding edges from ≢ outer) corners point

-- It is what the edges wind around.
abbrev pub IsOfSum : List Edge → List Point → RationalPoint → Type 0
IsOfSum edges corners point = IsOfSumBeyond (pos 0) edges corners point

-- A point is moved to another one by a third one.
pub record IsMovedBy (by point to : RationalPoint) : Type 0 where
  pub x : (pos (point.n * by.n) *ℤ to.x) ≡ (pos to.n *ℤ ((point.x *ℤ pos by.n) +ℤ (by.x *ℤ pos point.n)))
  pub y : (pos (point.n * by.n) *ℤ to.y) ≡ (pos to.n *ℤ ((point.y *ℤ pos by.n) +ℤ (by.y *ℤ pos point.n)))

-- The edges wind around the point, moved by any point of the shape: so the shape, moved to the point, lies inside.
abbrev pub IsOfErosion : List Edge → List Point → RationalPoint → Type 0
IsOfErosion edges corners point = (by to : RationalPoint) → IsIn corners by → IsMovedBy by point to → winding edges to ≢ pos 0
