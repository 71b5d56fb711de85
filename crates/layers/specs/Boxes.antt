-- The boxes of shapes, and when two of them share a point.
use Rattle.std.specs.Prelude.{◌≡◌, ◌≤ℤ◌, List, All, Any}
use Rattle.plane.specs.declared.pairs.items.Bounds.{Bounds}
use Rattle.plane.specs.declared.point.Point.{Point}
use Rattle.plane.specs.Pairs.Bounds.{BoundsMeet}
use Rattle.layers.specs.Shapes.{shape_points}

-- The point is none that lies beyond a side.
pub record IsInBounds (bounds : Bounds) (point : Point) : Type 0 where
  pub left : bounds.left ≤ℤ point.x
  pub right : point.x ≤ℤ bounds.right
  pub low : bounds.low ≤ℤ point.y
  pub high : point.y ≤ℤ bounds.high

-- The box of these points, of which there is one at least: no point lies beyond a side, and each side has one.
pub record IsBoxOf (points : List Point) (bounds : Bounds) : Type 0 where
  pub within : All (λ point. IsInBounds bounds point) points
  pub left : Any (λ point. point.x ≡ bounds.left) points
  pub right : Any (λ point. point.x ≡ bounds.right) points
  pub low : Any (λ point. point.y ≡ bounds.low) points
  pub high : Any (λ point. point.y ≡ bounds.high) points

-- The boxes of the points of two shapes share a point. A shape without points has no box.
pub record BoxesMeet (rings others : List (List Point)) : Type 0 where
  pub box : Bounds
  pub other_box : Bounds
  pub is : IsBoxOf (shape_points rings) box
  pub other_is : IsBoxOf (shape_points others) other_box
  pub meet : BoundsMeet box other_box
