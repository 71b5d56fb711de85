-- The boxes of those of several shapes that have points.
use Rattle.std.specs.Prelude.{◌≡◌, ◌≢◌, ℕ, ◌<◌, List, [], All, AllPairs, Any, get_or, length, map}
use Rattle.std.specs.Int.{int_max, int_min}
use Rattle.plane.specs.declared.pairs.items.Bounds.{Bounds}
use Rattle.plane.specs.declared.point.Point.{Point}
use Rattle.layers.specs.Boxes.{IsBoxOf}
use Rattle.layers.specs.Shapes.{shape_points}
use Rattle.layers.specs.declared.shape_box.ShapeBox.{ShapeBox}

-- It is the box of the shape at its place.
pub record IsBoxAmong (shapes : List (List (List Point))) (box : ShapeBox) : Type 0 where
  pub place : box.place < length shapes
  pub is : IsBoxOf (shape_points (get_or shapes box.place [])) box.bounds

-- The boxes of those of the shapes that have points, once each.
pub record AreBoxes (shapes : List (List (List Point))) (boxes : List ShapeBox) : Type 0 where
  pub each : All (IsBoxAmong shapes) boxes
  pub once : AllPairs (λ box later. box.place < later.place) boxes
  pub all : (place : ℕ) → place < length shapes → shape_points (get_or shapes place []) ≢ [] → Any (λ box. box.place ≡ place) boxes

-- The place of the shape of the box at this index.
abbrev pub place_in : List ShapeBox → ℕ → ℕ
place_in boxes index = get_or (map (λ box. box.place) boxes) index 0

-- The box of a single point.
abbrev pub box_at : Point → Bounds
box_at point = record { left = point.x; right = point.x; low = point.y; high = point.y }

-- The least box that has this one and the point.
abbrev pub grown : Bounds → Point → Bounds
grown bounds point = record {
  left = int_min bounds.left point.x;
  right = int_max bounds.right point.x;
  low = int_min bounds.low point.y;
  high = int_max bounds.high point.y;
}
