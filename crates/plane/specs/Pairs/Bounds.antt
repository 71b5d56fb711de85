-- Boxes along the axes, when two of them meet, and items that meet only where their boxes do.
use Rattle.std.specs.Prelude.{◌≡◌, ◌≤ℤ◌, ℕ, ◌<◌, ◌≤◌, List, Some, slice_get}
use Rattle.plane.specs.declared.pairs.items.Bounds.{Bounds}

-- The left side isn't beyond the right one, nor the lower one above the upper one.
pub record IsBox (bounds : Bounds) : Type 0 where
  pub wide : bounds.left ≤ℤ bounds.right
  pub tall : bounds.low ≤ℤ bounds.high

-- The box is a single point.
pub record IsPoint (bounds : Bounds) : Type 0 where
  pub upright : bounds.left ≡ bounds.right
  pub level : bounds.low ≡ bounds.high

-- Two boxes, whose sides are of them, share a point.
pub record BoundsMeet (one other : Bounds) : Type 0 where
  pub left : one.left ≤ℤ other.right
  pub right : other.left ≤ℤ one.right
  pub low : one.low ≤ℤ other.high
  pub high : other.low ≤ℤ one.high

-- Items of one kind meet whichever is named first, and only where their boxes do.
pub record MeetInBoxes {X : Type 0} (bounds : X → Bounds) (Meeting : X → X → Type 0) : Type 0 where
  pub proper : (item : X) → IsBox (bounds item)
  pub exchanged : (one other : X) → Meeting one other → Meeting other one
  pub near : (one other : X) → Meeting one other → BoundsMeet (bounds one) (bounds other)

-- Items of one kind meet those of another only where their boxes do.
pub record MeetInBoxesAcross {X Y : Type 0} (bounds : X → Bounds) (other_bounds : Y → Bounds) (Meeting : X → Y → Type 0) : Type 0 where
  pub proper : (one : X) → IsBox (bounds one)
  pub other_proper : (other : Y) → IsBox (other_bounds other)
  pub near : (one : X) (other : Y) → Meeting one other → BoundsMeet (bounds one) (other_bounds other)

-- The one box lies within the other.
pub record IsWithinBox (box around : Bounds) : Type 0 where
  pub left : around.left ≤ℤ box.left
  pub right : box.right ≤ℤ around.right
  pub low : around.low ≤ℤ box.low
  pub high : box.high ≤ℤ around.high

-- The place is one from the first on, and before the second.
abbrev pub IsFromUpto : ℕ → ℕ → ℕ → Type 0
IsFromUpto from to place = (from ≤ place) × (place < to)

-- Each box in a place from the one on, and before the other, lies within this one.
abbrev pub IsAroundThese : ℕ → ℕ → List Bounds → Bounds → Type 0
IsAroundThese from to boxes around = (place : ℕ) (box : Bounds) → slice_get boxes place ≡ Some box → from ≤ place → place < to → IsWithinBox box around
