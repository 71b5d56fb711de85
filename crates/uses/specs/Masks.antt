-- Rectangles and masks, and which points of the plane are free of masks.
use Rattle.std.specs.Prelude.{◌≡◌, Bool, ◌&&◌, not, List, [], ◌∷◌, ℤ, pos, ◌*ℤ◌, int_le, int_lt}
use Rattle.std.specs.Int.{int_max}
use Rattle.std.specs.List.{list_any}
use Rattle.plane.specs.declared.point.Point.{Point}
use Rattle.plane.specs.Meet.Edges.{RationalPoint}
use Rattle.noding.specs.Windings.{winding, count}
use Rattle.overlay.specs.Overlay.{polygon_edges}
use Rattle.uses.specs.declared.free_of_masks.Rectangle.{Rectangle}

-- The corners of a box, counterclockwise.
abbrev pub box : ℤ → ℤ → ℤ → ℤ → List Point
box left low right high =
    record { x = left; y = low } ∷ record { x = right; y = low } ∷ record { x = right; y = high } ∷ record { x = left; y = high } ∷ []

-- The corners of a rectangle, or of a line where it has no points. For a private contract.
abbrev pub corners : Rectangle → List Point
corners it = box it.left it.low (int_max it.left it.right) (int_max it.low it.high)

-- The point is of the rectangle: from the left side on and before the right one, and from the low side on and before the high one.
abbrev pub is_of : Rectangle → RationalPoint → Bool
is_of it point =
    (int_le (pos point.n *ℤ it.left) point.x && int_lt point.x (pos point.n *ℤ it.right))
    && (int_le (pos point.n *ℤ it.low) point.y && int_lt point.y (pos point.n *ℤ it.high))

-- The point is of some rectangle, and of no mask.
abbrev pub is_free : List Rectangle → List Rectangle → RationalPoint → Bool
is_free rectangles masks point = list_any (λ it. is_of it point) rectangles && not (list_any (λ it. is_of it point) masks)

-- Polygons wind once around each point of some rectangle and no mask, and not at all around any other.
abbrev pub AreFree : List Rectangle → List Rectangle → List (List (List Point)) → Type 0
AreFree rectangles masks polygons = (point : RationalPoint) → winding (polygon_edges polygons) point ≡ count (is_free rectangles masks point)
