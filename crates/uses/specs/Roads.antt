-- Pieces of roads, and which of them lie inside of rings.
use Rattle.std.specs.Prelude.{◌≡◌, ℕ, ◌+ℤ◌, Bool, false, cond, List, [], ◌∷◌, Option, Some, None, map, slice_get}
use Rattle.std.specs.Int.Signed.{lt_z}
use Rattle.std.specs.List.{AllZip}
use Rattle.plane.specs.declared.edge.Edge.{Edge}
use Rattle.plane.specs.declared.point.Point.{Point}
use Rattle.plane.specs.Locate.Answers.{IsPlaceBelow}
use Rattle.overlay.specs.declared.fill.rules.FillRule.TheVariants.{NonZero}
use Rattle.overlay.specs.declared.fill.rules.Operation.TheVariants.{Union}
use Rattle.overlay.specs.Boundary.{AreBroken}
use Rattle.overlay.specs.Fill.Filled.{IsFilled}

-- The edge at twice its place.
abbrev pub double : Edge → Edge
double edge = record { x0 = edge.x0 +ℤ edge.x0; y0 = edge.y0 +ℤ edge.y0; x1 = edge.x1 +ℤ edge.x1; y1 = edge.y1 +ℤ edge.y1 }

-- The middle of the edge, at twice its place.
abbrev pub twice_middle : Edge → Point
twice_middle edge = record { x = edge.x0 +ℤ edge.x1; y = edge.y0 +ℤ edge.y1 }

abbrev pub is_rightwards : Option Edge → Bool
is_rightwards None = false
is_rightwards (Some edge) = lt_z edge.x0 edge.x1

-- An edge is at the place, and goes rightwards.
abbrev pub goes_rightwards : List Edge → Option ℕ → Bool
goes_rightwards edges None = false
goes_rightwards edges (Some i) = is_rightwards (slice_get edges i)

-- The pieces whose place has an edge that goes rightwards.
abbrev pub kept : List Edge → List Edge → List (Option ℕ) → List Edge
kept bounds [] places = []
kept bounds (piece ∷ pieces) [] = []
kept bounds (piece ∷ pieces) (place ∷ places) = cond (goes_rightwards bounds place) (piece ∷ kept bounds pieces places) (kept bounds pieces places)

-- The pieces of roads that lie inside of rings: those of all are broken together, those of the rings say what is inside, and of
-- those of the roads those are kept whose middle has an edge straight below that bounds the inside and goes rightwards.
pub record AreClipped (roads rings inside : List Edge) : Type 0 where
  pub pieces : List Edge
  pub ring_pieces : List Edge
  pub broken : AreBroken roads rings pieces ring_pieces
  pub bounds : List Edge
  pub filled : IsFilled NonZero Union ring_pieces [] bounds
  pub places : List (Option ℕ)
  pub below : AllZip (IsPlaceBelow (map double bounds)) (map twice_middle pieces) places
  pub is : inside ≡ kept bounds pieces places
