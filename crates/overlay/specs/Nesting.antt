-- To which polygon a hole belongs, how often each polygon winds by itself, and how its rings share points.
use Rattle.std.specs.List.{flat_map}
use Rattle.std.specs.Prelude.{◌≡◌, ◌⊎◌, ℤ, pos, true, false, List, All, Contains, IsPermutation, Some, None}
use Rattle.plane.specs.declared.edge.Edge.{Edge}
use Rattle.plane.specs.declared.point.Point.{Point}
use Rattle.plane.specs.Meet.Edges.{RationalPoint}
use Rattle.plane.specs.SweepLine.Heights.{rightwards}
use Rattle.noding.specs.Windings.{winding}
use Rattle.overlay.specs.Contours.Rings.{ring_edges}
use Rattle.overlay.specs.Fill.Counts.{is_lower_on, is_over}
use Rattle.overlay.specs.OnePiece.{ShareAlongNoCircle}
use Rattle.overlay.specs.Polygons.{IsPolygon, first_sloped, is_counterclockwise, rings_of}

-- Over the stretch from x to x + 1 the one is just below the other: both are over it, the one is lower, and none of the edges is
-- between.
pub record IsNextBelow (edges : List Edge) (x : ℤ) (one other : Edge) : Type 0 where
  pub among : Contains edges one
  pub among_too : Contains edges other
  pub over : is_over x (rightwards one) ≡ true
  pub over_too : is_over x (rightwards other) ≡ true
  pub less : is_lower_on x (rightwards one) (rightwards other) ≡ true
  pub none : (between : Edge) → Contains edges between → is_over x (rightwards between) ≡ true → is_lower_on x (rightwards one) (rightwards between) ≡ true → ¬ (is_lower_on x (rightwards between) (rightwards other) ≡ true)

-- What is just below the edge with which the hole begins is of the polygon.
abbrev pub IsHoleIn : List Edge → List (List Point) → List Point → Type 0
IsHoleIn edges polygon hole =
    (first below : Edge) → first_sloped None (ring_edges hole) ≡ Some first → IsNextBelow edges (rightwards first).x0 below first
    → Contains (flat_map ring_edges polygon) below

-- Each hole is of the polygon that is just below where the hole begins.
abbrev pub AreNested : List (List (List Point)) → Type 0
AreNested polygons =
    All (λ polygon. All (λ ring. is_counterclockwise ring ≡ false → IsHoleIn (flat_map ring_edges (rings_of polygons)) polygon ring) polygon) polygons

-- Its own rings wind once around a point or not at all.
abbrev pub PolygonWindsOnce : List (List Point) → Type 0
PolygonWindsOnce polygon = (point : RationalPoint) → (winding (flat_map ring_edges polygon) point ≡ pos 0) ⊎ (winding (flat_map ring_edges polygon) point ≡ pos 1)

-- Whatever polygons are made of the rings, each winds once around a point or not at all, and its rings share points along no
-- circle, where each hole is of the polygon just below it.
abbrev pub NestOnce : List (List Point) → Type 0
NestOnce rings =
    (polygons : List (List (List Point))) → IsPermutation (rings_of polygons) rings → All IsPolygon polygons → AreNested polygons
    → All PolygonWindsOnce polygons × All ShareAlongNoCircle polygons
