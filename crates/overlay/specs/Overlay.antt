-- What an overlay of two sets of edges is: polygons around the points of the result.
use Rattle.std.specs.Prelude.{◌≡◌, ◌⊎◌, ◌++◌, ◌≤◌, ◌<ℤ◌, List, All, length, pos, map}
use Rattle.std.specs.List.{flat_map}
use Rattle.plane.specs.declared.edge.Edge.{Edge}
use Rattle.plane.specs.declared.point.Point.{Point}
use Rattle.plane.specs.Meet.Edges.{RationalPoint}
use Rattle.overlay.specs.declared.fill.rules.FillRule.{FillRule}
use Rattle.overlay.specs.declared.fill.rules.Operation.{Operation}
use Rattle.overlay.specs.Areas.{twice_area_of}
use Rattle.overlay.specs.Boundary.{IsBoundary, WindsAsBroken, result_at}
use Rattle.overlay.specs.Contours.Outlines.{outline}
use Rattle.overlay.specs.Contours.Rings.{IsRing, real_edges, ring_edges}
use Rattle.noding.specs.Chains.{IsHot}
use Rattle.noding.specs.Local.{IsExactAt}
use Rattle.noding.specs.Windings.{winding}
use Rattle.overlay.specs.Nesting.{PolygonWindsOnce}
use Rattle.overlay.specs.OnePiece.{TouchAlongNoCircle}
use Rattle.overlay.specs.Polygons.{HasSignedArea, IsPolygon, WindsOnce, rings_of}

-- The edges of all rings of polygons.
abbrev pub polygon_edges : List (List (List Point)) → List Edge
polygon_edges polygons = flat_map ring_edges (rings_of polygons)

-- Polygons around the points of the result. Their rings visit no point twice, and have three points at least; outer ones run
-- counterclockwise, with an area above 0, and holes clockwise, with one below 0. Each ring by itself winds once around a point or
-- not at all, and so do the rings of each polygon together: so its holes lie in its outer ring, side by side, and its area is above
-- 0. The rings of a polygon touch along no circle: so the inside of each is one piece. At every point all rings wind as the result
-- of the pieces that the edges of subject and clip are broken into, those from a point to itself left out. So they wind once around
-- a point or not at all, and as the result of subject and clip if each edge given isn't moved among all, or runs along an axis, or
-- isn't near the point. Where no two edges cross at a point with fractions none is moved. Their areas add up to that of the region,
-- which any closed edges tell that wind so (`same-area`). Each point of the polygons is an end of an edge given, or what two of
-- them cross at, rounded.
pub record IsOverlay (rule : FillRule) (operation : Operation) (subject clip : List Edge) (polygons : List (List (List Point))) : Type 0 where
  pub each : All IsRing (rings_of polygons)
  pub three_points : All (λ ring. 3 ≤ length ring) (rings_of polygons)
  pub directed : All IsPolygon polygons
  pub areas : All HasSignedArea (rings_of polygons)
  pub winds : All WindsOnce (rings_of polygons)
  pub each_once : All PolygonWindsOnce polygons
  pub each_area : All (λ polygon. pos 0 <ℤ twice_area_of polygon) polygons
  pub one_piece : All TouchAlongNoCircle polygons
  pub everywhere : WindsAsBroken rule operation (real_edges subject) (real_edges clip) (polygon_edges polygons)
  pub once : (point : RationalPoint) → (winding (polygon_edges polygons) point ≡ pos 0) ⊎ (winding (polygon_edges polygons) point ≡ pos 1)
  pub exact : (point : RationalPoint) → All (IsExactAt (subject ++ clip) point) (subject ++ clip) → winding (polygon_edges polygons) point ≡ result_at rule operation subject clip point
  pub corners : All (λ ring. All (λ p. IsHot (subject ++ clip) p.x p.y) ring) (rings_of polygons)
  -- the polygons with all their points, of which those on straight lines are left out: their edges meet only at common ends
  pub whole : List (List (List Point))
  pub bounds : IsBoundary rule operation (real_edges subject) (real_edges clip) (rings_of whole)
  pub outlined : polygons ≡ map (λ polygon. map outline polygon) whole
