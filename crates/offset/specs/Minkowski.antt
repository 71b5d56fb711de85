-- What a Minkowski sum of edges and a shape is, and what an erosion: polygons around the points of it.
use Rattle.std.specs.List.{flat_map}
use Rattle.std.specs.Prelude.{◌≡◌, ◌⊎◌, ◌≤◌, ◌<ℤ◌, [], ⊤, List, All, length, map, pos}
use Rattle.plane.specs.declared.edge.Edge.{Edge}
use Rattle.plane.specs.declared.point.Point.{Point}
use Rattle.plane.specs.Meet.Edges.{RationalPoint}
use Rattle.noding.specs.Local.{IsExactAt}
use Rattle.noding.specs.Windings.{winding}
use Rattle.overlay.specs.declared.fill.rules.FillRule.{FillRule}
use Rattle.overlay.specs.declared.fill.rules.FillRule.TheVariants.{Negative, NonZero}
use Rattle.overlay.specs.declared.fill.rules.Operation.TheVariants.{Union}
use Rattle.overlay.specs.Areas.{twice_area_of}
use Rattle.overlay.specs.Boundary.{IsBoundary, WindsAsBroken, result_at}
use Rattle.overlay.specs.Contours.Rings.{IsRing, real_edges, ring_edges}
use Rattle.overlay.specs.Nesting.{PolygonWindsOnce}
use Rattle.overlay.specs.OnePiece.{TouchAlongNoCircle}
use Rattle.overlay.specs.Overlay.{polygon_edges}
use Rattle.overlay.specs.Polygons.{HasSignedArea, IsPolygon, rings_of}
use Rattle.offset.specs.Cuts.{IsCurve}
use Rattle.offset.specs.Raw.{GoesThrough, IsIn32Bits, IsPointIn32Bits, backwards, raw_edges, raw_inside}
use Rattle.offset.specs.Shape.{opposite_shape}
use Rattle.offset.specs.Sum.{IsOfErosion, IsOfSum}
use Rattle.offset.specs.declared.fault.MinkowskiFault.{MinkowskiFault}
use Rattle.offset.specs.declared.fault.MinkowskiFault.TheVariants.{Lengths, Shape, Range, OutOfMemory}

-- Polygons around what is inside of closed edges, by the rule. Their rings visit no point twice, and have three points at least;
-- outer ones run counterclockwise, with an area above 0, and holes clockwise, with one below 0. The rings of each polygon together
-- wind once around a point or not at all, have an area above 0, and touch along no circle: so the inside of each is one piece. At
-- every point all polygons wind once where it is inside of the pieces that the edges are broken into, and else not at all: so as
-- with the edges, if each edge isn't moved among all, or runs along an axis, or isn't near the point.
pub record IsWound (rule : FillRule) (edges : List Edge) (polygons : List (List (List Point))) : Type 0 where
  pub each : All IsRing (rings_of polygons)
  pub three_points : All (λ ring. 3 ≤ length ring) (rings_of polygons)
  pub directed : All IsPolygon polygons
  pub areas : All HasSignedArea (rings_of polygons)
  pub each_once : All PolygonWindsOnce polygons
  pub each_area : All (λ polygon. pos 0 <ℤ twice_area_of polygon) polygons
  pub one_piece : All TouchAlongNoCircle polygons
  pub everywhere : WindsAsBroken rule Union edges [] (polygon_edges polygons)
  pub once : (point : RationalPoint) → (winding (polygon_edges polygons) point ≡ pos 0) ⊎ (winding (polygon_edges polygons) point ≡ pos 1)
  pub exact : (point : RationalPoint) → All (IsExactAt edges point) edges → winding (polygon_edges polygons) point ≡ result_at rule Union edges [] point

-- Polygons around the points of a region. Their rings visit no point twice, and have three points at least; outer ones run
-- counterclockwise, with an area above 0, and holes clockwise, with one below 0. The rings of each polygon together wind once
-- around a point or not at all, have an area above 0, and touch along no circle: so the inside of each is one piece. All polygons
-- wind once or not at all, too: once around each point of the region, and not at all around any other, if each edge of the raw
-- curve isn't moved among all of it, or runs along an axis, or isn't near the point, and none goes through it.
pub record IsAround (region : RationalPoint → Type 0) (raw : List Edge) (polygons : List (List (List Point))) : Type 0 where
  pub each : All IsRing (rings_of polygons)
  pub three_points : All (λ ring. 3 ≤ length ring) (rings_of polygons)
  pub directed : All IsPolygon polygons
  pub areas : All HasSignedArea (rings_of polygons)
  pub each_once : All PolygonWindsOnce polygons
  pub each_area : All (λ polygon. pos 0 <ℤ twice_area_of polygon) polygons
  pub one_piece : All TouchAlongNoCircle polygons
  pub once : (point : RationalPoint) → (winding (polygon_edges polygons) point ≡ pos 0) ⊎ (winding (polygon_edges polygons) point ≡ pos 1)
  pub exact : (point : RationalPoint) → All (λ edge. ¬ (GoesThrough edge point)) raw → All (IsExactAt raw point) raw
      → (region point × (winding (polygon_edges polygons) point ≡ pos 1))
      ⊎ ((¬ (region point)) × (winding (polygon_edges polygons) point ≡ pos 0))

-- The region is the sum of what the edges wind around and the shape.
abbrev pub IsMinkowski : List Point → List Edge → List Edge → List (List (List Point)) → Type 0
IsMinkowski corners edges raw polygons = IsAround (λ point. IsOfSum edges corners point) raw polygons

-- It is what the edges wind around from where the shape lies inside.
abbrev pub IsErosion : List Point → List Edge → List Edge → List (List (List Point)) → Type 0
IsErosion corners edges raw polygons = IsAround (λ point. IsOfErosion edges corners point) raw polygons

-- The polygons are what the inside of edges, by the rule, becomes when it grows by the shape.
pub record IsGrown (rule : FillRule) (edges : List Edge) (corners : List Point) (polygons : List (List (List Point))) : Type 0 where
  -- rings that bound the inside
  pub rings : List (List Point)
  pub bounds : IsBoundary rule Union (real_edges edges) [] rings
  -- they wind around the points of it, if each edge isn't moved among all, or runs along an axis, or isn't near the point
  pub inside : (point : RationalPoint) → All (IsExactAt edges point) edges → winding (flat_map ring_edges rings) point ≡ result_at rule Union edges [] point
  -- the raw curve of these rings, of which some safe corners may be cut
  pub raw : List Edge
  pub curve : IsCurve corners rings raw
  -- the polygons are around what it winds around, and that is the sum of the rings with the shape
  pub wound : IsWound NonZero raw polygons
  pub sum : IsMinkowski corners (flat_map ring_edges rings) raw polygons

-- The polygons are what the inside of edges, by the rule, becomes when the shape is taken along outside.
pub record IsShrunk (rule : FillRule) (edges : List Edge) (corners : List Point) (polygons : List (List (List Point))) : Type 0 where
  -- rings that bound the inside
  pub rings : List (List Point)
  pub bounds : IsBoundary rule Union (real_edges edges) [] rings
  -- they wind around the points of it, if each edge isn't moved among all, or runs along an axis, or isn't near the point
  pub inside : (point : RationalPoint) → All (IsExactAt edges point) edges → winding (flat_map ring_edges rings) point ≡ result_at rule Union edges [] point
  -- the raw curve within these rings, of which some safe corners may be cut
  pub raw : List Edge
  pub curve : IsCurve (opposite_shape corners) (map backwards rings) raw
  -- the polygons are around what it winds around below 0, and from there the shape lies inside
  pub wound : IsWound Negative raw polygons
  pub erosion : IsErosion corners (flat_map ring_edges rings) raw polygons

-- Why the raw curve wasn't made: a corner of it is no point of 32 bits, or memory was refused.
abbrev pub IsSumFault : FillRule → List Edge → List Point → MinkowskiFault → Type 0
IsSumFault rule edges corners Lengths = ⊥
IsSumFault rule edges corners Shape = ⊥
IsSumFault rule edges corners Range = (rings : List (List Point)) × IsBoundary rule Union (real_edges edges) [] rings × (¬ (All IsIn32Bits (raw_edges corners rings)))
IsSumFault rule edges corners OutOfMemory = ⊤

-- Why the raw curve within wasn't made: a corner of it, or of the shape turned by half a turn, is no point of 32 bits, or memory
-- was refused.
abbrev pub IsErosionFault : FillRule → List Edge → List Point → MinkowskiFault → Type 0
IsErosionFault rule edges corners Lengths = ⊥
IsErosionFault rule edges corners Shape = ⊥
IsErosionFault rule edges corners Range = (¬ (All IsPointIn32Bits (opposite_shape corners))) ⊎ ((rings : List (List Point)) × IsBoundary rule Union (real_edges edges) [] rings × (¬ (All IsIn32Bits (raw_inside corners rings))))
IsErosionFault rule edges corners OutOfMemory = ⊤
