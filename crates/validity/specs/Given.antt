-- Polygons as they are given, and their rings as they are looked at.
use Rattle.std.specs.Prelude.{◌≡◌, ℕ, Bool, true, false, cond, int_lt, pos, List, [], ◌∷◌, get_or, length, map, reverse}
use Rattle.plane.specs.declared.point.Point.{Point}
use Rattle.plane.specs.Ends.{start_of}
use Rattle.overlay.specs.Areas.{twice_area}
use Rattle.overlay.specs.Contours.Rings.{real_edges, ring_edges}
use Rattle.overlay.specs.Rings.{HasEnds, rings_of}
use Rattle.overlay.specs.declared.rings.Rings.{Rings}
use Rattle.tiles.specs.Join.{StopAll, lists_of}
use Rattle.validity.specs.declared.given.PolygonSet.{PolygonSet}

-- All rings.
abbrev pub rings_at : Rings → List (List Point)
rings_at rings = rings_of rings.points.now 0 rings.ends.now

-- All polygons.
abbrev pub polygons_of : PolygonSet → List (List (List Point))
polygons_of set = lists_of (rings_at set.rings) 0 set.polygon_ends.now

-- Rings and polygons stop where they can, and each ring is of a polygon.
pub record HasPolygons (set : PolygonSet) : Type 0 where
  pub rings : HasEnds set.rings
  pub polygons : StopAll set.polygon_ends.now (length set.rings.ends.now)

-- The polygon at this place has one ring alone.
abbrev pub HasOneRing : PolygonSet → ℕ → Type 0
HasOneRing set polygon = length (get_or (polygons_of set) polygon []) ≡ 1

-- There is one polygon alone, and it has one ring alone.
abbrev pub IsOneRing : PolygonSet → Type 0
IsOneRing set = (length (polygons_of set) ≡ 1) × HasOneRing set 0

-- The points at which the edges of a ring start, but for edges from a point to itself: so none of these is the next one again, nor
-- the last one the first one.
abbrev pub corners_of : List Point → List Point
corners_of ring = map start_of (real_edges (ring_edges ring))

-- The corners of a ring, counterclockwise or clockwise by its area.
abbrev pub turned : Bool → List Point → List Point
turned true ring = cond (int_lt (twice_area (corners_of ring)) (pos 0)) (reverse (corners_of ring)) (corners_of ring)
turned false ring = cond (int_lt (pos 0) (twice_area (corners_of ring))) (reverse (corners_of ring)) (corners_of ring)

-- A polygon whose outer ring runs counterclockwise, and its holes clockwise, whichever way they were given.
abbrev pub directed : List (List Point) → List (List Point)
directed [] = []
directed (outer ∷ holes) = turned true outer ∷ map (turned false) holes
