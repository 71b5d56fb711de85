-- Polygons that lie in a window.
use Rattle.std.specs.Prelude.{◌≡◌, ◌⊎◌, ◌≤◌, pos, Bool, ◌||◌, List, All, Contains, length, filter, ℤ}
use Rattle.std.specs.List.{list_any}
use Rattle.std.specs.Ordering.{int_eq}
use Rattle.plane.specs.declared.edge.Edge.{Edge}
use Rattle.plane.specs.declared.point.Point.{Point}
use Rattle.plane.specs.Meet.Edges.{RationalPoint}
use Rattle.noding.specs.Local.{CrossBeside}
use Rattle.noding.specs.Windings.{winding}
use Rattle.overlay.specs.Contours.Rings.{IsRing}
use Rattle.overlay.specs.Overlay.{polygon_edges}
use Rattle.overlay.specs.Polygons.{HasSignedArea, IsPolygon, rings_of}
use Rattle.tiles.specs.Window.{InWindow}
use Rattle.tiles.specs.declared.window.Window.{Window}

-- The point stands on the line along one side of the window.
abbrev pub is_at_border : Window → Point → Bool
is_at_border window point = int_eq point.x window.left || int_eq point.x window.right || int_eq point.y window.low || int_eq point.y window.high

-- Some point of the polygon does.
abbrev pub comes_to_border : Window → List (List Point) → Bool
comes_to_border window polygon = list_any (list_any (is_at_border window)) polygon

-- The polygons of which some point does.
abbrev pub at_border : Window → List (List (List Point)) → List (List (List Point))
at_border window polygons = filter (comes_to_border window) polygons

-- Polygons that wind around no point outside of the window, and around none twice. Their rings visit no point twice, and have three
-- points at least; outer ones run counterclockwise, with an area above 0, and holes clockwise, with one below 0.
pub record IsPart (window : Window) (polygons : List (List (List Point))) : Type 0 where
  pub each : All IsRing (rings_of polygons)
  pub three_points : All (λ ring. 3 ≤ length ring) (rings_of polygons)
  pub directed : All IsPolygon polygons
  pub areas : All HasSignedArea (rings_of polygons)
  pub once : (point : RationalPoint) → (winding (polygon_edges polygons) point ≡ pos 0) ⊎ (winding (polygon_edges polygons) point ≡ pos 1)
  pub outside : (point : RationalPoint) → ¬ (InWindow window point) → winding (polygon_edges polygons) point ≡ pos 0
  -- no two edges of polygons that come to the border cross at a point with fractions
  pub uncrossed : (one other : Edge) (x y : ℤ) → Contains (polygon_edges (at_border window polygons)) one → Contains (polygon_edges (at_border window polygons)) other → ¬ (CrossBeside one other x y)
