-- What a ring becomes that is cropped to a window.
use Rattle.std.specs.Prelude.{◌≡◌, ◌≢◌, ◌⊎◌, ◌*◌, ◌≤◌, List, Contains, length}
use Rattle.plane.specs.declared.edge.Edge.{Edge}
use Rattle.plane.specs.declared.point.Point.{Point}
use Rattle.plane.specs.Ends.{start_of, end_of}
use Rattle.plane.specs.Meet.Edges.{RationalPoint}
use Rattle.noding.specs.Near.{IsNear}
use Rattle.noding.specs.Windings.{winding}
use Rattle.overlay.specs.Contours.Rings.{ring_edges}
use Rattle.tiles.specs.Window.{AreBeyond, InWindow, IsWithin, widened}
use Rattle.tiles.specs.declared.window.Window.{Window}

-- The ring does for the points of the window in the place of the other one.
pub record IsCropped (window : Window) (ring cropped : List Point) : Type 0 where
  -- it winds around each of them as the other one does
  pub winds : (point : RationalPoint) → InWindow window point → winding (ring_edges cropped) point ≡ winding (ring_edges ring) point
  -- and its edges that are near such a point are edges of the other one
  pub near : (edge : Edge) (point : RationalPoint) → Contains (ring_edges cropped) edge → InWindow window point → IsNear edge point → Contains (ring_edges ring) edge
  -- none goes from a point to itself
  pub two_ends : (edge : Edge) → Contains (ring_edges cropped) edge → start_of edge ≢ end_of edge
  -- and none lies beyond one side of the widened window
  pub kept : (edge : Edge) → Contains (ring_edges cropped) edge → ¬ (AreBeyond (widened window) (start_of edge) (end_of edge))
  -- Its points are the other one's, or lie in the widened window.
  pub points : (point : Point) → Contains cropped point → Contains ring point ⊎ IsWithin (widened window) point
  -- It has two for each of the other one's at most.
  pub size : length cropped ≤ 2 * length ring
