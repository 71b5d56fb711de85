-- What a caller of contours wants of its rings.
use Rattle.std.proofs.Common.{◌≡◌, List, map, sym, ◌∙◌}
use Rattle.std.specs.List.{flat_map}
use Rattle.plane.specs.declared.edge.Edge.{Edge}
use Rattle.plane.specs.declared.point.Point.{Point}
use Rattle.plane.specs.Meet.Edges.{RationalPoint}
use Rattle.overlay.specs.Contours.Outlines.{AreOutlines, outline}
use Rattle.overlay.specs.Contours.Rings.{AreContours, ring_edges}
use Rattle.noding.specs.Windings.{IsClosed, winding}
use Rattle.overlay.proofs.ContourLemmas.Bends.{AreRings-outlines, winding-outlines}
use Rattle.overlay.proofs.ContourLemmas.Counts.{ring-closed}
use Rattle.noding.proofs.SnapLemmas.Windings.{winding-permutation}
-- the outline of one ring is a ring, and winds as that does
pub use Rattle.overlay.proofs.ContourLemmas.Bends.{IsRing-outline, winding-outline}

-- The edges of a ring are closed.
pub IsClosed-ring : (ring : List Point) → IsClosed (ring_edges ring)
IsClosed-ring ring test = ring-closed test ring

-- The rings wind around each rational point as the edges do.
pub winding-contours : (edges : List Edge) (rings : List (List Point)) (point : RationalPoint) → AreContours edges rings → winding (flat_map ring_edges rings) point ≡ winding edges point
winding-contours edges rings point are = sym (winding-permutation (flat_map ring_edges rings) edges point are.all)

-- Their outlines are rings, and do so too.
pub outlines-wind : (edges : List Edge) (rings : List (List Point)) → AreContours edges rings → AreOutlines edges (map outline rings)
outlines-wind edges rings are = record {
  each = AreRings-outlines rings are.each;
  winds = λ point. winding-outlines rings point ∙ winding-contours edges rings point are;
}
