-- Edges that go round: each begins where the one before it ends, and the last one ends where the first one begins.
use Rattle.std.specs.Prelude.{◌≡◌, ℕ, true, List, length, map}
use Rattle.plane.specs.declared.edge.Edge.{Edge}
use Rattle.plane.specs.declared.point.Point.{Point}
use Rattle.plane.specs.Ends.{start_of}
use Rattle.overlay.specs.Contours.Rings.{has_two_ends, ring_edges}
use Rattle.overlay.specs.Rings.{AreEnds, edges_in, real_edges}

-- The edge begins at the point, and ends at another one.
abbrev pub GoesOn : Point → Edge → Type 0
GoesOn at edge = (start_of edge ≡ at) × (has_two_ends edge ≡ true)

-- They are the edges of the ring of the points that they begin at, and none is a point.
pub record IsRound (edges : List Edge) : Type 0 where
  pub ring : ring_edges (map start_of edges) ≡ edges
  pub real : real_edges edges ≡ edges

-- They are the edges of rings that stop at these ends, and none is a point.
pub record AreOfRings (edges : List Edge) (points : List Point) (ends : List ℕ) : Type 0 where
  pub right : AreEnds 0 ends (length points)
  pub all : real_edges (edges_in points ends) ≡ edges
