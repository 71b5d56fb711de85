-- Rings, and the edges of rings.
use Rattle.std.specs.List.{flat_map}
use Rattle.std.specs.List.Sorted.{IsPermutation}
use Rattle.std.specs.Ordering.{int_eq}
use Rattle.std.specs.Prelude.{◌≢◌, Bool, not, ◌||◌, List, [], ◌∷◌, ◌++◌, All, AllPairs, filter}
use Rattle.plane.specs.declared.edge.Edge.{Edge}
use Rattle.plane.specs.declared.point.Point.{Point}
use Rattle.noding.specs.Windings.{pieces}

-- The edges from each point of a ring to the next, and from the last one to the first. That of a ring of one point goes from
-- it to itself.
abbrev pub ring_edges : List Point → List Edge
ring_edges [] = []
ring_edges (first ∷ others) = pieces (first ∷ (others ++ first ∷ []))

-- The edge goes from one point to another.
abbrev pub has_two_ends : Edge → Bool
has_two_ends edge = not (int_eq edge.x0 edge.x1) || not (int_eq edge.y0 edge.y1)

-- Those of the edges that do. The others are points, and wind around nothing.
abbrev pub real_edges : List Edge → List Edge
real_edges edges = filter has_two_ends edges

-- Some points, none twice.
pub record IsRing (ring : List Point) : Type 0 where
  pub some : ring ≢ []
  pub once : AllPairs (λ point later. point ≢ later) ring

-- The rings of edges: their edges are these, each as often, in some order.
pub record AreContours (edges : List Edge) (rings : List (List Point)) : Type 0 where
  pub each : All IsRing rings
  pub all : IsPermutation (flat_map ring_edges rings) edges
