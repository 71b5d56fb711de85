-- Rings in one list of points, by where each stops.
use Rattle.std.specs.Prelude.{ℕ, ◌≤◌, ⊤, List, [], ◌∷◌, length}
use Rattle.std.specs.List.{between, flat_map}
use Rattle.plane.specs.declared.edge.Edge.{Edge}
use Rattle.plane.specs.declared.point.Point.{Point}
use Rattle.overlay.specs.Contours.Rings.{ring_edges}
-- edges that go from one point to another
pub use Rattle.overlay.specs.Contours.Rings.{has_two_ends, real_edges}
use Rattle.overlay.specs.declared.rings.Rings.{Rings}

-- From the start on each ring stops where it begins or later, and none behind the last of so many points.
abbrev pub AreEnds : ℕ → List ℕ → ℕ → Type 0
AreEnds start [] count = ⊤
AreEnds start (end ∷ ends) count = (start ≤ end) × (end ≤ count) × AreEnds end ends count

-- The rings: each has the points from where the one before it stops, up to where it stops.
abbrev pub rings_of : List Point → ℕ → List ℕ → List (List Point)
rings_of points start [] = []
rings_of points start (end ∷ ends) = between start end points ∷ rings_of points end ends

-- Each ring stops where it begins or later, and none behind the points.
abbrev pub HasEnds : Rings → Type 0
HasEnds rings = AreEnds 0 rings.ends.now (length rings.points.now)

-- The edges of rings that stop at these ends.
abbrev pub edges_in : List Point → List ℕ → List Edge
edges_in points ends = flat_map ring_edges (rings_of points 0 ends)

-- The edges of all rings. A ring may end with its first point again: then that edge goes nowhere.
abbrev pub edges_of : Rings → List Edge
edges_of rings = edges_in rings.points.now rings.ends.now
