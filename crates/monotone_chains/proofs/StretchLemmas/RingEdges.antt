-- The edges of a ring, one by one.
use Rattle.std.proofs.Common.{◌≡◌, ℕ, zero, suc, ◌+◌, ◌<◌, List, [], ◌∷◌, ◌++◌, get_or, length, drop, refl, ap, ◌∙◌, arith}
use Rattle.plane.specs.declared.edge.Edge.{Edge}
use Rattle.plane.specs.declared.point.Point.{Point}
use Rattle.overlay.specs.Contours.Outlines.{next_or, ring_point}
use Rattle.overlay.specs.Contours.Rings.{ring_edges}
use Rattle.plane.specs.Ends.{edge_between}
use Rattle.noding.specs.Windings.{pieces}

path-length : (from : Point) (points : List Point) (to : Point) → length (pieces (from ∷ (points ++ to ∷ []))) ≡ suc (length points)
path-length from [] to = refl
path-length from (next ∷ points) to = ap suc (path-length next points to)

path-edge : (from : Point) (points : List Point) (to : Point) (k : ℕ) (d : Edge) → k < suc (length points)
    → get_or (pieces (from ∷ (points ++ to ∷ []))) k d ≡ edge_between (ring_point (from ∷ points) k) (next_or (drop (suc k) (from ∷ points)) to)
path-edge from [] to zero d inside = refl
path-edge from [] to (suc k) d inside = absurd (omega (arith, inside))
path-edge from (next ∷ points) to zero d inside = refl
path-edge from (next ∷ points) to (suc k) d inside = path-edge next points to k d (omega (arith, inside))

-- as many as points
pub length-ring_edges : (ring : List Point) → length (ring_edges ring) ≡ length ring
length-ring_edges [] = refl
length-ring_edges (first ∷ others) = path-length first others first

-- each from a point to the one behind it
pub ring-edge : (ring : List Point) (k : ℕ) (d : Edge) → k < length ring → get_or (ring_edges ring) k d ≡ edge_between (ring_point ring k) (next_or (drop (k + 1) ring) (ring_point ring 0))
ring-edge [] k d inside = absurd (omega (arith, inside))
ring-edge (first ∷ others) k d inside =
    let next : suc k ≡ k + 1 = omega arith in
    path-edge first others first k d inside ∙ ap (λ (n : ℕ). edge_between (ring_point (first ∷ others) k) (next_or (drop n (first ∷ others)) first)) next
