-- Rings one after another, by their numbers.
use Rattle.std.proofs.Common.{◌≡◌, ◌<◌, ◌≤◌, ◌+◌, ◌++◌, ◌∷◌, [], ℕ, zero, suc, List, length, get_or, map, take, refl, ap, sym, ◌∙◌, append-nil, append_assoc, arith}
use Rattle.std.specs.List.{between, flat_map}
use Rattle.std.proofs.lemmas.List.{map_more, take_all, take_more}
use Rattle.std.proofs.lemmas.List.Concat.{flat_map-append}
use Rattle.std.proofs.lemmas.List.Elements.{filter-append}
use Rattle.plane.specs.declared.edge.Edge.{Edge}
use Rattle.plane.specs.declared.point.Point.{Point}
use Rattle.overlay.specs.Contours.Rings.{ring_edges}
use Rattle.overlay.specs.Rings.{AreEnds, has_two_ends, real_edges, rings_of}

-- a ring begins where the one before it stops
pub ring_between : (points : List Point) (start : ℕ) (ends : List ℕ) (ring : ℕ) → ring < length ends → get_or (rings_of points start ends) ring [] ≡ between (get_or (start ∷ ends) ring 0) (get_or ends ring 0) points
ring_between points start [] ring inside = absurd (omega (arith, inside))
ring_between points start (end ∷ ends) zero inside = refl
ring_between points start (end ∷ ends) (suc ring) inside = ring_between points end ends ring (omega (arith, inside))

-- and stops there or later
pub ends_rise : (start : ℕ) (ends : List ℕ) (count ring : ℕ) → AreEnds start ends count → ring < length ends → get_or (start ∷ ends) ring 0 ≤ get_or ends ring 0
ends_rise start [] count ring right inside = absurd (omega (arith, inside))
ends_rise start (end ∷ ends) count zero right inside = right.0
ends_rise start (end ∷ ends) count (suc ring) right inside = ends_rise end ends count ring right.2 (omega (arith, inside))

pub ends_within : (start : ℕ) (ends : List ℕ) (count ring : ℕ) → AreEnds start ends count → ring < length ends → get_or ends ring 0 ≤ count
ends_within start [] count ring right inside = absurd (omega (arith, inside))
ends_within start (end ∷ ends) count zero right inside = right.1
ends_within start (end ∷ ends) count (suc ring) right inside = ends_within end ends count ring right.2 (omega (arith, inside))

-- as many rings as ends
pub rings-size : (points : List Point) (start : ℕ) (ends : List ℕ) → length (rings_of points start ends) ≡ length ends
rings-size points start [] = refl
rings-size points start (end ∷ ends) = ap suc (rings-size points end ends)

-- one more
pub rings_more : (points : List Point) (ends : List ℕ) (ring : ℕ) → ring < length ends → take (ring + 1) (rings_of points 0 ends) ≡ take ring (rings_of points 0 ends) ++ get_or (rings_of points 0 ends) ring [] ∷ []
rings_more points ends ring inside = take_more (rings_of points 0 ends) ring [] (omega (arith, inside, rings-size points 0 ends))

-- and all of them
pub rings_all : (points : List Point) (ends : List ℕ) (ring : ℕ) → length ends ≤ ring → take ring (rings_of points 0 ends) ≡ rings_of points 0 ends
rings_all points ends ring past = take_all ring (rings_of points 0 ends) (omega (arith, past, rings-size points 0 ends))

-- what is told of each of them, and of one more
pub told_more : {X : Type 0} (f : List Point → X) (points : List Point) (ends : List ℕ) (ring : ℕ) → ring < length ends
    → map f (take (ring + 1) (rings_of points 0 ends)) ≡ map f (take ring (rings_of points 0 ends)) ++ f (get_or (rings_of points 0 ends) ring []) ∷ []
told_more f points ends ring inside = map_more f (rings_of points 0 ends) ring [] (omega (arith, inside, rings-size points 0 ends))

-- the edges of one ring more
pub edges_more : (points : List Point) (ends : List ℕ) (ring : ℕ) → ring < length ends
    → flat_map ring_edges (take (ring + 1) (rings_of points 0 ends)) ≡ flat_map ring_edges (take ring (rings_of points 0 ends)) ++ ring_edges (get_or (rings_of points 0 ends) ring [])
edges_more points ends ring inside =
    let rings = rings_of points 0 ends in
    ap (λ (some : List (List Point)). flat_map ring_edges some) (rings_more points ends ring inside)
    ∙ flat_map-append ring_edges (take ring rings) (get_or rings ring [] ∷ [])
    ∙ ap (λ (edges : List Edge). flat_map ring_edges (take ring rings) ++ edges) (append-nil (ring_edges (get_or rings ring [])))

-- and the real ones, behind others
pub real_more : (before : List Edge) (points : List Point) (ends : List ℕ) (ring : ℕ) → ring < length ends
    → before ++ real_edges (flat_map ring_edges (take (ring + 1) (rings_of points 0 ends))) ≡ (before ++ real_edges (flat_map ring_edges (take ring (rings_of points 0 ends)))) ++ real_edges (ring_edges (get_or (rings_of points 0 ends) ring []))
real_more before points ends ring inside =
    let edges = flat_map ring_edges (take ring (rings_of points 0 ends)) in
    ap (λ (all : List Edge). before ++ real_edges all) (edges_more points ends ring inside)
    ∙ ap (λ (all : List Edge). before ++ all) (filter-append has_two_ends edges (ring_edges (get_or (rings_of points 0 ends) ring [])))
    ∙ sym (append_assoc before (real_edges edges) _)
