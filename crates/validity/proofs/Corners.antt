-- The corners of a ring: a ring whose edges are those of the ring that have two ends.
use Rattle.std.proofs.Common.{◌≡◌, ◌≢◌, ◌≤◌, ℤ, Bool, true, false, cond, List, [], ◌∷◌, ◌++◌, length, map, refl, ap, ap₂, sym, ◌∙◌, arith}
use Rattle.std.specs.List.{AllPairs}
use Rattle.std.proofs.lemmas.List.{length-map}
use Rattle.i_tree.proofs.RootLemmas.Joined.{AllPairs-to_map}
use Rattle.plane.specs.declared.edge.Edge.{Edge}
use Rattle.plane.specs.declared.point.Point.{Point}
use Rattle.plane.specs.Ends.{edge_between, start_of}
use Rattle.noding.specs.Windings.{pieces}
use Rattle.overlay.specs.Contours.Outlines.{next_or}
use Rattle.overlay.specs.Contours.Rings.{IsRing, has_two_ends, real_edges, ring_edges}
use Rattle.overlay.proofs.ContourLemmas.RealEdges.{points-same}
use Rattle.validity.specs.Given.{corners_of}
use Rattle.validity.specs.Validity.{IsSimple}

-- The points at which the edges with two ends start, along points and to a last one behind them.
abbrev starts : Point → List Point → Point → List Point
starts from others last = map start_of (real_edges (pieces (from ∷ (others ++ last ∷ []))))

-- The first of these is the first point, also where it is left out; and their pieces are the edges with two ends.
abbrev GoAlike : List Edge → Point → Point → Type 0
GoAlike edges from last = (next_or (map start_of edges) last ≡ from) × (pieces (map start_of edges ++ last ∷ []) ≡ edges)

one-point : (one other : Point) → has_two_ends (edge_between one other) ≡ false → one ≡ other
one-point one other none =
    let (x, y) = points-same (edge_between one other) none in
    ap₂ (λ (a b : ℤ). (let point : Point = record { x = a; y = b } in point)) x y

-- one point more in front
alike-more : (from next last : Point) (edges : List Edge) → GoAlike edges next last → (t : Bool) → has_two_ends (edge_between from next) ≡ t → GoAlike (cond t (edge_between from next ∷ edges) edges) from last
alike-more from next last [] (first, same) true is = (refl, ap (λ (p : Point). edge_between from p ∷ []) first)
alike-more from next last (edge ∷ edges) (first, same) true is = (refl, ap₂ (λ (p : Point) (rest : List Edge). edge_between from p ∷ rest) first same)
alike-more from next last edges (first, same) false isnt = (first ∙ sym (one-point from next isnt), same)

alike : (from : Point) (others : List Point) (last : Point) → GoAlike (real_edges (pieces (from ∷ (others ++ last ∷ [])))) from last
alike from [] last = alike-more from last last [] (refl, refl) (has_two_ends (edge_between from last)) refl
alike from (next ∷ others) last = alike-more from next last (real_edges (pieces (next ∷ (others ++ last ∷ [])))) (alike next others last) (has_two_ends (edge_between from next)) refl

pub corners-edges : (ring : List Point) → ring_edges (corners_of ring) ≡ real_edges (ring_edges ring)
corners-edges [] = refl
corners-edges (first ∷ others) = by (starts first others first) (alike first others first)
  where
    edges : List Edge
    edges = real_edges (ring_edges (first ∷ others))

    by : (points : List Point) → (next_or points first ≡ first) × (pieces (points ++ first ∷ []) ≡ edges) → ring_edges points ≡ edges
    by [] (same, are) = are
    by (point ∷ points) (same, are) = ap (λ (p : Point). pieces (point ∷ (points ++ p ∷ []))) same ∙ are

-- ---- those of a simple ring

pub corners-three : (ring : List Point) → IsSimple ring → 3 ≤ length (corners_of ring)
corners-three ring is =
    let size = length-map (real_edges (ring_edges ring)) start_of in
    let enough = is.three_points in
    omega (arith, size, enough)

pub corners-once : (ring : List Point) → IsSimple ring → AllPairs (λ point later. point ≢ later) (corners_of ring)
corners-once ring is = AllPairs-to_map (λ (point later : Point). point ≢ later) start_of (real_edges (ring_edges ring)) is.once

some-there : (points : List Point) → 3 ≤ length points → points ≢ []
some-there points enough none = let size = ap (λ (list : List Point). length list) none in omega (arith, size, enough)

pub corners-ring : (ring : List Point) → IsSimple ring → IsRing (corners_of ring)
corners-ring ring is = record { some = some-there (corners_of ring) (corners-three ring is); once = corners-once ring is }
