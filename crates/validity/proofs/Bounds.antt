-- How often simple rings wind: those of a polygon once at most; polygons that wind once or not at all each not at all at least.
use Rattle.std.proofs.Common.{◌≡◌, ◌⊎◌, inl, inr, ◌<◌, Bool, true, false, cond, ℤ, pos, negsuc, ◌-ℤ◌, ◌≤ℤ◌, List, [], ◌∷◌, length, map, reverse, refl, ap, ◌∙◌, arith}
use Rattle.std.specs.List.{All, flat_map}
use Rattle.std.specs.Prelude.{int_lt}
use Rattle.std.proofs.lemmas.Int.{ints}
use Rattle.std.proofs.lemmas.List.Concat.{flat_map-append}
use Rattle.std.proofs.lemmas.List.Elements.{All-head, All-tail}
use Rattle.plane.specs.declared.edge.Edge.{Edge}
use Rattle.plane.specs.declared.point.Point.{Point}
use Rattle.plane.specs.Meet.Edges.{RationalPoint}
use Rattle.noding.specs.Windings.{winding}
use Rattle.noding.proofs.SnapLemmas.Windings.{winding-append}
use Rattle.overlay.specs.Areas.{twice_area}
use Rattle.overlay.specs.Contours.Rings.{ring_edges}
use Rattle.overlay.specs.Nesting.{PolygonWindsOnce}
use Rattle.overlay.specs.Overlay.{polygon_edges}
use Rattle.overlay.specs.Polygons.{is_counterclockwise, rings_of}
use Rattle.tiles.proofs.JoinWinds.{nothing-winds}
use Rattle.validity.specs.Given.{corners_of, directed, turned}
use Rattle.validity.specs.Validity.{IsSimple}
use Rattle.validity.proofs.Alone.{corners-signed, corners-wind, turned-once}
use Rattle.validity.proofs.Backwards.{winding-backwards}
use Rattle.validity.proofs.Corners.{corners-three}

-- a hole winds to the right, or not at all
hole-most : (ring : List Point) → IsSimple ring → (point : RationalPoint) → winding (ring_edges (turned false ring)) point ≤ℤ pos 0
hole-most ring is point = by (is_counterclockwise (corners_of ring)) (int_lt (pos 0) (twice_area (corners_of ring))) refl refl
  where
    some : 0 < length (corners_of ring)
    some = let enough = corners-three ring is in omega (arith, enough)

    most : (w : ℤ) → (w ≡ pos 0) ⊎ (w ≡ negsuc 0) → w ≤ℤ pos 0
    most w (inl none) = omega (arith, ints, none)
    most w (inr once) = omega (arith, ints, once)

    back : (w z : ℤ) → z ≡ (pos 0 -ℤ w) → (w ≡ pos 0) ⊎ (w ≡ pos 1) → z ≤ℤ pos 0
    back w z turns (inl none) = omega (arith, ints, turns, none)
    back w z turns (inr once) = omega (arith, ints, turns, once)

    by : (s t : Bool) → is_counterclockwise (corners_of ring) ≡ s → int_lt (pos 0) (twice_area (corners_of ring)) ≡ t
        → winding (ring_edges (cond t (reverse (corners_of ring)) (corners_of ring))) point ≤ℤ pos 0
    by true true runs tests = back (winding (ring_edges (corners_of ring)) point) (winding (ring_edges (reverse (corners_of ring))) point) (winding-backwards (corners_of ring) some point) ((corners-wind ring is point).0 runs)
    by true false runs tests = absurd (let above = (corners-signed ring is).0 runs in omega (arith, ints, above, tests))
    by false false runs tests = most (winding (ring_edges (corners_of ring)) point) ((corners-wind ring is point).1 runs)
    by false true runs tests = absurd (let below = (corners-signed ring is).1 runs in omega (arith, ints, below, tests))

holes-most : (holes : List (List Point)) → All IsSimple holes → (point : RationalPoint) → winding (flat_map ring_edges (map (turned false) holes)) point ≤ℤ pos 0
holes-most [] simple point = let none = nothing-winds point in omega (arith, ints, none)
holes-most (hole ∷ holes) simple point =
    let sum = winding-append (ring_edges (turned false hole)) (flat_map ring_edges (map (turned false) holes)) point in
    let first = hole-most hole (All-head IsSimple hole holes simple) point in
    let rest = holes-most holes (All-tail IsSimple hole holes simple) point in
    omega (arith, ints, sum, first, rest)

-- A polygon of simple rings winds once at most.
pub polygon-most : (polygon : List (List Point)) → All IsSimple polygon → (point : RationalPoint) → winding (flat_map ring_edges (directed polygon)) point ≤ℤ pos 1
polygon-most [] simple point = let none = nothing-winds point in omega (arith, ints, none)
polygon-most (outer ∷ holes) simple point =
    let sum = winding-append (ring_edges (turned true outer)) (flat_map ring_edges (map (turned false) holes)) point in
    let rest = holes-most holes (All-tail IsSimple outer holes simple) point in
    elim (turned-once outer (All-head IsSimple outer holes simple) point) [
      | inl none ↦ (let most : winding (flat_map ring_edges (directed (outer ∷ holes))) point ≤ℤ pos 1 = omega (arith, ints, sum, rest, none) in most)
      | inr once ↦ (let most : winding (flat_map ring_edges (directed (outer ∷ holes))) point ≤ℤ pos 1 = omega (arith, ints, sum, rest, once) in most)
    ]

-- Polygons each of which winds once or not at all wind not at all at least.
pub all-least : (polygons : List (List (List Point))) → All (λ polygon. PolygonWindsOnce (directed polygon)) polygons → (point : RationalPoint) → pos 0 ≤ℤ winding (polygon_edges (map directed polygons)) point
all-least [] each point = let none = nothing-winds point in omega (arith, ints, none)
all-least (polygon ∷ polygons) each point =
    let Winds : List (List Point) → Type 0 = λ one. PolygonWindsOnce (directed one) in
    let sum = ap (λ (edges : List Edge). winding edges point) (flat_map-append ring_edges (directed polygon) (rings_of (map directed polygons)))
    ∙ winding-append (flat_map ring_edges (directed polygon)) (polygon_edges (map directed polygons)) point in
    let rest = all-least polygons (All-tail Winds polygon polygons each) point in
    elim (All-head Winds polygon polygons each point) [
      | inl none ↦ (let least : pos 0 ≤ℤ winding (polygon_edges (map directed (polygon ∷ polygons))) point = omega (arith, ints, sum, rest, none) in least)
      | inr once ↦ (let least : pos 0 ≤ℤ winding (polygon_edges (map directed (polygon ∷ polygons))) point = omega (arith, ints, sum, rest, once) in least)
    ]
