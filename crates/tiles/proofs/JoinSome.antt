-- Polygons of an overlay, if there are any, wind around some point.
use Rattle.std.proofs.Common.{◌≡◌, ◌≢◌, inl, inr, true, false, ◌⊎◌, pos, ◌+ℤ◌, ◌<ℤ◌, List, [], ◌∷◌, Option, Some, None, map, refl, ap, sym, subst, ◌∙◌, arith}
use Rattle.std.specs.List.{All, Contains, flat_map}
use Rattle.std.proofs.lemmas.Int.{ints}
use Rattle.std.proofs.lemmas.List.Elements.{All-head, Contains-append_left}
use Rattle.plane.specs.declared.edge.Edge.{Edge}
use Rattle.plane.specs.declared.point.Point.{Point}
use Rattle.plane.specs.Meet.Edges.{RationalPoint}
use Rattle.plane.specs.SweepLine.Heights.{rightwards}
use Rattle.noding.specs.Windings.{winding}
use Rattle.overlay.specs.declared.fill.rules.FillRule.{FillRule}
use Rattle.overlay.specs.declared.fill.rules.Operation.{Operation}
use Rattle.overlay.specs.Contours.Outlines.{outline}
use Rattle.overlay.specs.Contours.Rings.{ring_edges}
use Rattle.overlay.specs.Fill.Filled.{AreDistinct, AreNoded}
use Rattle.overlay.specs.Overlay.{IsOverlay, polygon_edges}
use Rattle.overlay.specs.Polygons.{IsPolygon, first_sloped, is_counterclockwise, rings_of, runs_rightwards}
use Rattle.overlay.specs.Rings.{real_edges}
use Rattle.overlay.proofs.Callers.{map-joined, winds-apart, winds-once}
use Rattle.overlay.proofs.ContourLemmas.Bends.{winding-outlines}
use Rattle.overlay.proofs.GroupingLemmas.Begins.{Told, told-all}
use Rattle.overlay.proofs.GroupingLemmas.Outlined.{outlines-run}
use Rattle.overlay.proofs.PieceLemmas.Made.{rightwards-onwards}

-- Noded edges of which one isn't vertical wind around some point, if they wind once or not at all around each.
sloped-winds : (edges : List Edge) → AreNoded edges → AreDistinct edges → (edge : Edge) → Contains edges edge → edge.x1 ≢ edge.x0 → ((at : RationalPoint) → (winding edges at ≡ pos 0) ⊎ (winding edges at ≡ pos 1))
    → (at : RationalPoint) × (winding edges at ≢ pos 0)
sloped-winds edges noded distinct edge among sloped once =
    let apart = winds-apart edges noded distinct edge among other_way middle (omega (arith, ints, onwards)) (omega (arith, ints, onwards)) in
    elim (once apart.one) [
      | inl none ↦ (apart.other, λ nothing. apart.differ (none ∙ sym nothing))
      | inr one ↦ (apart.one, λ nothing. never (sym one ∙ nothing))
    ]
  where
    never : pos 1 ≡ pos 0 → ⊥
    never h = cc

    other_way : edge.x0 ≢ edge.x1
    other_way = λ same. sloped (sym same)

    onwards : (rightwards edge).x0 <ℤ (rightwards edge).x1
    onwards = rightwards-onwards edge other_way

    -- the column halfway between its ends
    middle : RationalPoint
    middle = record {
      n = 2;
      x = (rightwards edge).x0 +ℤ (rightwards edge).x1;
      y = pos 0;
      positive = omega arith;
    }

-- some edge of a ring that runs counterclockwise isn't vertical
some-sloped : (ring : List Point) → is_counterclockwise ring ≡ true → (edge : Edge) × Contains (ring_edges ring) edge × (edge.x1 ≢ edge.x0)
some-sloped ring runs = by (first_sloped None (ring_edges ring)) (told-all (ring_edges ring)) runs
  where
    never : false ≡ true → ⊥
    never h = cc

    by : (best : Option Edge) → Told (ring_edges ring) best → runs_rightwards best ≡ true → (edge : Edge) × Contains (ring_edges ring) edge × (edge.x1 ≢ edge.x0)
    by None told none = absurd (never none)
    by (Some edge) told some = (edge, told.among, told.sloped)

-- the first ring of polygons, if there are any, runs counterclockwise
first-runs : (whole : List (List (List Point))) → All IsPolygon (map (λ polygon. map outline polygon) whole) → whole ≢ [] → AreNoded (flat_map ring_edges (rings_of whole)) → AreDistinct (flat_map ring_edges (rings_of whole))
    → (edge : Edge) × Contains (flat_map ring_edges (rings_of whole)) edge × (edge.x1 ≢ edge.x0)
first-runs [] directed some noded distinct = absurd (some refl)
first-runs ([] ∷ others) directed some noded distinct =
    let is = All-head IsPolygon [] (map (λ (polygon : List (List Point)). map outline polygon) others) directed in
    absurd (no_ring is.outer is.holes is.is)
  where
    no_ring : (ring : List Point) (rings : List (List Point)) → [] ≡ ring ∷ rings → ⊥
    no_ring ring rings h = cc
first-runs ((ring ∷ rings) ∷ others) directed some noded distinct =
    let is = All-head IsPolygon (outline ring ∷ map outline rings) (map (λ (polygon : List (List Point)). map outline polygon) others) directed in
    let alike = outlines-run (rings_of ((ring ∷ rings) ∷ others)) noded distinct in
    let runs = sym (All-head (λ (one : List Point). is_counterclockwise (outline one) ≡ is_counterclockwise one) ring (rings_of (rings ∷ others)) alike)
    ∙ ap is_counterclockwise (same (outline ring) is.outer (map outline rings) is.holes is.is) ∙ is.outwards in
    let (edge, held, sloped) = some-sloped ring runs in
    (edge, Contains-append_left (ring_edges ring) (flat_map ring_edges (rings_of (rings ∷ others))) edge held, sloped)
  where
    same : (a b : List Point) (rest more : List (List Point)) → a ∷ rest ≡ b ∷ more → a ≡ b
    same a b rest more h = cc

-- Polygons of an overlay, if there are any, wind around some point.
pub some-winds : (rule : FillRule) (operation : Operation) (subject clip : List Edge) (polygons : List (List (List Point))) → IsOverlay rule operation subject clip polygons → polygons ≢ []
    → (at : RationalPoint) × (winding (polygon_edges polygons) at ≢ pos 0)
some-winds rule operation subject clip polygons is some =
    let edges = flat_map ring_edges (rings_of is.whole) in
    let bounds = is.bounds.bounds in
    let directed = subst (All IsPolygon) is.outlined is.directed in
    let (edge, among, sloped) = first-runs is.whole directed (λ none. some (is.outlined ∙ ap (λ (list : List (List (List Point))). map (λ polygon. map outline polygon) list) none)) bounds.noded bounds.distinct in
    let (at, winds) = sloped-winds edges bounds.noded bounds.distinct edge among sloped (winds-once rule operation (real_edges subject) (real_edges clip) edges bounds.everywhere) in
    (at, λ nothing. winds (sym (same at) ∙ nothing))
  where
    same : (at : RationalPoint) → winding (polygon_edges polygons) at ≡ winding (flat_map ring_edges (rings_of is.whole)) at
    same at =
        ap (λ (rings : List (List Point)). winding (flat_map ring_edges rings) at) (ap (λ (list : List (List (List Point))). rings_of list) is.outlined ∙ map-joined outline is.whole)
        ∙ winding-outlines (rings_of is.whole) at
