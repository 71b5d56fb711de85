-- The areas of rings whose edges are noded, and of their outlines.
use Rattle.std.proofs.Common.{◌≡◌, ◌≢◌, [], ◌∷◌, ℤ, pos, ◌<ℤ◌, List, map, subst, sym, ◌∙◌}
use Rattle.std.specs.List.{All, flat_map}
use Rattle.std.proofs.lemmas.List.Elements.{All-cons, All-head, All-nil, All-tail, Contains-append_left, Contains-append_right}
use Rattle.i_tree.proofs.RootLemmas.Joined.{All-behind, All-front, AllPairs-behind, AllPairs-front}
use Rattle.plane.specs.Ends.{end_of, start_of}
use Rattle.plane.specs.declared.edge.Edge.{Edge}
use Rattle.plane.specs.declared.point.Point.{Point}
use Rattle.overlay.specs.Boundary.{IsBoundary}
use Rattle.overlay.specs.Contours.Outlines.{outline}
use Rattle.overlay.specs.Contours.Rings.{IsRing, ring_edges}
use Rattle.overlay.specs.Fill.Filled.{AreDistinct, AreNoded, HaveSameEnds}
use Rattle.overlay.specs.Polygons.{HasSignedArea, is_counterclockwise}
use Rattle.overlay.specs.declared.fill.rules.FillRule.{FillRule}
use Rattle.overlay.specs.declared.fill.rules.Operation.{Operation}
use Rattle.overlay.proofs.AreaLemmas.Directed.{area-directed}
use Rattle.overlay.proofs.ContourLemmas.Bends.{area-outline}

-- What holds of a ring that visits no point twice, whose edges meet only at common ends, are distinct and no points, holds of each
-- of rings whose edges do all together.
pub each-ring : (P : List Point → Type 0) → ((ring : List Point) → IsRing ring → AreNoded (ring_edges ring) → AreDistinct (ring_edges ring) → All (λ edge. start_of edge ≢ end_of edge) (ring_edges ring) → P ring)
    → (rings : List (List Point)) → All IsRing rings → AreNoded (flat_map ring_edges rings) → AreDistinct (flat_map ring_edges rings) → All (λ edge. start_of edge ≢ end_of edge) (flat_map ring_edges rings) → All P rings
each-ring P holds [] are noded distinct real = All-nil P
each-ring P holds (ring ∷ rings) are noded distinct real =
    let Differ : Edge → Edge → Type 0 = λ one other. ¬ (HaveSameEnds one other) in
    let IsReal : Edge → Type 0 = λ edge. start_of edge ≢ end_of edge in
    let first = ring_edges ring in
    let rest = flat_map ring_edges rings in
    All-cons P ring rings
    (holds ring (All-head IsRing ring rings are) (λ one other point held held_too. noded one other point (Contains-append_left first rest one held) (Contains-append_left first rest other held_too))
    (AllPairs-front Differ first rest distinct) (All-front IsReal first rest real))
    (each-ring P holds rings (All-tail IsRing ring rings are) (λ one other point held held_too. noded one other point (Contains-append_right first rest one held) (Contains-append_right first rest other held_too))
    (AllPairs-behind Differ first rest distinct) (All-behind IsReal first rest real))

-- So of such rings each runs as its area says.
pub rings-signed : (rings : List (List Point)) → All IsRing rings → AreNoded (flat_map ring_edges rings) → AreDistinct (flat_map ring_edges rings) → All (λ edge. start_of edge ≢ end_of edge) (flat_map ring_edges rings)
    → All HasSignedArea rings
rings-signed = each-ring HasSignedArea area-directed

-- So do the rings that bound a result.
pub boundary-signed : (rule : FillRule) (operation : Operation) (subject clip : List Edge) (rings : List (List Point)) → IsBoundary rule operation subject clip rings → All HasSignedArea rings
boundary-signed rule operation subject clip rings is = rings-signed rings is.each is.bounds.noded is.bounds.distinct is.bounds.two_ends

-- And outlines do, which run as their rings and have the same areas.
pub outlines-signed : (rings : List (List Point)) → All (λ ring. is_counterclockwise (outline ring) ≡ is_counterclockwise ring) rings → All HasSignedArea rings → All HasSignedArea (map outline rings)
outlines-signed [] alike signed = All-nil HasSignedArea
outlines-signed (ring ∷ rings) alike signed =
    let RunsAlike : List Point → Type 0 = λ r. is_counterclockwise (outline r) ≡ is_counterclockwise r in
    let same = All-head RunsAlike ring rings alike in
    let (above, below) = All-head HasSignedArea ring rings signed in
    All-cons HasSignedArea (outline ring) (map outline rings) (
      λ is. subst (λ (area : ℤ). pos 0 <ℤ area) (sym (area-outline ring)) (above (sym same ∙ is)),
      λ isnt. subst (λ (area : ℤ). area <ℤ pos 0) (sym (area-outline ring)) (below (sym same ∙ isnt)),
    )
    (outlines-signed rings (All-tail RunsAlike ring rings alike) (All-tail HasSignedArea ring rings signed))
