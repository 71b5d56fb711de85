-- How often rings wind whose edges are noded, and their outlines.
use Rattle.std.proofs.Common.{◌≡◌, ◌≢◌, ◌⊎◌, [], ◌∷◌, ℤ, pos, negsuc, List, map, subst, sym, ◌∙◌}
use Rattle.std.specs.List.{All, flat_map}
use Rattle.std.proofs.lemmas.List.Elements.{All-cons, All-head, All-nil, All-tail}
use Rattle.plane.specs.Ends.{end_of, start_of}
use Rattle.plane.specs.declared.edge.Edge.{Edge}
use Rattle.plane.specs.declared.point.Point.{Point}
use Rattle.overlay.specs.Boundary.{IsBoundary}
use Rattle.overlay.specs.Contours.Outlines.{outline}
use Rattle.overlay.specs.Contours.Rings.{IsRing, ring_edges}
use Rattle.overlay.specs.Fill.Filled.{AreDistinct, AreNoded}
use Rattle.overlay.specs.Polygons.{WindsOnce, is_counterclockwise}
use Rattle.overlay.specs.declared.fill.rules.FillRule.{FillRule}
use Rattle.overlay.specs.declared.fill.rules.Operation.{Operation}
use Rattle.overlay.proofs.AreaLemmas.Rings.{each-ring}
use Rattle.overlay.proofs.ContourLemmas.Bends.{winding-outline}
use Rattle.overlay.proofs.WindsLemmas.Once.{winds-directed}

-- Of rings whose edges meet only at common ends each winds once around a point or not at all.
pub rings-once : (rings : List (List Point)) → All IsRing rings → AreNoded (flat_map ring_edges rings) → AreDistinct (flat_map ring_edges rings) → All (λ edge. start_of edge ≢ end_of edge) (flat_map ring_edges rings)
    → All WindsOnce rings
rings-once = each-ring WindsOnce winds-directed

-- So do the rings that bound a result.
pub boundary-once : (rule : FillRule) (operation : Operation) (subject clip : List Edge) (rings : List (List Point)) → IsBoundary rule operation subject clip rings → All WindsOnce rings
boundary-once rule operation subject clip rings is = rings-once rings is.each is.bounds.noded is.bounds.distinct is.bounds.two_ends

-- And outlines do, which wind and run as their rings.
pub outlines-once : (rings : List (List Point)) → All (λ ring. is_counterclockwise (outline ring) ≡ is_counterclockwise ring) rings → All WindsOnce rings → All WindsOnce (map outline rings)
outlines-once [] alike once = All-nil WindsOnce
outlines-once (ring ∷ rings) alike once =
    let RunsAlike : List Point → Type 0 = λ r. is_counterclockwise (outline r) ≡ is_counterclockwise r in
    let same = All-head RunsAlike ring rings alike in
    let winds = All-head WindsOnce ring rings once in
    All-cons WindsOnce (outline ring) (map outline rings) (λ point. (
      λ is. subst (λ (w : ℤ). (w ≡ pos 0) ⊎ (w ≡ pos 1)) (sym (winding-outline ring point)) ((winds point).0 (sym same ∙ is)),
      λ isnt. subst (λ (w : ℤ). (w ≡ pos 0) ⊎ (w ≡ negsuc 0)) (sym (winding-outline ring point)) ((winds point).1 (sym same ∙ isnt)),
    ))
    (outlines-once rings (All-tail RunsAlike ring rings alike) (All-tail WindsOnce ring rings once))
