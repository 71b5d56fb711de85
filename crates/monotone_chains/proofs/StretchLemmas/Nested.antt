-- Where rings of chords nest once, the widened rings do.
use Rattle.std.proofs.Common.{◌≢◌, ◌++◌, List, map, sym, subst}
use Rattle.std.specs.List.{All, AllZip, Contains, flat_map}
use Rattle.std.specs.List.Sorted.{IsPermutation}
use Rattle.std.proofs.lemmas.List.Sorted.{IsPermutation-sym, IsPermutation-trans}
use Rattle.plane.specs.declared.edge.Edge.{Edge}
use Rattle.plane.specs.declared.point.Point.{Point}
use Rattle.noding.specs.Windings.{pieces}
use Rattle.overlay.specs.declared.fill.rules.FillRule.{FillRule}
use Rattle.overlay.specs.declared.fill.rules.Operation.{Operation}
use Rattle.overlay.specs.Boundary.{AreBroken}
use Rattle.overlay.specs.Contours.Rings.{AreContours, ring_edges}
use Rattle.overlay.specs.Fill.Filled.{IsFilled}
use Rattle.overlay.specs.Nesting.{NestOnce}
use Rattle.overlay.specs.Polygons.{rings_of}
use Rattle.overlay.proofs.GroupingLemmas.Bags.{Contains-in_flat_map, IsPermutation-flat_map}
use Rattle.monotone_chains.specs.Stretches.{AreStretches, IsWidened, chord}
use Rattle.monotone_chains.proofs.StretchLemmas.NestedHoles.{AreEdgesOf, HaveHoles, nested-narrowed, polygons-narrowed, polygons-wind}
use Rattle.monotone_chains.proofs.StretchLemmas.NestedPieces.{pieces-share}
use Rattle.monotone_chains.proofs.StretchLemmas.NestedZips.{zip-cut, zip-permuted}
use Rattle.monotone_chains.proofs.StretchLemmas.Noded.{noded-widened}
use Rattle.monotone_chains.proofs.StretchLemmas.Permuted.{IsFilled-permutation}
use Rattle.monotone_chains.proofs.StretchLemmas.Pieces.{filled-placed}
use Rattle.monotone_chains.proofs.StretchLemmas.Placed.{IsPlaced}
use Rattle.monotone_chains.proofs.StretchLemmas.Rings.{widened-ways}

pub nest-widened : (rule : FillRule) (operation : Operation) (subject clip : List Edge) (stretches clip_stretches : List (List Point)) → AreStretches subject clip stretches clip_stretches
    → (broken broken_clip : List Edge) → AreBroken (map chord stretches) (map chord clip_stretches) broken broken_clip
    → (edges : List Edge) → IsFilled rule operation broken broken_clip edges → (rings : List (List Point)) → AreContours edges rings → (widened : List (List Point)) → AllZip (IsWidened (stretches ++ clip_stretches)) rings widened
    → NestOnce rings → NestOnce widened
nest-widened rule operation subject clip stretches clip_stretches cut broken broken_clip are edges filled rings told widened wide nest polygons moved directed nested =
    let all = stretches ++ clip_stretches in
    let again = zip-permuted (IsWidened all) rings widened (rings_of polygons) wide moved in
    let alike = zip-cut (IsWidened all) again.items polygons again.zip in
    let chords = alike.parts in
    let chord_rings = rings_of chords in
    let turns = flat_map ring_edges chord_rings in
    let same_rings : IsPermutation chord_rings rings = subst (λ (list : List (List Point)). IsPermutation list rings) (sym alike.is) again.moved in
    let turned = IsPermutation-trans turns (flat_map ring_edges rings) edges (IsPermutation-flat_map ring_edges chord_rings rings same_rings) told.all in
    let bounds : IsFilled rule operation broken broken_clip turns = IsFilled-permutation rule operation broken broken_clip edges turns (IsPermutation-sym turns edges turned) filled in
    let placed : All (λ edge. edge.x1 ≢ edge.x0 → IsPlaced all edge) turns = filled-placed stretches clip_stretches cut.each cut.clear broken broken_clip are rule operation turns bounds in
    let (ways, go, is) = widened-ways all chord_rings (rings_of polygons) cut.each (subst (λ (list : List (List Point)). AllZip (IsWidened all) list (rings_of polygons)) (sym alike.is) again.zip) in
    let noded = noded-widened all cut.each cut.clear turns bounds.noded bounds.distinct bounds.vertical placed ways go in
    let there : AreEdgesOf turns chord_rings = λ ring held edge inside. Contains-in_flat_map ring_edges chord_rings ring edge held inside in
    let wide_there : AreEdgesOf (flat_map pieces ways) (rings_of polygons) =
    λ ring held piece inside. subst (λ (list : List Edge). Contains list piece) is (Contains-in_flat_map ring_edges (rings_of polygons) ring piece held inside) in
    let wide_nested = subst (λ (list : List Edge). All (λ polygon. HaveHoles list polygon polygon) polygons) is nested in
    let are_once = nest chords same_rings
    (polygons-narrowed all cut.each cut.clear turns placed bounds.noded bounds.distinct ways go noded chords polygons there wide_there alike.zip directed)
    (nested-narrowed all cut.each cut.clear turns placed bounds.noded bounds.distinct ways go noded chords polygons there wide_there alike.zip wide_nested) in (
      polygons-wind all cut.each cut.clear turns placed bounds.noded bounds.distinct ways go noded chords polygons there alike.zip are_once.0,
      pieces-share all cut.each cut.clear turns bounds.vertical placed chords polygons there bounds.distinct alike.zip are_once.1,
    )
