-- From the boundary of chords to that of stretches.
use Rattle.std.proofs.Common.{◌≢◌, ◌++◌, List, map, sym, subst}
use Rattle.std.specs.List.{All, AllZip, flat_map}
use Rattle.std.proofs.lemmas.List.Sorted.{IsPermutation-sym}
use Rattle.plane.specs.declared.edge.Edge.{Edge}
use Rattle.plane.specs.declared.point.Point.{Point}
use Rattle.overlay.specs.declared.fill.rules.FillRule.{FillRule}
use Rattle.overlay.specs.declared.fill.rules.Operation.{Operation}
use Rattle.overlay.specs.Boundary.{AreBroken, BoundsResult, IsBoundary}
use Rattle.overlay.specs.Polygons.{HasSloped}
use Rattle.overlay.specs.Contours.Rings.{AreContours, ring_edges}
use Rattle.overlay.specs.Fill.Filled.{IsFilled}
use Rattle.monotone_chains.specs.Stretches.{AreStretches, IsWidened, chord}
use Rattle.overlay.proofs.BoundaryLemmas.Sloped.{HasSloped-next}
use Rattle.monotone_chains.proofs.StretchLemmas.Bounding.{widened-bounds}
use Rattle.monotone_chains.proofs.StretchLemmas.Distinct.{distinct-widened}
use Rattle.monotone_chains.proofs.StretchLemmas.Inner.{end-tip}
use Rattle.monotone_chains.proofs.StretchLemmas.Noded.{noded-widened}
use Rattle.monotone_chains.proofs.StretchLemmas.Permuted.{IsFilled-permutation}
use Rattle.monotone_chains.proofs.StretchLemmas.Pieces.{filled-placed}
use Rattle.monotone_chains.proofs.StretchLemmas.Placed.{IsPlaced}
use Rattle.monotone_chains.proofs.StretchLemmas.Rings.{widened-ways}
use Rattle.monotone_chains.proofs.StretchLemmas.RingsKept.{AreRings-widened}
use Rattle.monotone_chains.proofs.StretchLemmas.Sloped.{HasSloped-widened}
-- The chords of closed edges' stretches are closed.
pub use Rattle.monotone_chains.proofs.StretchLemmas.Closed.{chords-closed}

-- What is filled of the chords is made into rings, and these are widened: so they bound what is made of the stretches.
pub widened-boundary : (rule : FillRule) (operation : Operation) (subject clip : List Edge) (stretches clip_stretches : List (List Point)) → AreStretches subject clip stretches clip_stretches
    → (broken broken_clip : List Edge) → AreBroken (map chord stretches) (map chord clip_stretches) broken broken_clip
    → (edges : List Edge) → IsFilled rule operation broken broken_clip edges → (rings : List (List Point)) → AreContours edges rings → (widened : List (List Point)) → AllZip (IsWidened (stretches ++ clip_stretches)) rings widened
    → IsBoundary rule operation subject clip widened × HasSloped (flat_map ring_edges widened)
widened-boundary rule operation subject clip stretches clip_stretches cut broken broken_clip are edges filled rings told widened wide =
    let all = stretches ++ clip_stretches in
    let turns = flat_map ring_edges rings in
    let moved : IsFilled rule operation broken broken_clip turns = IsFilled-permutation rule operation broken broken_clip edges turns (IsPermutation-sym turns edges told.all) filled in
    let placed : All (λ edge. edge.x1 ≢ edge.x0 → IsPlaced all edge) turns = filled-placed stretches clip_stretches cut.each cut.clear broken broken_clip are rule operation turns moved in
    let (ways, go, is) = widened-ways all rings widened cut.each wide in
    let noded = noded-widened all cut.each cut.clear turns moved.noded moved.distinct moved.vertical placed ways go in
    let distinct = distinct-widened all cut.each cut.clear turns ways go moved.distinct placed in
    let bounds = widened-bounds subject clip stretches clip_stretches cut broken broken_clip are rule operation turns moved ways go noded distinct in
    let kept = AreRings-widened all rings cut.each cut.clear told.each moved.distinct (λ edge point among end s of_all long of. end-tip all cut.each cut.clear turns placed moved.vertical edge point among end s of_all long of) widened wide in
    let sloped = HasSloped-widened all cut.each cut.clear turns ways go (HasSloped-next turns moved.vertical) in (
      record { each = kept; bounds = subst (BoundsResult rule operation subject clip) (sym is) bounds },
      subst HasSloped (sym is) sloped,
    )
