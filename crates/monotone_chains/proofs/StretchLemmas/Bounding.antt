-- Edges in which long stretches stand for their chords bound what is made of the stretches, as if there had been no chords.
use Rattle.std.proofs.Common.{◌++◌, ◌≡◌, ℤ, List, map, ap₂, ◌∙◌}
use Rattle.std.specs.List.{AllZip, flat_map}
use Rattle.plane.specs.declared.edge.Edge.{Edge}
use Rattle.plane.specs.declared.point.Point.{Point}
use Rattle.plane.specs.Meet.Edges.{RationalPoint}
use Rattle.overlay.specs.declared.fill.rules.FillRule.{FillRule}
use Rattle.overlay.specs.declared.fill.rules.Operation.{Operation}
use Rattle.overlay.specs.Boundary.{AreBroken, BoundsResult, WindsAsBroken}
use Rattle.overlay.specs.Fill.Filled.{AreDistinct, AreNoded, IsFilled}
use Rattle.overlay.specs.Fill.Rules.{is_result}
use Rattle.noding.specs.Windings.{count, pieces, winding}
use Rattle.monotone_chains.specs.Stretches.{AreStretches, GoesAlong, chord}
use Rattle.overlay.proofs.BoundaryLemmas.TwoEnds.{filled-two_ends}
use Rattle.monotone_chains.proofs.StretchLemmas.ChainsOf.{broken-edges}
use Rattle.monotone_chains.proofs.StretchLemmas.Corners.{widened-corners}
use Rattle.monotone_chains.proofs.StretchLemmas.Made.{widened-made}
use Rattle.monotone_chains.proofs.StretchLemmas.Pieces.{filled-placed}
use Rattle.monotone_chains.proofs.StretchLemmas.Shifts.{IsShift, shift-of}
use Rattle.monotone_chains.proofs.StretchLemmas.TwoEnds.{two_ends-widened}
use Rattle.monotone_chains.proofs.StretchLemmas.Wound.{ways-winding}

module _ (subject clip : List Edge) (stretches clip_stretches : List (List Point)) (cut : AreStretches subject clip stretches clip_stretches) (broken broken_clip : List Edge) (are : AreBroken (map chord stretches) (map chord clip_stretches) broken broken_clip) where
  abbrev all : List (List Point)
  all = stretches ++ clip_stretches

  module _ (rule : FillRule) (operation : Operation) (edges : List Edge) (filled : IsFilled rule operation broken broken_clip edges) (ways : List (List Point)) (go : AllZip (GoesAlong all) edges ways) where
    -- what the edges go along winds for a point as the edges do for the other
    winds : (point other : RationalPoint) → IsShift all point other → winding (flat_map pieces ways) point ≡ winding edges other
    winds point other shift =
        ways-winding all cut.each point other shift edges ways go
        (filled-placed stretches clip_stretches cut.each cut.clear broken broken_clip are rule operation edges filled)

    -- and so as the result of what the edges of subject and clip are broken into
    widened-everywhere : WindsAsBroken rule operation subject clip (flat_map pieces ways)
    widened-everywhere =
        let whole = broken-edges subject clip stretches clip_stretches cut broken broken_clip are in (
          whole.some,
          whole.some_clip,
          whole.are,
          λ point.
              let (other, shift) = shift-of all cut.each cut.clear point in
              winds point other shift
              ∙ filled.winds other
              ∙ ap₂ (λ (a b : ℤ). count (is_result rule operation a b)) (whole.winds point other shift) (whole.clip_winds point other shift),
        )

    -- so they bound it, where they meet only at common ends and are distinct
    pub widened-bounds : AreNoded (flat_map pieces ways) → AreDistinct (flat_map pieces ways) → BoundsResult rule operation subject clip (flat_map pieces ways)
    widened-bounds noded distinct = record {
      noded = noded;
      distinct = distinct;
      two_ends = two_ends-widened all cut.each cut.clear edges ways go (filled-two_ends rule operation broken broken_clip edges filled);
      everywhere = widened-everywhere;
      corners = widened-corners subject clip stretches clip_stretches cut broken broken_clip are rule operation edges filled ways go;
      made = widened-made subject clip stretches clip_stretches cut broken broken_clip are rule operation edges filled ways go;
    }
