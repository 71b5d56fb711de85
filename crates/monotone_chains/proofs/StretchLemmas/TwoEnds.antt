-- No piece is a point where no edge is, with the points of stretches in place of their chords.
use Rattle.std.proofs.Common.{◌≢◌, inl, inr, List, ap, sym, subst}
use Rattle.std.specs.List.{All, AllPairs, AllZip, flat_map}
use Rattle.std.proofs.lemmas.List.Elements.{All-contains}
use Rattle.plane.specs.declared.edge.Edge.{Edge}
use Rattle.plane.specs.declared.point.Point.{Point}
use Rattle.plane.specs.Ends.{end_of, start_of}
use Rattle.noding.specs.Windings.{pieces}
use Rattle.monotone_chains.specs.Stretches.{GoesAlong, IsStretch}
use Rattle.overlay.proofs.FillLemmas.Premises.{All-among}
use Rattle.monotone_chains.proofs.StretchLemmas.Boxes.{ClearIfLong}
use Rattle.monotone_chains.proofs.StretchLemmas.Noded.{alone-piece, piece-of}
use Rattle.monotone_chains.proofs.StretchLemmas.NodedKinds.{long-rises, way-kind}
use Rattle.monotone_chains.proofs.StretchLemmas.NodedWays.{piece-sloped}

abbrev HasTwoEnds : Edge → Type 0
HasTwoEnds edge = start_of edge ≢ end_of edge

pub two_ends-widened : (all : List (List Point)) → All IsStretch all → AllPairs ClearIfLong all → (edges : List Edge) (ways : List (List Point)) → AllZip (GoesAlong all) edges ways → All (λ edge. start_of edge ≢ end_of edge) edges
    → All (λ edge. start_of edge ≢ end_of edge) (flat_map pieces ways)
two_ends-widened all each clear edges ways go two_ends =
    All-among HasTwoEnds (flat_map pieces ways)
    (λ piece among.
    (let found = piece-of all edges ways piece go among in
    elim (way-kind all each clear found.edge found.way found.goes) [
      | inl long ↦ λ same. piece-sloped found.way (long-rises all each clear found.edge found.way long) piece found.is (sym (ap (λ (p : Point). p.x) same))
      | inr alone ↦ subst HasTwoEnds (alone-piece all found.edge found.way piece alone found.is) (All-contains HasTwoEnds edges found.edge two_ends found.among)
    ]))
