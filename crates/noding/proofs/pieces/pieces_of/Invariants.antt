use Rattle.std.proofs.Common.{◌≡◌, List, length, take}
use Rattle.std.specs.List.{flat_map}
use Rattle.plane.specs.declared.point.Point.{Point}
use Rattle.noding.specs.Offsets.{AreJoined}
use Rattle.noding.specs.Windings.{pieces}
use Rattle.noding.proofs.ChainLemmas.Offsets.{joined}
use Rattle.noding.proofs.pieces.pieces_of.Given as goal

-- the pieces of the chains so far, and the next one begins behind these
abbrev pub invariant-loop-end : goal.invariant-loop-end
invariant-loop-end g l =
    (chains : List (List Point)) → AreJoined chains l.points l.ends
    → (l.edges.items ≡ flat_map pieces (take l.end-index chains)) × (l.start ≡ length (joined (take l.end-index chains)))
