use Rattle.std.proofs.Common.{◌≡◌, ◌++◌, drop, map, take}
use Rattle.overlay.specs.Joined.{weighed}
use Rattle.overlay.proofs.boundary.pieces.weigh.Given as goal

-- the pieces so far have the weights, and the others are as they were
abbrev pub invariant-loop-piece : goal.invariant-loop-piece
invariant-loop-piece l = l.pieces ≡ map (weighed l.stretch) (take l.piece-index l.initial.pieces) ++ drop l.piece-index l.initial.pieces
