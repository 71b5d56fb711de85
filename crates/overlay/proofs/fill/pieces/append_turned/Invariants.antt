use Rattle.std.proofs.Common.{◌≡◌, ◌++◌, take}
use Rattle.overlay.specs.Fill.Turned.{turned}
use Rattle.overlay.proofs.fill.pieces.append_turned.Given as goal

-- the pieces of the edges so far
abbrev pub invariant-loop-edge : goal.invariant-loop-edge
invariant-loop-edge g l = l.pieces.items ≡ l.initial.pieces.items ++ turned l.operand (take l.edge-index l.edges)
