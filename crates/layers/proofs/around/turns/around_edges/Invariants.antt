use Rattle.std.proofs.Common.{take}
use Rattle.layers.specs.Around.{halved}
use Rattle.layers.specs.Chains.{IsAround, chain_edges}
use Rattle.layers.proofs.around.turns.around_edges.Given as goal

abbrev pub invariant-loop-place : goal.invariant-loop-place
invariant-loop-place l = IsAround (halved l.fn.point) (take l.place (chain_edges l.fn.chain)) l.around
