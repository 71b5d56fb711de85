use Rattle.std.proofs.Common.{take}
use Rattle.layers.specs.Around.{halved}
use Rattle.layers.specs.Chains.{IsAround, edges_of_chains}
use Rattle.layers.proofs.around.few.lies_in.Given as goal

abbrev pub invariant-loop-chain : goal.invariant-loop-chain
invariant-loop-chain l = IsAround (halved l.fn.point) (edges_of_chains (take l.chain-index l.chains)) l.around
