use Rattle.layers.proofs.AroundLemmas.Narrowing.{AreKept}
use Rattle.layers.proofs.around.narrowing.narrowed.Given as goal

abbrev pub invariant-loop-chain : goal.invariant-loop-chain
invariant-loop-chain g l = AreKept l.fn.extent l.chains l.chain-index l.kept.items
