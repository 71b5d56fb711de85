use Rattle.layers.proofs.AroundLemmas.Groups.{no_chain}
use Rattle.layers.proofs.AroundLemmas.Narrowing.{AreKept-more}
use Rattle.layers.proofs.around.narrowing.narrowed.Goals as goal

pub loop-chain-preserved : goal.loop-chain-preserved
loop-chain-preserved g c =
    AreKept-more c.args.extent c.args.chains.now c.loop-chain.kept.items c.append_near.new.kept.items c.loop-chain.chain-index no_chain
    c.requires c.loop-chain-test.true c.loop-chain.invariant c.in_ok-append_near.ensures.same c.in_ok-append_near.ensures.order
