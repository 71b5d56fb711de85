use Rattle.noding.proofs.ColumnLemmas.Ends.{dealt-all, dealt-more, dealt-none}
use Rattle.noding.proofs.columns.crossings.deal_out.Goals as goal

pub loop-pair-init : goal.loop-pair-init
loop-pair-init g c = dealt-none c.args.count c.new.result.items c.new-2.result.items c.new.ensures.items c.new-2.ensures.items

pub loop-pair-preserved : goal.loop-pair-preserved
loop-pair-preserved g c =
    dealt-more c.args.count c.loop-pair.pair-index c.args.met.now c.loop-pair.dealt.about.items c.loop-pair.dealt.on.items c.loop-pair.invariant
    c.deal.new.dealt.about.items c.deal.new.dealt.on.items c.loop-pair-test.true c.in_ok-deal.ensures

pub returns : goal.returns
returns g c = dealt-all c.args.count c.loop-pair.pair-index c.args.met.now c.loop-pair.dealt.about.items c.loop-pair.dealt.on.items c.loop-pair.invariant c.loop-pair-test.false
