use Rattle.i_tree.proofs.RootLemmas.Along.{AtMostAlong-from_last, last_at_point}
use Rattle.i_tree.proofs.expiring.along.value_at_most.Goals as goal

pub returns : goal.returns
returns g c order answers monotone =
    AtMostAlong-from_last order c.args.pairs.now c.args.default c.value_or.result c.last_pair.result monotone
    (last_at_point order c.args.pairs.now c.count_at_most.result c.count_at_most.ensures.within (c.count_at_most.ensures.splits order answers monotone) c.last_pair.result c.last_pair.ensures.none c.last_pair.ensures.last)
    c.value_or.ensures
