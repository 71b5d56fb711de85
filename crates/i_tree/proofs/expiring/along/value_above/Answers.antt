use Rattle.i_tree.proofs.RootLemmas.Along.{next_at_point}
use Rattle.i_tree.proofs.expiring.along.value_above.Goals as goal

pub returns : goal.returns
returns g c order answers monotone = (
  c.next_pair.result,
  next_at_point order c.args.pairs.now c.count_at_most.result c.count_at_most.ensures.within (c.count_at_most.ensures.splits order answers monotone) c.next_pair.result c.next_pair.ensures.none c.next_pair.ensures.next,
  c.value_or.ensures,
)
