use Rattle.i_tree.proofs.RootLemmas.Along.{neighbours_at_point}
use Rattle.i_tree.proofs.expiring.along.neighbours.Goals as goal

pub returns : goal.returns
returns g c order answers monotone =
    neighbours_at_point order c.args.pairs.now c.count_at_most.result c.count_at_most.ensures.within (c.count_at_most.ensures.splits order answers monotone) c.beside.result c.beside.ensures.before c.beside.ensures.behind
