use Rattle.std.proofs.Common.{None, Some}
use Rattle.i_tree.proofs.RootLemmas.Along.{FirstFinds-at_count, LastFinds-at_count}
use Rattle.i_tree.proofs.expiring.along.beside.Goals as goal

pub returns-clause-before : goal.returns-clause-before
returns-clause-before g c =
    LastFinds-at_count (λ pair. Some pair) None c.args.pairs.now c.last_pair.result c.args.count c.requires c.last_pair.ensures.none c.last_pair.ensures.last

pub returns-clause-behind : goal.returns-clause-behind
returns-clause-behind g c =
    FirstFinds-at_count (λ pair. Some pair) None c.args.pairs.now c.next_pair.result c.args.count c.next_pair.ensures.none c.next_pair.ensures.next
