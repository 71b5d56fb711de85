use Rattle.std.proofs.Common.{rules}
use Rattle.i_tree.proofs.set.list.fn.SetListSetCollection.first_index_less_by.is_at_most.Goals as goal

pub returns : goal.returns
returns g c = (c.f.result, record { shown = c.key.result; shows = c.key.ensures; says = record { met = c.f.ensures } }, search rules)
