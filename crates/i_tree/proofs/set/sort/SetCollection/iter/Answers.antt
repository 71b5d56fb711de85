use Rattle.i_tree.proofs.SetLemmas.Walking.{walks_in_order}
use Rattle.i_tree.proofs.set.sort.SetCollection.iter.Goals as goal

pub returns-clause-runs : goal.returns-clause-runs
returns-clause-runs g c = walks_in_order g.Self.SetCollection.pairs
