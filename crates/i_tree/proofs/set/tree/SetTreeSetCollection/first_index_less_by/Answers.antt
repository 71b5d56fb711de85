use Rattle.i_tree.proofs.SetLemmas.Handles.{AreApart-from_handles}
use Rattle.i_tree.proofs.set.tree.SetTreeSetCollection.first_index_less_by.Goals as goal

pub returns-clause-handles : goal.returns-clause-handles
returns-clause-handles g c = AreApart-from_handles c.args.self.now.shape c.first_index_less_by_counted.ensures.core.handles
