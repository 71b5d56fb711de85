use Rattle.i_tree.proofs.SetLemmas.Handles.{AreApart-from_handles}
use Rattle.i_tree.proofs.set.tree.SetTreeSetCollection.len.Goals as goal

pub returns-clause-handles : goal.returns-clause-handles
returns-clause-handles g c = rw (← c.self.view_is) (AreApart-from_handles c.self.inside.core.shape c.len.ensures.core.handles)
