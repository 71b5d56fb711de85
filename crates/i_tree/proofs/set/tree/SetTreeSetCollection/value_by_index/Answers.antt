use Rattle.i_tree.proofs.RbLemmas.Shape.SubtreeHandles.{value_at}
use Rattle.i_tree.proofs.SetLemmas.LiveHandles.{live-HasHandle}
use Rattle.i_tree.proofs.SetLemmas.Handles.{AreApart-from_handles}
use Rattle.i_tree.proofs.set.tree.SetTreeSetCollection.value_by_index.Goals as goal

pub item-requires : goal.item-requires
item-requires g c = rw c.self.view_is (live-HasHandle c.args.index c.args.self.now.shape c.requires)

pub returns-clause-value : goal.returns-clause-value
returns-clause-value g c front value back is =
    value_at c.args.index c.self.inside.core.shape c.item.result.now (c.item.ensures.core.handles.apart c.args.index) (rw c.self.view_is (live-HasHandle c.args.index c.args.self.now.shape c.requires)) c.item.ensures.value front value back (rw c.self.view_is is)

pub returns-clause-handles : goal.returns-clause-handles
returns-clause-handles g c = rw (← c.self.view_is) (AreApart-from_handles c.self.inside.core.shape c.item.ensures.core.handles)
