use Rattle.i_tree.proofs.SetLemmas.LiveHandles.{live-HasHandle}
use Rattle.i_tree.proofs.SetLemmas.Handles.{AreApart-from_handles}
use Rattle.i_tree.proofs.SetLemmas.Live.{HasHandle-before}
use Rattle.i_tree.specs.Rb.Shape.{entries}
use Rattle.i_tree.proofs.set.tree.SetTreeSetCollection.index_before.Goals as goal

pub before-requires : goal.before-requires
before-requires g c = rw c.self.view_is (live-HasHandle c.args.index c.args.self.now.shape c.requires)

pub returns-clause-value : goal.returns-clause-value
returns-clause-value g c front value back is = c.before-2.ensures.value front value back (rw c.self.view_is is)

pub returns-clause-live : goal.returns-clause-live
returns-clause-live g c = HasHandle-before (entries c.args.self.now.shape) c.args.index c.before-2.result c.requires (returns-clause-value g c)

pub returns-clause-handles : goal.returns-clause-handles
returns-clause-handles g c = rw (← c.self.view_is) (AreApart-from_handles c.self.inside.core.shape c.before-2.ensures.core.handles)
