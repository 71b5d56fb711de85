use Rattle.std.proofs.Common.{[], refl, ap, ◌∙◌}
use Rattle.i_tree.proofs.SetLemmas.Handles.{AreApart-from_handles}
use Rattle.i_tree.proofs.SetLemmas.Live.{HasHandle-first}
use Rattle.i_tree.specs.Rb.RbTree.{Contents}
use Rattle.i_tree.specs.Rb.Shape.{entries, first_handle}
use Rattle.i_tree.proofs.set.tree.SetTreeSetCollection.first_index.Goals as goal

pub returns-clause-live : goal.returns-clause-live
returns-clause-live g c =
    HasHandle-first (entries c.args.self.now.shape) [] (entries c.args.self.now.shape) c.first.result refl
    (c.first.ensures.value ∙ ap (λ (contents : Contents g.row.V.Denot). first_handle (entries contents.shape)) c.self.view_is)

pub returns-clause-handles : goal.returns-clause-handles
returns-clause-handles g c = rw (← c.self.view_is) (AreApart-from_handles c.self.inside.core.shape c.first.ensures.core.handles)
