use Rattle.std.proofs.Common.{ap, sym, ◌∙◌, subst}
use Rattle.i_tree.proofs.RbLemmas.Shape.SubtreeHandles.{value_at}
use Rattle.i_tree.specs.Rb.RbTree.{Contents}
use Rattle.i_tree.specs.Rb.Shape.{entries, IsHandle}
use Rattle.i_tree.proofs.set.tree.SetTree.key_at.Goals as goal

pub returns : goal.returns
returns g c front value back is =
    let live = subst (λ (contents : Contents g.row.V.Denot). IsHandle contents.shape c.args.handle) (sym c.self.view_is) c.requires in
    let pairs_are = ap (λ (contents : Contents g.row.V.Denot). entries contents.shape) c.self.view_is in
    c.key.ensures ∙ ap g.V.KeyValue.key_of (value_at c.args.handle _ c.item.result.now (c.item.ensures.core.handles.apart c.args.handle) live c.item.ensures.value front value back (pairs_are ∙ is))
