use Rattle.std.proofs.Common.{refl, ap, sym, ◌∙◌, subst}
use Rattle.i_tree.proofs.RbLemmas.Shape.SubtreeHandles.{value_at}
use Rattle.i_tree.proofs.SetLemmas.LiveHandles.{live-HasHandle}
use Rattle.i_tree.proofs.SetLemmas.Handles.{AreApart-from_handles}
use Rattle.i_tree.specs.Rb.RbTree.{Contents, contents_with_item}
use Rattle.i_tree.specs.Rb.Shape.{entries, IsHandle}
use Rattle.i_tree.proofs.set.tree.SetTreeSetCollection.value_by_index_mut.Goals as goal

pub item_mut-requires : goal.item_mut-requires
item_mut-requires g c =
    subst (λ (contents : Contents g.row.V.Denot). IsHandle contents.shape c.args.index) (sym c.self.view_is) (live-HasHandle c.args.index c.args.self.now.shape c.requires)

pub returns : goal.returns
returns g c =
    let live = subst (λ (contents : Contents g.row.V.Denot). IsHandle contents.shape c.args.index) (sym c.self.view_is) (live-HasHandle c.args.index c.args.self.now.shape c.requires) in
    let pairs_are = ap (λ (contents : Contents g.row.V.Denot). entries contents.shape) c.self.view_is in (
      (refl, λ value. ap (λ (contents : Contents g.row.V.Denot). contents_with_item c.args.index contents value) c.self.view_is),
      record {
        writes_back = tt;
        value = λ front value back is. value_at c.args.index _ c.item_mut.result.now (c.item_mut.ensures.core.handles.apart c.args.index) live c.item_mut.ensures.value front value back (pairs_are ∙ is);
        handles = rw (← c.self.view_is) (AreApart-from_handles _ c.item_mut.ensures.core.handles);
      },
    )
