use Rattle.std.proofs.Common.{[], ◌∷◌, ◌++◌, refl, sym, ap, ◌∙◌}
use Rattle.std.proofs.lemmas.List.{append-nil}
use Rattle.i_tree.proofs.RbLemmas.SearchPath.Descent.{IsCutAt-top, cut_at_end, goes_right, falls_right}
use Rattle.i_tree.proofs.RbLemmas.Shape.Contexts.{subtree_at-none}
use Rattle.i_tree.proofs.RbLemmas.Shape.SubtreeHandles.{subtrees_live}
use Rattle.i_tree.proofs.SetLemmas.Search.{last_handle-end}
use Rattle.i_tree.specs.Rb.RbTree.{Contents}
use Rattle.i_tree.specs.Rb.Shape.{entries, left_at, occurs, last_handle}
use Rattle.i_tree.proofs.set.tree.SetTree.last.Goals as goal

pub loop-here-init : goal.loop-here-init
loop-here-init g c =
    ([], IsCutAt-top c.self.inside.core.shape c.root-here.result c.root-here.ensures.part c.root-here.ensures.live, refl)

pub loop-here-smaller : goal.loop-here-smaller
loop-here-smaller g c =
    let found = subtrees_live c.loop-here.here _ (c.loop-here.invariant.1.live c.loop-here-test.true) in
    falls_right _ c.loop-here.here found.0 found.1 c.right-here.result c.right-here.ensures.core.falls c.right-here.ensures.part

pub loop-here-preserved : goal.loop-here-preserved
loop-here-preserved g c =
    let found = subtrees_live c.loop-here.here _ (c.loop-here.invariant.1.live c.loop-here-test.true) in
    let front = c.loop-here.invariant.0 ++ entries (left_at c.loop-here.here _) in (
      front ++ (c.loop-here.here, found.0) ∷ [],
      goes_right _ c.loop-here.here found.0 found.1 c.loop-here.invariant.1 c.right-here.result c.right-here.ensures.live c.right-here.ensures.part,
      sym (last_handle-end front (c.loop-here.here, found.0)),
    )

pub returns : goal.returns
returns g c =
    let tree = c.self.inside.core.shape in
    let front = c.loop-here.invariant.0 in
    let empty = subtree_at-none c.loop-here.here tree (ap (λ handle. occurs handle tree) c.loop-here-test.false ∙ c.root-here.ensures.core.handles.none_empty) in
    c.loop-here.invariant.2
    ∙ ap last_handle (sym (ap (λ (contents : Contents g.row.V.Denot). entries contents.shape) (sym c.self.view_is) ∙ cut_at_end c.loop-here.invariant.1 empty ∙ append-nil front))
