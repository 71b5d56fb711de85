use Rattle.std.proofs.Common.{ap, sym, ◌∙◌}
use Rattle.i_tree.specs.Rb.Neighbours.{end_handle}
use Rattle.i_tree.specs.Rb.Shape.{entries, subtree_at}
use Rattle.i_tree.proofs.RbLemmas.Shape.Ends.{end_handle-here, end_handle-further, fewer-further}
use Rattle.i_tree.proofs.RbLemmas.Shape.Subtrees.{subtree_at-empty}
use Rattle.i_tree.proofs.rb.tree.RbTree.end_below.Goals as goal

pub returns-then-child : goal.returns-then-child
returns-then-child g c =
    let tree = c.args.self.now.shape in
    let handles = c.child-child.ensures.core.handles in
    let here = end_handle-here c.args.side tree c.loop-side.end handles c.loop-side.invariant.live in
    sym (here (sym c.child-child.ensures.part ∙ ap (λ handle. subtree_at handle tree) c.if-child.true ∙ subtree_at-empty tree handles)) ∙ c.loop-side.invariant.same

pub loop-side-smaller : goal.loop-side-smaller
loop-side-smaller g c =
    let fewer = fewer-further c.args.side _ c.loop-side.end c.child-child.ensures.core.handles c.loop-side.invariant.live in
    rw c.child-child.ensures.part fewer

pub loop-side-preserved : goal.loop-side-preserved
loop-side-preserved g c =
    let same = end_handle-further c.args.side _ c.loop-side.end c.child-child.ensures.core.handles c.loop-side.invariant.live (λ empty. c.if-child.false (c.child-child.ensures.value ∙ empty)) in
    record {
      live = c.child-child.ensures.live c.if-child.false;
      same = ap (λ subtree. end_handle c.args.side (entries subtree)) c.child-child.ensures.part ∙ same ∙ c.loop-side.invariant.same;
    }
