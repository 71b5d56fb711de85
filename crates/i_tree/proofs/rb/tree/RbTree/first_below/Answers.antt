use Rattle.std.proofs.Common.{ap, sym, ◌∙◌}
use Rattle.i_tree.specs.Rb.Shape.{subtree_at}
use Rattle.i_tree.proofs.RbLemmas.Shape.Subtrees.{subtree_at-empty}
use Rattle.i_tree.proofs.RbLemmas.Removal.First.{StartsWith-self, StartsWith-left, IsFirst-here}
use Rattle.i_tree.proofs.RbLemmas.Shape.Ends.{fewer-further}
use Rattle.i_tree.specs.declared.rb.links.Side.TheVariants.{Left}
use Rattle.i_tree.proofs.rb.tree.RbTree.first_below.Goals as goal

pub loop-subtree-init : goal.loop-subtree-init
loop-subtree-init g c = record { live = c.requires; starts = StartsWith-self (subtree_at c.args.subtree c.args.self.now.shape) }

pub returns-then-left : goal.returns-then-left
returns-then-left g c =
    let tree = c.args.self.now.shape in
    let handles = c.left-left.ensures.core.handles in
    let empty = sym c.left-left.ensures.part ∙ ap (λ handle. subtree_at handle tree) c.if-left.true ∙ subtree_at-empty tree handles in
    IsFirst-here (subtree_at c.args.subtree tree) tree c.loop-subtree.first handles c.loop-subtree.invariant.live empty c.loop-subtree.invariant.starts

pub loop-subtree-smaller : goal.loop-subtree-smaller
loop-subtree-smaller g c =
    let fewer = fewer-further Left _ c.loop-subtree.first c.left-left.ensures.core.handles c.loop-subtree.invariant.live in
    rw c.left-left.ensures.part fewer

pub loop-subtree-preserved : goal.loop-subtree-preserved
loop-subtree-preserved g c =
    let starts = StartsWith-left (subtree_at c.args.subtree _) _ c.loop-subtree.first c.left-left.ensures.core.handles c.loop-subtree.invariant.live c.loop-subtree.invariant.starts in
    record { live = c.left-left.ensures.live c.if-left.false; starts = rw c.left-left.ensures.part starts }
