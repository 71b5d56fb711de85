use Rattle.std.proofs.Common.{ap, sym, ◌∙◌}
use Rattle.i_tree.specs.Rb.Context.{other_side}
use Rattle.i_tree.specs.Rb.Neighbours.{end_handle}
use Rattle.i_tree.specs.Rb.Shape.{entries, subtree_at}
use Rattle.i_tree.proofs.RbLemmas.Shape.Ends.{next_handle-below}
use Rattle.i_tree.proofs.RbLemmas.Shape.Subtrees.{subtree_at-empty}
use Rattle.i_tree.proofs.rb.tree.RbTree.next_on.Goals as goal

pub parent_from-requires : goal.parent_from-requires
parent_from-requires g c =
    let tree = c.args.self.now.shape in
    let empty = ap (λ handle. subtree_at handle tree) c.if-child.true ∙ subtree_at-empty tree c.child-child.ensures.core.handles in
    record { live = c.requires; free = sym c.child-child.ensures.part ∙ empty }

pub returns-else-child : goal.returns-else-child
returns-else-child g c =
    let tree = c.args.self.now.shape in
    record {
      value = λ front item back is.
          c.end_below.ensures
          ∙ ap (λ side. end_handle side (entries (subtree_at c.child-child.result tree))) c.other.ensures
          ∙ ap (λ subtree. end_handle (other_side c.args.side) (entries subtree)) c.child-child.ensures.part
          ∙ next_handle-below c.args.side tree c.args.handle c.child-child.ensures.core.handles c.requires (λ empty. c.if-child.false (c.child-child.ensures.value ∙ empty)) front item back is;
      core = c.child-child.ensures.core;
    }
