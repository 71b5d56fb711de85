use Rattle.i_tree.proofs.RbLemmas.Shape.Subtrees.{entries-subtree_at}
use Rattle.i_tree.proofs.RbLemmas.Balance.Ranks.{IsCore-from_red_black}
use Rattle.i_tree.proofs.rb.tree.RbTree.item.Goals as goal

pub returns : goal.returns
returns g c =
    let own = entries-subtree_at _ c.args.handle c.item.result.now c.self.invariant.1 (rw c.self.view_is c.requires) c.item.ensures in
    rw (← c.self.view_is) (record { value = own; core = IsCore-from_red_black _ c.self.invariant.1 c.self.invariant.0 })
