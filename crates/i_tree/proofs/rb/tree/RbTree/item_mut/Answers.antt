use Rattle.std.proofs.Common.{ap, refl}
use Rattle.i_tree.specs.Rb.RbTree.{Contents, contents_with_item}
use Rattle.i_tree.proofs.RbLemmas.Shape.Subtrees.{entries-subtree_at}
use Rattle.i_tree.proofs.RbLemmas.Shape.Items.{IsRedBlack-with_item, AreHandles-with_item}
use Rattle.i_tree.proofs.RbLemmas.Balance.Ranks.{IsCore-from_red_black}
use Rattle.i_tree.proofs.rb.tree.RbTree.item_mut.Goals as goal

pub invariant_of-self-lent : goal.invariant_of-self-lent
invariant_of-self-lent g c w = (
  IsRedBlack-with_item c.args.handle w c.self.inside.arena.shape c.self.invariant.0,
  AreHandles-with_item c.args.handle w c.self.inside.arena.shape c.self.invariant.1,
)

pub returns : goal.returns
returns g c =
    let own = entries-subtree_at _ c.args.handle c.item_mut.result.now c.self.invariant.1 (rw c.self.view_is c.requires) c.item_mut.ensures.value in (
      (refl, λ w. ap (λ (contents : Contents g.row.T.Denot). contents_with_item c.args.handle contents w) c.self.view_is),
      rw (← c.self.view_is) (record { writes_back = tt; value = own; core = IsCore-from_red_black _ c.self.invariant.1 c.self.invariant.0 }),
    )
