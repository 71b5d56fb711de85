use Rattle.i_tree.proofs.RbLemmas.Shape.Subtrees.{IsTopOf-root, IsTopOf-none}
use Rattle.i_tree.proofs.RbLemmas.Balance.Ranks.{IsCore-from_red_black}
use Rattle.i_tree.proofs.rb.tree.RbTree.root.Goals as goal

pub returns : goal.returns
returns g c =
    let whole = IsTopOf-root _ c.root.result c.self.invariant.1 c.root.ensures.value in
    rw (← c.self.view_is) (record {
      value = whole.value;
      part = whole.at;
      live = whole.live;
      empty = IsTopOf-none _ c.root.result _ c.self.invariant.1 whole;
      core = IsCore-from_red_black _ c.self.invariant.1 c.self.invariant.0;
    })
