use Rattle.i_tree.proofs.RbLemmas.Balance.Ranks.{IsCore-from_red_black}
use Rattle.i_tree.proofs.rb.tree.RbTree.has.Goals as goal

pub returns-clause-core : goal.returns-clause-core
returns-clause-core g c =
    rw (← c.self.view_is) (IsCore-from_red_black c.self.inside.arena.shape c.self.invariant.1 c.self.invariant.0)
