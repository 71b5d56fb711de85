use Rattle.i_tree.proofs.RbLemmas.Balance.Ranks.{IsCore-from_red_black}
use Rattle.i_tree.proofs.rb.tree.RbTree.reserve.Goals as goal

pub returns-clause-core : goal.returns-clause-core
returns-clause-core g c =
    rw c.reserve.ensures.reserves.shape (IsCore-from_red_black c.self.inside.arena.shape c.self.invariant.1 c.self.invariant.0)
