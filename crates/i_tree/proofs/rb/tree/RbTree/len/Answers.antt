use Rattle.std.proofs.Common.{arith}
use Rattle.i_tree.proofs.RbLemmas.Shape.Subtrees.{leaf-without_entries}
use Rattle.i_tree.proofs.RbLemmas.Balance.Ranks.{IsCore-from_red_black}
use Rattle.i_tree.proofs.rb.tree.RbTree.len.Goals as goal

pub returns-clause-core : goal.returns-clause-core
returns-clause-core g c =
    rw (← c.self.view_is) (IsCore-from_red_black c.self.inside.arena.shape c.self.invariant.1 c.self.invariant.0)

pub returns-clause-empty : goal.returns-clause-empty
returns-clause-empty g c none =
    rw (← c.self.view_is) (leaf-without_entries c.self.inside.arena.shape (omega (arith, c.len.ensures)))
