use Rattle.std.proofs.Common.{◌-◌, length}
use Rattle.i_tree.specs.Rb.Shape.{entries, subtree_at}
use Rattle.i_tree.proofs.RbLemmas.Shape.Beside.{ComesNextTo}
use Rattle.i_tree.proofs.rb.tree.RbTree.parent_from.Given as goal

-- What is next to the subtree that was reached is next to the handle.
abbrev pub invariant-loop-self : goal.invariant-loop-self
invariant-loop-self g l = ComesNextTo l.side l.self-inside.arena.shape l.handle l.child

abbrev pub decreases-loop-self : goal.decreases-loop-self
decreases-loop-self g l =
    let tree = l.self-inside.arena.shape in length (entries tree) - length (entries (subtree_at l.child tree))
