use Rattle.i_tree.specs.Rb.Shape.{IsHandle, subtree_at, rank}
use Rattle.uses.proofs.own_descent.descend.Given as goal

-- The handle that the descent has come to is live.
abbrev pub invariant-loop-next : goal.invariant-loop-next
invariant-loop-next l = IsHandle l.numbers.shape l.here

-- The rank of the part there falls with each step.
abbrev pub decreases-loop-next : goal.decreases-loop-next
decreases-loop-next l = rank (subtree_at l.here l.numbers.shape)
