use Rattle.std.proofs.Common.{length}
use Rattle.i_tree.specs.Rb.Shape.{entries, subtree_at, IsHandle}
use Rattle.i_tree.proofs.rb.arena.Arena.childless_below.Given as goal

abbrev pub invariant-loop-subtree : goal.invariant-loop-subtree
invariant-loop-subtree g l = IsHandle l.self.shape l.node

abbrev pub decreases-loop-subtree : goal.decreases-loop-subtree
decreases-loop-subtree g l = length (entries (subtree_at l.node l.self.shape))
