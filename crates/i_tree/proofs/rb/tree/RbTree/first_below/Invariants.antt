use Rattle.std.proofs.Common.{length}
use Rattle.i_tree.specs.Rb.Shape.{IsHandle, entries, subtree_at}
use Rattle.i_tree.proofs.RbLemmas.Removal.First.{StartsWith}
use Rattle.i_tree.proofs.rb.tree.RbTree.first_below.Given as goal

-- The subtree that was reached stands at the left end of the subtree that was given.
abbrev pub invariant-loop-subtree : goal.invariant-loop-subtree
invariant-loop-subtree g l =
    record {
      live : IsHandle l.self.shape l.first;
      starts : StartsWith (subtree_at l.subtree l.self.shape) (subtree_at l.first l.self.shape);
    }

abbrev pub decreases-loop-subtree : goal.decreases-loop-subtree
decreases-loop-subtree g l = length (entries (subtree_at l.first l.self.shape))
