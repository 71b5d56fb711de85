use Rattle.std.proofs.Common.{◌≡◌, length}
use Rattle.i_tree.specs.Rb.Neighbours.{end_handle}
use Rattle.i_tree.specs.Rb.Shape.{IsHandle, entries, subtree_at}
use Rattle.i_tree.proofs.rb.tree.RbTree.end_below.Given as goal

-- The end of the subtree is below the handle that was reached.
abbrev pub invariant-loop-side : goal.invariant-loop-side
invariant-loop-side g l =
    record {
      live : IsHandle l.self.shape l.end;
      same : end_handle l.side (entries (subtree_at l.end l.self.shape)) ≡ end_handle l.side (entries (subtree_at l.subtree l.self.shape));
    }

abbrev pub decreases-loop-side : goal.decreases-loop-side
decreases-loop-side g l = length (entries (subtree_at l.end l.self.shape))
