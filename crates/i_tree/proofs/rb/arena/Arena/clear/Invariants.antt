use Rattle.std.proofs.Common.{◌≡◌, ◌≢◌, length}
use Rattle.i_tree.specs.declared.TheConstants.{EMPTY_REF}
use Rattle.i_tree.specs.Rb.RbTree.{slots}
use Rattle.i_tree.specs.Rb.Shape.{leaf, entries, IsHandle, AreHandles}
use Rattle.i_tree.proofs.rb.arena.Arena.clear.Given as goal

-- The walk is at a node, or the tree is empty.
abbrev pub invariant-loop-here : goal.invariant-loop-here
invariant-loop-here g l =
    record {
      live : l.here ≢ EMPTY_REF → IsHandle l.self.shape l.here;
      ended : l.here ≡ EMPTY_REF → l.self.shape ≡ leaf;
      handles : AreHandles l.self.shape;
      same_slots : slots l.self ≡ slots l.initial.self;
    }

abbrev pub decreases-loop-here : goal.decreases-loop-here
decreases-loop-here g l = length (entries l.self.shape)
