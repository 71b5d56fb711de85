use Rattle.std.proofs.Common.{◌≡◌}
use Rattle.i_tree.specs.Rb.Balance.{IsRaised}
use Rattle.i_tree.specs.Rb.Rebalancing.{red_nodes}
use Rattle.i_tree.specs.Rb.Shape.{entries}
use Rattle.i_tree.proofs.rb.rebalancing.insertion.rebalance_insertion.Given as goal

abbrev pub invariant-loop-added : goal.invariant-loop-added
invariant-loop-added g l =
    record {
      raised : IsRaised l.arena.shape l.node;
      same_entries : entries l.arena.shape ≡ entries l.initial.arena.shape;
      same_spare : l.arena.spare ≡ l.initial.arena.spare;
      same_steps : l.steps ≡ l.initial.steps;
    }

-- Each step leaves one red node fewer.
abbrev pub decreases-loop-added : goal.decreases-loop-added
decreases-loop-added g l = red_nodes l.arena.shape
