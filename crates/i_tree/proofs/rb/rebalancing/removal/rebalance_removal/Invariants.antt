use Rattle.std.proofs.Common.{◌≡◌, ◌-◌, length}
use Rattle.i_tree.specs.Rb.Balance.{IsShort}
use Rattle.i_tree.specs.Rb.Rebalancing.{red_nodes}
use Rattle.i_tree.specs.Rb.Shape.{entries}
use Rattle.i_tree.specs.Root.Steps.{OnlyRotates}
use Rattle.i_tree.proofs.RbLemmas.Removal.Progress.{Progress}
use Rattle.i_tree.proofs.rb.rebalancing.removal.rebalance_removal.Given as goal

-- What is promised of the first tree follows once the short side of the present node is rebalanced. Nothing was rotated yet.
abbrev pub invariant-loop-parent : goal.invariant-loop-parent
invariant-loop-parent g l =
    record {
      rebalances : (cut : IsShort l.fn.arena.shape l.initial.node l.initial.side) → Progress l.fn.arena.shape l.initial.node l.initial.side cut l.arena.shape l.node l.side;
      spare : l.arena.spare ≡ l.fn.arena.spare;
      steps : OnlyRotates g.C.Counter.made l.fn.steps l.steps 0;
    }

-- each step makes one node red
abbrev pub decreases-loop-parent : goal.decreases-loop-parent
decreases-loop-parent g l = length (entries l.arena.shape) - red_nodes l.arena.shape
