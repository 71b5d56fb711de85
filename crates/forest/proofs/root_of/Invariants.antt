use Rattle.std.proofs.Common.{◌≡◌, ◌<◌, ◌-◌, ℕ, length}
use Rattle.forest.specs.Trees.{IsAlong, rank_of}
use Rattle.forest.proofs.root_of.Given as goal

-- it is a node of the same tree
abbrev pub invariant-loop-at : goal.invariant-loop-at
invariant-loop-at l = (l.at < length l.parents) × ((label : ℕ → ℕ) → IsAlong l.parents label → label l.at ≡ label l.node)

abbrev pub decreases-loop-at : goal.decreases-loop-at
decreases-loop-at l = l.most - rank_of l.ranks l.at
