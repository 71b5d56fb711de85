use Rattle.std.proofs.Common.{◌≡◌, ◌<◌, ℕ, length}
use Rattle.forest.specs.Trees.{rank_of}
use Rattle.forest.proofs.zeros.Given as goal

abbrev pub invariant-loop-node : goal.invariant-loop-node
invariant-loop-node g l = (length l.ranks.items ≡ l._node) × ((k : ℕ) → k < l._node → rank_of l.ranks.items k ≡ 0)
