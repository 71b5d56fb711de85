use Rattle.std.proofs.Common.{◌≡◌, ◌<◌, ℕ, length}
use Rattle.forest.specs.Trees.{parent_of}
use Rattle.forest.proofs.roots.Given as goal

abbrev pub invariant-loop-node : goal.invariant-loop-node
invariant-loop-node g l = (length l.parents.items ≡ l.node) × ((k : ℕ) → k < l.node → parent_of l.parents.items k ≡ k)
