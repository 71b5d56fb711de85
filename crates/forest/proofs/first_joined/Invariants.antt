use Rattle.std.proofs.Common.{◌≡◌, length}
use Rattle.forest.specs.Trees.{AreTrees, HasJoined}
use Rattle.forest.proofs.first_joined.Given as goal

-- the edges before this one are on no circle, and the trees join what they join
abbrev pub invariant-loop-place : goal.invariant-loop-place
invariant-loop-place l = (length l.parents ≡ length l.fn.parents) × AreTrees l.parents l.ranks l.place × HasJoined l.edges l.place l.parents
