use Rattle.std.proofs.Common.{◌≡◌, take}
use Rattle.i_tree.specs.Expiring.Tree.{items}
use Rattle.plane.proofs.sweep_line.growing.append_all.Given as goal

-- the pairs so far stand in the tree
abbrev pub invariant-loop-pair : goal.invariant-loop-pair
invariant-loop-pair g l = items l.tree.shape ≡ take l.pair-index l.pairs
