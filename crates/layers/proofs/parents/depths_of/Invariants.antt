use Rattle.std.proofs.Common.{take}
use Rattle.layers.specs.Parents.{AreDepths}
use Rattle.layers.proofs.parents.depths_of.Given as goal

-- the pairs so far are counted
abbrev pub invariant-loop-place : goal.invariant-loop-place
invariant-loop-place g l = AreDepths l.count (take l.place-index l.pairs) l.depths.items
