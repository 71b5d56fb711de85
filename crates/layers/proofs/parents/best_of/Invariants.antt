use Rattle.std.proofs.Common.{take}
use Rattle.layers.specs.Parents.{AreBest}
use Rattle.layers.proofs.parents.best_of.Given as goal

-- the best of the pairs so far are found
abbrev pub invariant-loop-place : goal.invariant-loop-place
invariant-loop-place g l = AreBest l.depths (take l.place-index l.pairs) l.found.items
