use Rattle.std.proofs.Common.{[], take}
use Rattle.noding.specs.Crossings.{IsCrossedAt}
use Rattle.plane.specs.Gains.{GainsThese, IsOfSome}
use Rattle.noding.proofs.crossings.crossings_of_pairs.Given as goal

-- the crossings of the pairs so far
abbrev pub invariant-loop-pair : goal.invariant-loop-pair
invariant-loop-pair g l = GainsThese (IsOfSome (IsCrossedAt l.edges) (take l.pair-index l.pairs)) [] l.crossings.items
