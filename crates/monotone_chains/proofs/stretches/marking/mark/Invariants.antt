use Rattle.std.proofs.Common.{take}
use Rattle.std.specs.List.{All}
use Rattle.monotone_chains.specs.Stretches.Cut.{IsSettled}
use Rattle.monotone_chains.proofs.stretches.marking.mark.Given as goal

-- the pairs so far are settled
abbrev pub invariant-loop-pair : goal.invariant-loop-pair
invariant-loop-pair l = All (IsSettled l.parts l.busy) (take l.pair-index l.pairs)
