use Rattle.monotone_chains.specs.Stretches.Widening.{HasLong}
use Rattle.monotone_chains.proofs.stretches.widening.push_long.Given as goal

-- those along the long ones of the parts so far are appended
abbrev pub invariant-loop-place : goal.invariant-loop-place
invariant-loop-place g l = HasLong l.parts l.place l.table.items
