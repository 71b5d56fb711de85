use Rattle.overlay.proofs.GroupingLemmas.Told.{HasPassed}
use Rattle.overlay.proofs.grouping.below.pass.Given as goal

-- so many have been compared with the side
abbrev pub invariant-loop-place : goal.invariant-loop-place
invariant-loop-place g l = HasPassed l.side l.place l.fn.holes l.holes
