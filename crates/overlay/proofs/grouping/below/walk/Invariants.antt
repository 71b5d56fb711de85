use Rattle.overlay.proofs.GroupingLemmas.Told.{HasWalked}
use Rattle.overlay.proofs.grouping.below.walk.Given as goal

-- so far along the ring what is found below the holes is the highest
abbrev pub invariant-loop-to : goal.invariant-loop-to
invariant-loop-to g l = HasWalked g.rings l.initial.from l.points l.xs l.fn.holes l.to-index l.from l.count l.holes

-- the same rings
abbrev pub ghost-pass : goal.ghost-pass
ghost-pass g a = g.rings
