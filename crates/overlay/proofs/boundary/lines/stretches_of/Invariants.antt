use Rattle.overlay.proofs.LineLemmas.Upto.{AreUpto}
use Rattle.overlay.proofs.boundary.lines.stretches_of.Given as goal

-- the stretches upto the last of the changes so far
abbrev pub invariant-loop-change : goal.invariant-loop-change
invariant-loop-change g l = AreUpto l.changes l.change-index l.from l.sums l.stretches.items
