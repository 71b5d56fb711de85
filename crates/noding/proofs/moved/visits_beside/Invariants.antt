use Rattle.std.proofs.Common.{take}
use Rattle.noding.proofs.ChainLemmas.Visits.{AreVisitsOf}
use Rattle.noding.proofs.moved.visits_beside.Given as goal

-- the visits of the stops so far
abbrev pub invariant-loop-stop : goal.invariant-loop-stop
invariant-loop-stop g l = AreVisitsOf l.edges l.flags (take l.stop-index l.stops) l.visits.items
