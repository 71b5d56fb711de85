use Rattle.std.proofs.Common.{take}
use Rattle.noding.specs.Columns.Rounds.{Flags}
use Rattle.noding.proofs.columns.rounds.flag_beside.Given as goal

-- the stops so far have flagged their edges
abbrev pub invariant-loop-stop : goal.invariant-loop-stop
invariant-loop-stop g l = Flags l.fn.edges (take l.stop-index l.stops) l.fn.flags l.flags l.flagged.alone.items l.flagged.passed.items
