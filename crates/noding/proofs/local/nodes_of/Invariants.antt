use Rattle.std.proofs.Common.{take}
use Rattle.noding.specs.Stops.{AreKept}
use Rattle.noding.proofs.local.nodes_of.Given as goal

-- those of the stops so far
abbrev pub invariant-loop-stop : goal.invariant-loop-stop
invariant-loop-stop g l = AreKept l.edges l.moved (take l.stop-index l.stops) l.nodes.items
