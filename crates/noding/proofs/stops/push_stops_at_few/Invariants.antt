use Rattle.std.proofs.Common.{take}
use Rattle.plane.specs.Gains.{GainsThese, IsOfSome}
use Rattle.noding.specs.Stops.{IsStopThere}
use Rattle.noding.proofs.stops.push_stops_at_few.Given as goal

-- the stops at the crossings so far
abbrev pub invariant-loop-crossing : goal.invariant-loop-crossing
invariant-loop-crossing g l = GainsThese (IsOfSome (IsStopThere l.fn.edges) (take l.crossing-index l.crossings)) l.fn.stops.items l.stops.items
