use Rattle.std.proofs.Common.{take}
use Rattle.plane.specs.Gains.{GainsThese, IsOfSome}
use Rattle.noding.specs.Sections.{IsStopIn}
use Rattle.noding.proofs.stops.push_stops_here.Given as goal

-- the stops of the pairs so far
abbrev pub invariant-loop-pair : goal.invariant-loop-pair
invariant-loop-pair g l = GainsThese (IsOfSome (IsStopIn l.fn.sections l.fn.points) (take l.pair-index l.passes)) l.fn.stops.items l.stops.items
