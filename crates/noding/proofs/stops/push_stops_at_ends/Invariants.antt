use Rattle.std.proofs.Common.{take}
use Rattle.plane.specs.Gains.{GainsThese, IsOfSome}
use Rattle.noding.specs.Stops.{IsStopOfPair}
use Rattle.noding.proofs.stops.push_stops_at_ends.Given as goal

-- the stops of the pairs so far
abbrev pub invariant-loop-pair : goal.invariant-loop-pair
invariant-loop-pair g l = GainsThese (IsOfSome (IsStopOfPair l.fn.edges) (take l.pair-index l.pairs)) l.fn.stops.items l.stops.items
