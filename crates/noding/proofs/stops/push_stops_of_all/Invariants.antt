use Rattle.plane.specs.Gains.{GainsThese}
use Rattle.noding.specs.Stops.{IsStopUpto}
use Rattle.noding.proofs.stops.push_stops_of_all.Given as goal

-- the stops of the edges so far
abbrev pub invariant-loop-place : goal.invariant-loop-place
invariant-loop-place g l = GainsThese (IsStopUpto l.fn.edges l.fn.crossing.point l.place) l.fn.stops.items l.stops.items
