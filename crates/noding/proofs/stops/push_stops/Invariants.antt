use Rattle.std.proofs.Common.{take}
use Rattle.plane.specs.Gains.{GainsThese, IsOfSome}
use Rattle.noding.specs.Stops.{IsStopAt}
use Rattle.noding.proofs.stops.push_stops.Given as goal

-- the stops of the pairs so far
abbrev pub invariant-loop-pair : goal.invariant-loop-pair
invariant-loop-pair g l = GainsThese (IsOfSome (IsStopAt l.fn.edges l.fn.points) (take l.pair-index l.passes)) l.fn.stops.items l.stops.items
