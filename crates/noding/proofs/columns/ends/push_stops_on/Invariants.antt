use Rattle.std.proofs.Common.{take}
use Rattle.plane.specs.Gains.{GainsThese, IsOfSome}
use Rattle.noding.specs.Columns.Ends.{IsStopHeldAt}
use Rattle.noding.proofs.columns.ends.push_stops_on.Given as goal

-- the stops of the pairs so far
abbrev pub invariant-loop-pair : goal.invariant-loop-pair
invariant-loop-pair g l = GainsThese (IsOfSome (IsStopHeldAt l.fn.edges l.fn.points) (take l.pair-index l.pairs)) l.fn.stops.items l.stops.items
