use Rattle.std.proofs.Common.{◌++◌, take}
use Rattle.plane.specs.Gains.{GainsThese, IsOfSome}
use Rattle.noding.specs.Beside.{IsStopBeside}
use Rattle.noding.proofs.beside.stops_beside.Given as goal

-- the stops of the pairs so far
abbrev pub invariant-loop-pair : goal.invariant-loop-pair
invariant-loop-pair g l = GainsThese (IsOfSome (IsStopBeside l.edges l.stops) (take l.pair-index l.pairs)) l.stops (l.stops ++ l.beside.items)
