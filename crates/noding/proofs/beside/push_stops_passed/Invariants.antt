use Rattle.std.proofs.Common.{◌++◌, List, take}
use Rattle.std.specs.List.{Contains}
use Rattle.plane.specs.Gains.{GainsThese, IsOfSome}
use Rattle.noding.specs.Beside.{IsStopAtOther}
use Rattle.noding.specs.declared.stops.Stop.{Stop}
use Rattle.noding.proofs.beside.push_stops_passed.Given as goal

-- the stops at those so far
abbrev pub invariant-loop-index : goal.invariant-loop-index
invariant-loop-index g l =
    (known : List Stop) → ((stop : Stop) → Contains l.fn.own stop → Contains known stop)
    → GainsThese (IsOfSome (IsStopAtOther l.fn.place l.fn.edge l.fn.other) (take l.index l.fn.others)) (known ++ l.fn.beside.items) (known ++ l.beside.items)
