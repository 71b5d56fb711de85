use Rattle.std.proofs.Common.{take}
use Rattle.noding.specs.Columns.Rounds.{IsPointOfStop}
use Rattle.plane.specs.Gains.{GainsThese, IsOfSome}
use Rattle.noding.proofs.columns.rounds.push_points_of.Given as goal

-- the points of the stops so far
abbrev pub invariant-loop-stop : goal.invariant-loop-stop
invariant-loop-stop g l = GainsThese (IsOfSome (IsPointOfStop l.fn.edges) (take l.stop-index l.stops)) l.fn.points.items l.points.items
