use Rattle.std.proofs.Common.{take}
use Rattle.noding.specs.Local.{IsPointBeside}
use Rattle.plane.specs.Gains.{GainsThese, IsOfSome}
use Rattle.noding.proofs.columns.rounds.push_points_beside.Given as goal

-- the points of the crossings so far
abbrev pub invariant-loop-crossing : goal.invariant-loop-crossing
invariant-loop-crossing g l = GainsThese (IsOfSome (IsPointBeside l.fn.edges) (take l.crossing-index l.crossings)) l.fn.points.items l.points.items
