use Rattle.std.proofs.Common.{take}
use Rattle.noding.specs.Crossings.{IsPointOf}
use Rattle.plane.specs.Gains.{GainsThese, IsOfSome}
use Rattle.noding.proofs.columns.hot_points.push_points.Given as goal

-- the points of the crossings so far
abbrev pub invariant-loop-crossing : goal.invariant-loop-crossing
invariant-loop-crossing g l = GainsThese (IsOfSome IsPointOf (take l.crossing-index l.crossings)) l.fn.points.items l.points.items
