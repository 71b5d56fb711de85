use Rattle.std.proofs.Common.{take}
use Rattle.noding.specs.Crossings.{IsEndOf}
use Rattle.plane.specs.Gains.{GainsThese, IsOfSome}
use Rattle.noding.proofs.columns.hot_points.push_ends.Given as goal

-- the ends of the edges so far
abbrev pub invariant-loop-edge : goal.invariant-loop-edge
invariant-loop-edge g l = GainsThese (IsOfSome IsEndOf (take l.edge-index l.edges)) l.fn.points.items l.points.items
