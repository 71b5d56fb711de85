use Rattle.std.proofs.Common.{[], take}
use Rattle.plane.specs.Gains.{GainsThese, IsOfSome}
use Rattle.noding.specs.Columns.Rounds.{IsOneWithin}
use Rattle.noding.proofs.columns.rounds.points_near.Given as goal

-- those of the points so far that lie in the box
abbrev pub invariant-loop-point : goal.invariant-loop-point
invariant-loop-point g l = GainsThese (IsOfSome (IsOneWithin l.around) (take l.point-index l.hot)) [] l.near.items
