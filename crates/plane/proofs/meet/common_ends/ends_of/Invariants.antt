use Rattle.std.proofs.Common.{[]}
use Rattle.plane.specs.Gains.{GainsThese}
use Rattle.plane.specs.Meet.Columns.{IsEndUpto}
use Rattle.plane.proofs.meet.common_ends.ends_of.Given as goal

-- the ends of the edges so far
abbrev pub invariant-loop-place : goal.invariant-loop-place
invariant-loop-place g l = GainsThese (IsEndUpto l.edges l.place) [] l.ends.items
