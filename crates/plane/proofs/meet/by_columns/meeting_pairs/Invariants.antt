use Rattle.std.proofs.Common.{take, []}
use Rattle.plane.specs.Gains.{GainsThese, IsOfSome}
use Rattle.plane.specs.Meet.Columns.{IsMeetingOf}
use Rattle.plane.proofs.meet.by_columns.meeting_pairs.Given as goal

-- those of the pairs so far
abbrev pub invariant-loop-pair : goal.invariant-loop-pair
invariant-loop-pair g l = GainsThese (IsOfSome (IsMeetingOf l.edges) (take l.pair-index l.near)) [] l.pairs.items
