use Rattle.std.proofs.Common.{[]}
use Rattle.plane.specs.Gains.{GainsThese}
use Rattle.plane.specs.Meet.Columns.{IsAlikeUpto}
use Rattle.plane.proofs.meet.common_ends.pairs_at_common_ends.Given as goal

-- the pairs of those so far and of all behind them
abbrev pub invariant-loop-first : goal.invariant-loop-first
invariant-loop-first g l = GainsThese (IsAlikeUpto l.ends.items l.first) [] l.pairs.items
