use Rattle.std.proofs.Common.{◌≡◌, ◌++◌, map, take, drop}
use Rattle.itree_c.specs.Meetings.{pair_of}
use Rattle.itree_c.proofs.meetings.write_first.Given as goal

-- the pairs up to the place are written, and what lies behind them is as it was
abbrev pub invariant-loop-place : goal.invariant-loop-place
invariant-loop-place l = l.pairs ≡ map pair_of (take l.place l.found) ++ drop l.place l.fn.pairs
