use Rattle.std.proofs.Common.{◌<◌}
use Rattle.noding.proofs.distinct.count_copies.Given as goal

-- one for each edge so far at most
abbrev pub invariant-loop-next : goal.invariant-loop-next
invariant-loop-next g l = l.count < l.next
