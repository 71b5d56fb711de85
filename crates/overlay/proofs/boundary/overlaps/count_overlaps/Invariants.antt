use Rattle.std.proofs.Common.{◌<◌}
use Rattle.overlay.proofs.boundary.overlaps.count_overlaps.Given as goal

-- one for each edge so far at most
abbrev pub invariant-loop-next : goal.invariant-loop-next
invariant-loop-next g l = l.count < l.next
