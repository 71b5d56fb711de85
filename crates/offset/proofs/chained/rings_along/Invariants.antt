use Rattle.std.proofs.Common.{◌-◌, length}
use Rattle.offset.proofs.ChainedLemmas.{AreUpto}
use Rattle.offset.proofs.chained.rings_along.Given as goal

-- the edges so far are those of the rings
abbrev pub invariant-loop-next : goal.invariant-loop-next
invariant-loop-next g l = AreUpto l.edges l.points.items l.ends.items l.next

-- the edges that are left
abbrev pub decreases-loop-next : goal.decreases-loop-next
decreases-loop-next g l = length l.edges - l.next
