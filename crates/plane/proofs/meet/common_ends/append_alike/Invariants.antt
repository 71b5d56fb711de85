use Rattle.std.proofs.Common.{length, ◌-◌, ◌<◌, ◌≤◌}
use Rattle.plane.specs.Gains.{GainsThese}
use Rattle.plane.specs.Meet.Columns.{IsAlike}
use Rattle.plane.proofs.meet.common_ends.append_alike.Given as goal

-- the pairs with those before `next`
abbrev pub invariant-loop-next : goal.invariant-loop-next
invariant-loop-next g l = (l.first < l.next) × (l.next ≤ length l.ends) × GainsThese (IsAlike l.ends l.first l.next) l.fn.pairs.items l.pairs.items

abbrev pub decreases-loop-next : goal.decreases-loop-next
decreases-loop-next g l = length l.ends - l.next
