use Rattle.std.proofs.Common.{length, ◌-◌, ◌≤◌}
use Rattle.overlay.specs.Contours.Ends.{StartBefore}
use Rattle.overlay.proofs.contours.ends.next_from.Given as goal

-- so many edges start before the point
abbrev pub invariant-loop-first : goal.invariant-loop-first
invariant-loop-first l = (l.first ≤ length l.fn.sorted) × StartBefore l.fn.sorted l.fn.point l.first

abbrev pub decreases-loop-first : goal.decreases-loop-first
decreases-loop-first l = length l.fn.sorted - l.first
