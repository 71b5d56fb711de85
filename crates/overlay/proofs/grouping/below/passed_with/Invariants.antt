use Rattle.std.proofs.Common.{◌≤◌, length}
use Rattle.overlay.proofs.grouping.below.passed_with.Given as goal

-- no more holes begin left of the point than there are
abbrev pub invariant-loop-point : goal.invariant-loop-point
invariant-loop-point l = l.count ≤ length l.xs
