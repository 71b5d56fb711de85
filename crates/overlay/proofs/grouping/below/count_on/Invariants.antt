use Rattle.std.proofs.Common.{◌<◌, ◌<ℤ◌, ℕ, ℤ, get_or}
use Rattle.overlay.proofs.grouping.below.count_on.Given as goal

-- all before are less
abbrev pub invariant-loop-place : goal.invariant-loop-place
invariant-loop-place l = (k : ℕ) (d : ℤ) → k < l.place → get_or l.xs k d <ℤ l.fn.x
