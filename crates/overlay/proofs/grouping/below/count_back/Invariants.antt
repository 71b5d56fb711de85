use Rattle.std.proofs.Common.{◌≤◌, ◌<◌, ◌≤ℤ◌, ℕ, ℤ, get_or, length}
use Rattle.overlay.proofs.grouping.below.count_back.Given as goal

-- none of those behind is less
abbrev pub invariant-loop-left : goal.invariant-loop-left
invariant-loop-left l = record { within : l.left ≤ length l.xs; upto : (k : ℕ) (d : ℤ) → l.left ≤ k → k < length l.xs → l.fn.x ≤ℤ get_or l.xs k d }

-- those that were counted and may yet not be
abbrev pub decreases-loop-left : goal.decreases-loop-left
decreases-loop-left l = l.left
