use Rattle.std.proofs.Common.{◌-◌, ℕ, ◌<◌, ◌≤◌, length}
use Rattle.overlay.specs.Contours.Order.{IsBehind, point_at}
use Rattle.overlay.proofs.contours.order.first_from.Given as goal

-- those before `low` start before the point, and those from `high` on don't
abbrev pub invariant-loop-low : goal.invariant-loop-low
invariant-loop-low l =
    (l.low ≤ l.high) × (l.high ≤ length l.fn.sorted)
    × ((k : ℕ) → k < l.low → ¬ (IsBehind l.fn.point (point_at l.fn.sorted k)))
    × ((k : ℕ) → l.high ≤ k → k < length l.fn.sorted → IsBehind l.fn.point (point_at l.fn.sorted k))

abbrev pub decreases-loop-low : goal.decreases-loop-low
decreases-loop-low l = l.high - l.low
