use Rattle.std.proofs.Common.{◌≡◌, ◌≤◌, ◌<◌, ◌-◌, ℕ, length, get_or}
use Rattle.noding.specs.declared.stops.Stop.{Stop}
use Rattle.noding.proofs.distinct.end_of_run.Given as goal

-- the stops so far are the edge's
abbrev pub invariant-loop-next : goal.invariant-loop-next
invariant-loop-next l =
    (l.fn.first ≤ l.next) × (l.next ≤ length l.fn.stops)
    × ((k : ℕ) (default : Stop) → l.fn.first ≤ k → k < l.next → (get_or l.fn.stops k default).place ≡ l.fn.place)

-- the stops that are left
abbrev pub decreases-loop-next : goal.decreases-loop-next
decreases-loop-next l = length l.fn.stops - l.next
