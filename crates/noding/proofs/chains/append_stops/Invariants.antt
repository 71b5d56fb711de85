use Rattle.std.proofs.Common.{◌≡◌, ◌++◌, ◌≤◌, ◌<◌, ◌-◌, ℕ, length, map, get_or}
use Rattle.noding.specs.Offsets.{between}
use Rattle.noding.specs.Stops.{point_of}
use Rattle.noding.specs.declared.stops.Stop.{Stop}
use Rattle.noding.proofs.chains.append_stops.Given as goal

-- the stops so far are the edge's, and their points are appended
abbrev pub invariant-loop-next : goal.invariant-loop-next
invariant-loop-next g l =
    (l.fn.first ≤ l.next) × (l.next ≤ length l.fn.stops)
    × ((k : ℕ) (default : Stop) → l.fn.first ≤ k → k < l.next → (get_or l.fn.stops k default).place ≡ l.fn.place)
    × (l.points.items ≡ l.fn.points.items ++ map (point_of l.fn.edge) (between l.fn.first l.next l.fn.stops))

-- the stops that are left
abbrev pub decreases-loop-next : goal.decreases-loop-next
decreases-loop-next g l = length l.fn.stops - l.next
