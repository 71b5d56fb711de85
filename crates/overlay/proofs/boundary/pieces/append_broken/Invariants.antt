use Rattle.std.proofs.Common.{◌≡◌, ◌++◌, ◌∷◌, [], ◌≤◌, ◌<◌, ◌-◌, ℕ, List, length, map, get_or}
use Rattle.plane.specs.declared.point.Point.{Point}
use Rattle.overlay.specs.Fill.Turned.{turned}
use Rattle.plane.specs.Ends.{start_of}
use Rattle.noding.specs.Offsets.{between}
use Rattle.noding.specs.Stops.{point_of}
use Rattle.noding.specs.Windings.{pieces}
use Rattle.noding.specs.declared.stops.Stop.{Stop}
use Rattle.overlay.proofs.boundary.pieces.append_broken.Given as goal

-- the stops so far are the edge's, the last one's point is the one to go on from, and the pieces upto it are appended
abbrev pub invariant-loop-next : goal.invariant-loop-next
invariant-loop-next g l =
    (l.fn.first ≤ l.next) × (l.next ≤ length l.fn.stops)
    × ((k : ℕ) (default : Stop) → l.fn.first ≤ k → k < l.next → (get_or l.fn.stops k default).place ≡ l.fn.place)
    × ((front : List Point) × (start_of l.fn.edge ∷ map (point_of l.fn.edge) (between l.fn.first l.next l.fn.stops) ≡ front ++ l.from ∷ [])
    × (l.out.items ≡ l.fn.out.items ++ turned l.fn.operand (pieces (front ++ l.from ∷ []))))

-- the stops that are left
abbrev pub decreases-loop-next : goal.decreases-loop-next
decreases-loop-next g l = length l.fn.stops - l.next
