use Rattle.std.proofs.Common.{◌≡◌, ◌<◌, ◌≤◌, ◌++◌, [], ℕ, true, List, IsPermutation, get_or, length}
use Rattle.std.specs.List.{flat_map}
use Rattle.plane.specs.declared.point.Point.{Point}
use Rattle.overlay.specs.Contours.Ends.{StartBefore}
use Rattle.overlay.specs.Contours.Order.{point_at}
use Rattle.overlay.specs.Contours.Rings.{ring_edges}
use Rattle.overlay.specs.Contours.Walks.{AreAppended, ArePairs, unwalked}
use Rattle.overlay.specs.Sides.{AreBorders, KeepSides}
use Rattle.overlay.proofs.contours.walk.walk_all.Given as goal

-- the edges so far are walked, and what is walked is of rings; so many edges as the last corner says start before each that is left
abbrev pub invariant-loop-first : goal.invariant-loop-first
invariant-loop-first g l =
    ((rings : List (List Point)) × AreAppended rings l.fn.points.items l.points.items l.fn.ring_ends.items l.ring_ends.items
    × IsPermutation (flat_map ring_edges rings ++ unwalked l.fn.sorted l.walk.used.items) l.fn.sorted
    × (AreBorders l.fn.sorted → KeepSides l.fn.sorted rings × ArePairs l.fn.sorted l.walk.used.items))
    × ((k : ℕ) → k < l.first → get_or l.walk.used.items k true ≡ true)
    × (length l.walk.used.items ≡ length l.fn.sorted) × (length l.walk.marks.items ≡ length l.fn.sorted) × (l.walk.stack.items ≡ [])
    × (l.corner ≤ length l.fn.sorted) × ((k : ℕ) → l.first ≤ k → k < length l.fn.sorted → StartBefore l.fn.sorted (point_at l.fn.sorted k) l.corner)
