use Rattle.std.proofs.Common.{◌++◌, List, IsPermutation, length}
use Rattle.std.specs.List.{flat_map}
use Rattle.plane.specs.declared.point.Point.{Point}
use Rattle.overlay.specs.Contours.Rings.{ring_edges}
use Rattle.overlay.specs.Contours.Walks.{AreAppended, ArePairs, path, unwalked}
use Rattle.overlay.specs.Sides.{AreBorders}
use Rattle.overlay.proofs.ContourLemmas.Walks.{IsWalking}
use Rattle.overlay.proofs.WindsLemmas.Walked.{IsAlong}
use Rattle.overlay.proofs.contours.walk.walk_from.Given as goal

-- each edge that wasn't walked before is of a ring, of the walk, or still not walked; and the walk goes on along the next edges
abbrev pub invariant-loop-next : goal.invariant-loop-next
invariant-loop-next g l =
    ((rings : List (List Point)) × AreAppended rings l.fn.points.items l.points.items l.fn.ring_ends.items l.ring_ends.items
    × IsPermutation (flat_map ring_edges rings ++ (path l.fn.sorted l.walk.stack.items l.walk.corner ++ unwalked l.fn.sorted l.walk.used.items)) (unwalked l.fn.sorted l.fn.walk.used.items)
    × (AreBorders l.fn.sorted → ArePairs l.fn.sorted l.fn.walk.used.items → IsAlong l.fn.sorted l.walk.used.items l.walk.stack.items l.walk.corner l.fn.first rings l.back l.next))
    × IsWalking l.fn.sorted l.fn.walk.used.items l.walk.used.items l.walk.marks.items l.walk.stack.items l.walk.corner l.fn.first l.next

-- the edges that are left
abbrev pub decreases-loop-next : goal.decreases-loop-next
decreases-loop-next g l = length (unwalked l.fn.sorted l.walk.used.items)
