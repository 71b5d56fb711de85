use Rattle.std.proofs.Common.{◌≡◌, ◌-◌, length}
use Rattle.overlay.specs.Contours.Order.{point_at}
use Rattle.overlay.proofs.ContourLemmas.Fans.{AreSoFar}
use Rattle.overlay.proofs.contours.fans.append_spokes.Given as goal

-- the edges before this place that start at the point have joined
abbrev pub invariant-loop-place : goal.invariant-loop-place
invariant-loop-place g l = AreSoFar l.fn.sorted (point_at l.fn.sorted l.fn.corner) l.fn.corner l.place l.spokes.items

-- the edges that are left
abbrev pub decreases-loop-place : goal.decreases-loop-place
decreases-loop-place g l = length l.fn.sorted - l.place
