use Rattle.std.proofs.Common.{◌≡◌, ◌++◌, drop}
use Rattle.overlay.specs.Contours.Outlines.{bends, outline, ring_point}
use Rattle.plane.specs.Lists.{Extends}
use Rattle.overlay.proofs.contours.bends.append_outline.Given as goal

-- what is appended so far, and what is to be appended of the points that are left
abbrev pub invariant-loop-place : goal.invariant-loop-place
invariant-loop-place g l =
    ((l.points.items ++ bends l.before (drop l.place l.fn.ring) (ring_point l.fn.ring 0)) ≡ (l.fn.points.items ++ outline l.fn.ring))
    × Extends l.fn.points.items l.points.items
