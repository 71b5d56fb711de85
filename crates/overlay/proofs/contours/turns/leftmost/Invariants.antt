use Rattle.std.proofs.Common.{◌-◌, ◌≤◌, length}
use Rattle.overlay.proofs.ContourLemmas.Turns.{IsBestBefore}
use Rattle.overlay.proofs.contours.turns.leftmost.Given as goal

-- the best of the places so far
abbrev pub invariant-loop-place : goal.invariant-loop-place
invariant-loop-place l =
    (l.fn.first ≤ l.place) × (l.place ≤ length l.fn.sorted) × IsBestBefore l.fn.sorted l.fn.used l.fn.back l.fn.at l.place l.best

-- the places that are left
abbrev pub decreases-loop-place : goal.decreases-loop-place
decreases-loop-place l = length l.fn.sorted - l.place
