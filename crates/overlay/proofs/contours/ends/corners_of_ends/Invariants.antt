use Rattle.std.proofs.Common.{◌≡◌, ℕ, ◌<◌, get_or, length}
use Rattle.overlay.specs.Contours.Order.{IsFirstFrom, edge_at}
use Rattle.plane.specs.Ends.{end_of}
use Rattle.overlay.proofs.contours.ends.corners_of_ends.Given as goal

-- the corners of the edges so far are there
abbrev pub invariant-loop-edge : goal.invariant-loop-edge
invariant-loop-edge g l =
    (length l.corners.items ≡ l.edge-index)
    × ((place : ℕ) → place < l.edge-index → IsFirstFrom l.fn.sorted (end_of (edge_at l.fn.sorted place)) (get_or l.corners.items place 0))
