use Rattle.std.proofs.Common.{◌+◌, ◌<◌, ℕ, get_or}
use Rattle.overlay.specs.Contours.Fans.{end_at, places}
use Rattle.overlay.specs.Contours.Order.{point_at}
use Rattle.overlay.specs.Contours.Turns.{TurnsBefore}
use Rattle.overlay.proofs.contours.fans.are_clockwise.Given as goal

-- those so far don't come before the ones that stand before them
abbrev pub invariant-loop-spoke : goal.invariant-loop-spoke
invariant-loop-spoke l =
    (i : ℕ) → 0 < i → i + 1 < l.spoke
    → ¬ (TurnsBefore l.fn.sorted (end_at l.fn.sorted (places l.fn.fan) 0) (point_at l.fn.sorted l.fn.corner) (get_or (places l.fn.fan) (i + 1) 0) (get_or (places l.fn.fan) i 0))
