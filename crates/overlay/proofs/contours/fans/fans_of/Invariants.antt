use Rattle.overlay.specs.Contours.Fans.{AreFans}
use Rattle.overlay.proofs.contours.fans.fans_of.Given as goal

-- those so far are fans
abbrev pub invariant-loop-place : goal.invariant-loop-place
invariant-loop-place g l = AreFans l.fn.sorted l.spokes.items l.fans.items
