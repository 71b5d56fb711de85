use Rattle.std.proofs.Common.{ℕ, ◌<◌}
use Rattle.grid.specs.Fit.{IsScale}
use Rattle.grid.proofs.fit.finest.Given as goal

abbrev pub invariant-loop-scale : goal.invariant-loop-scale
invariant-loop-scale l = (scale : ℕ) → scale < l.scale → IsScale l.fn.low l.fn.high scale → ⊥
