use Rattle.std.proofs.Common.{ℕ, ◌<◌}
use Rattle.grid.specs.Grid.{IsToldAt}
use Rattle.grid.proofs.points.points_of.Given as goal

abbrev pub invariant-loop-i : goal.invariant-loop-i
invariant-loop-i l = (k : ℕ) → k < l.i → IsToldAt l.fn.grid l.fn.positions l.points k
