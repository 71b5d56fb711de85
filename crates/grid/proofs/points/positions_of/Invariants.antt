use Rattle.std.proofs.Common.{ℕ, ◌<◌}
use Rattle.grid.specs.Grid.{IsWrittenAt}
use Rattle.grid.proofs.points.positions_of.Given as goal

abbrev pub invariant-loop-i : goal.invariant-loop-i
invariant-loop-i l = (k : ℕ) → k < l.i → IsWrittenAt l.fn.grid l.fn.points l.positions k
