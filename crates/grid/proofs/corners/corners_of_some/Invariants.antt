use Rattle.std.proofs.Common.{ℕ, ◌<◌}
use Rattle.grid.specs.Fit.{AreCornersBelow}
use Rattle.grid.specs.Grid.{IsFinitePosition, position_at}
use Rattle.grid.proofs.corners.corners_of_some.Given as goal

abbrev pub invariant-loop-i : goal.invariant-loop-i
invariant-loop-i l = record {
  corners : AreCornersBelow l.fn.positions l.i l.low l.high;
  finite : (k : ℕ) → k < l.i → IsFinitePosition (position_at l.fn.positions k);
}
