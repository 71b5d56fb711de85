use Rattle.std.proofs.Common.{◌≡◌, ℕ, ◌+◌, ◌<◌, ◌≤◌, Some}
use Rattle.std.specs.List.{slice_get}
use Rattle.plane.specs.Pairs.Points.{IsFrom, IsShort}
use Rattle.plane.specs.declared.pairs.parts.Part.{Part}
use Rattle.plane.proofs.pairs.points.first_from.Given as goal

-- the first part from the x on is among so many of the row, or behind them
abbrev pub invariant-loop-size : goal.invariant-loop-size
invariant-loop-size g l = record {
  behind : l.start ≤ l.first;
  upto : l.first + l.size ≤ l.end;
  short : (at : ℕ) (part : Part) → slice_get l.parts at ≡ Some part → at < l.first → IsShort l.row l.left part;
  from : (at : ℕ) (part : Part) → slice_get l.parts at ≡ Some part → l.first + l.size ≤ at → IsFrom l.row l.left part;
}

abbrev pub decreases-loop-size : goal.decreases-loop-size
decreases-loop-size g l = l.size
