use Rattle.std.proofs.Common.{◌≤◌, ◌-◌, length}
use Rattle.noding.specs.Beside.{NonePassed}
use Rattle.noding.proofs.beside.first_by_halving.Given as goal

-- none is passed that stands before `low`
abbrev pub invariant-loop-low : goal.invariant-loop-low
invariant-loop-low l = (l.low ≤ l.high) × (l.high ≤ length l.fn.others) × NonePassed l.fn.line l.fn.other 0 l.low l.fn.others

-- those between are left
abbrev pub decreases-loop-low : goal.decreases-loop-low
decreases-loop-low l = l.high - l.low
