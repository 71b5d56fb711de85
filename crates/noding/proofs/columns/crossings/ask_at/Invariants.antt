use Rattle.std.proofs.Common.{◌≡◌, ◌++◌, map, take}
use Rattle.noding.specs.Columns.Ends.{asked_at}
use Rattle.noding.proofs.columns.crossings.ask_at.Given as goal

-- it is asked about those so far, too
abbrev pub invariant-loop-point : goal.invariant-loop-point
invariant-loop-point g l = l.asked.items ≡ l.fn.asked.items ++ map asked_at (take l.point-index l.fn.points)
