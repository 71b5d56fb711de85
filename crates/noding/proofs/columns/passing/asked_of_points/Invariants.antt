use Rattle.std.proofs.Common.{◌≡◌, map, take}
use Rattle.noding.specs.Columns.Passing.{asked_of}
use Rattle.noding.proofs.columns.passing.asked_of_points.Given as goal

-- what is asked about those so far
abbrev pub invariant-loop-point : goal.invariant-loop-point
invariant-loop-point g l = l.asked.items ≡ map (asked_of l.fn.steep) (take l.point-index l.fn.points)
