use Rattle.std.proofs.Common.{◌≡◌, ◌*◌, ◌-◌, length}
use Rattle.plane.specs.Pairs.Runs.{AreRunsAt}
use Rattle.plane.proofs.pairs.runs.runs_of.Given as goal

-- the boxes before the place stand in runs
abbrev pub invariant-loop-from : goal.invariant-loop-from
invariant-loop-from g l = AreRunsAt l.boxes l.runs.items × (l.from ≡ length l.runs.items * 8)

abbrev pub decreases-loop-from : goal.decreases-loop-from
decreases-loop-from g l = length l.boxes - l.from
