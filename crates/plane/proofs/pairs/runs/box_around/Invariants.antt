use Rattle.plane.specs.Pairs.Bounds.{IsAroundThese}
use Rattle.plane.proofs.pairs.runs.box_around.Given as goal

-- it is around the boxes so far
abbrev pub invariant-loop-place : goal.invariant-loop-place
invariant-loop-place l = IsAroundThese l.fn.from l.place l.boxes l.around
