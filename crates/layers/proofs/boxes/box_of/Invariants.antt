use Rattle.std.proofs.Common.{take}
use Rattle.layers.proofs.BoxLemmas.{IsBoxUpto}
use Rattle.layers.proofs.boxes.box_of.Given as goal

-- the box has the points so far, and its sides are at points
abbrev pub invariant-loop-point : goal.invariant-loop-point
invariant-loop-point l = IsBoxUpto l.points (take l.point-index l.points) l.bounds
