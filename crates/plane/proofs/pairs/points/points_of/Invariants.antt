use Rattle.plane.specs.Pairs.Points.{ArePointsOf}
use Rattle.plane.proofs.pairs.points.points_of.Given as goal

-- the points of the parts so far
abbrev pub invariant-loop-part : goal.invariant-loop-part
invariant-loop-part g l = ArePointsOf l.points l.parts l.part-index l.ordered.items
