use Rattle.plane.specs.Pairs.Points.{AreStarts}
use Rattle.plane.proofs.pairs.points.starts_of.Given as goal

-- the rows of the parts so far have begun
abbrev pub invariant-loop-place : goal.invariant-loop-place
invariant-loop-place g l = AreStarts l.parts l.place l.starts.items
