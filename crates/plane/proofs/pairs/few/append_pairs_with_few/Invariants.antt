use Rattle.std.proofs.Common.{◌<◌}
use Rattle.plane.specs.Pairs.Pairs.{PairBetween}
use Rattle.plane.specs.Pairs.Points.{Gains}
use Rattle.plane.proofs.pairs.few.append_pairs_with_few.Given as goal

-- the pairs of the items so far
abbrev pub invariant-loop-place : goal.invariant-loop-place
invariant-loop-place g l = Gains (λ i j. (i < l.place) × PairBetween g.X.Meets.Meeting l.items l.points i j) l.fn.out.items l.out.items
