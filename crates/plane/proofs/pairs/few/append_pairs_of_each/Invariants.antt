use Rattle.std.proofs.Common.{◌<◌}
use Rattle.plane.specs.Pairs.Pairs.{PairAt}
use Rattle.plane.specs.Pairs.Points.{Gains}
use Rattle.plane.proofs.pairs.few.append_pairs_of_each.Given as goal

-- the pairs of the items so far
abbrev pub invariant-loop-second : goal.invariant-loop-second
invariant-loop-second g l = Gains (λ i j. (j < l.second) × PairAt g.T.Meets.Meeting l.items i j) l.fn.out.items l.out.items
