use Rattle.std.proofs.Common.{◌<◌}
use Rattle.plane.specs.Pairs.Bounds.{IsFromUpto}
use Rattle.plane.specs.Pairs.Pairs.{PairAt}
use Rattle.plane.specs.Pairs.Points.{Gains}
use Rattle.plane.proofs.pairs.runs.append_pairs_of_two.Given as goal

-- the pairs of the one run with the items of the other one so far
abbrev pub invariant-loop-second : goal.invariant-loop-second
invariant-loop-second g l =
    Gains (λ i j. IsFromUpto l.fn.one.from l.fn.one.to i × IsFromUpto l.fn.other.from l.fn.other.to j × (j < l.second) × PairAt g.T.Meets.Meeting l.items i j) l.fn.out.items l.out.items
