use Rattle.std.proofs.Common.{◌<◌, ◌+◌, ◌*◌}
use Rattle.plane.specs.Pairs.Bounds.{IsFromUpto}
use Rattle.plane.specs.Pairs.Pairs.{PairAt}
use Rattle.plane.specs.Pairs.Points.{Gains}
use Rattle.plane.proofs.pairs.runs.append_pairs_of_run.Given as goal

-- the pairs of the run with the items of those so far
abbrev pub invariant-loop-other : goal.invariant-loop-other
invariant-loop-other g l = Gains (λ i j. IsFromUpto (l.fn.place * 8) (l.fn.place * 8 + 8) i × (j < l.other * 8) × PairAt g.T.Meets.Meeting l.items i j) l.fn.out.items l.out.items
