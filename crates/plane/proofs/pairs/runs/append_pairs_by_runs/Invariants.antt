use Rattle.std.proofs.Common.{◌<◌, ◌*◌}
use Rattle.plane.specs.Pairs.Pairs.{PairAt}
use Rattle.plane.specs.Pairs.Points.{Gains}
use Rattle.plane.proofs.pairs.runs.append_pairs_by_runs.Given as goal

-- the pairs of the runs so far with what is behind them
abbrev pub invariant-loop-place : goal.invariant-loop-place
invariant-loop-place g l = Gains (λ i j. (i < l.place * 8) × PairAt g.T.Meets.Meeting l.items i j) l.fn.out.items l.out.items
