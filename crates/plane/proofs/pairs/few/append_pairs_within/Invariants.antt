use Rattle.std.proofs.Common.{◌≡◌, ◌<◌}
use Rattle.plane.specs.Pairs.Bounds.{IsFromUpto}
use Rattle.plane.specs.Pairs.Pairs.{PairAt}
use Rattle.plane.specs.Pairs.Points.{Gains}
use Rattle.plane.proofs.pairs.few.append_pairs_within.Given as goal

-- the pairs with the items of the run so far
abbrev pub invariant-loop-first : goal.invariant-loop-first
invariant-loop-first g l = Gains (λ i j. IsFromUpto l.fn.from l.fn.to i × (i < l.first) × (j ≡ l.fn.second) × PairAt g.T.Meets.Meeting l.items i j) l.fn.out.items l.out.items
