use Rattle.std.proofs.Common.{◌≡◌, ◌<◌}
use Rattle.plane.specs.Pairs.Points.{Gains, MeetsAt}
use Rattle.plane.proofs.pairs.few.append_pairs_of_item.Given as goal

-- the pairs with the points so far
abbrev pub invariant-loop-other : goal.invariant-loop-other
invariant-loop-other g l = Gains (λ i j. (j < l.other) × (i ≡ l.fn.place) × MeetsAt (g.X.Meets.Meeting l.fn.item) l.points j) l.fn.out.items l.out.items
