use Rattle.std.proofs.Common.{take}
use Rattle.plane.specs.Gains.{GainsThese, IsOfSome}
use Rattle.plane.specs.Meet.Columns.{IsPairAbout}
use Rattle.plane.proofs.meet.by_columns.append_met.Given as goal

-- the pairs of those so far
abbrev pub invariant-loop-pair : goal.invariant-loop-pair
invariant-loop-pair g l = GainsThese (IsOfSome (IsPairAbout l.count) (take l.pair-index l.met)) l.fn.pairs.items l.pairs.items
