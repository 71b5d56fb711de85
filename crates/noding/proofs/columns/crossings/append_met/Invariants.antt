use Rattle.std.proofs.Common.{take}
use Rattle.noding.specs.Columns.Uprights.{IsPairAbout}
use Rattle.plane.specs.Gains.{GainsThese, IsOfSome}
use Rattle.noding.proofs.columns.crossings.append_met.Given as goal

-- the pairs of those so far
abbrev pub invariant-loop-pair : goal.invariant-loop-pair
invariant-loop-pair g l = GainsThese (IsOfSome (IsPairAbout l.places) (take l.pair-index l.met)) l.fn.pairs.items l.pairs.items
