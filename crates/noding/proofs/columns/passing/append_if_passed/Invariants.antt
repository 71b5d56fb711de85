use Rattle.plane.specs.Pairs.Pairs.{PairBetween}
use Rattle.noding.specs.Close.{PassesPoint}
use Rattle.noding.proofs.ColumnLemmas.PassingPairs.{KeepsUpto}
use Rattle.noding.proofs.columns.passing.append_if_passed.Given as goal

-- of the pairs so far those that pass were appended
abbrev pub invariant-loop-pair : goal.invariant-loop-pair
invariant-loop-pair g l = KeepsUpto (PairBetween PassesPoint l.fn.edges l.fn.points) l.fn.met l.fn.pairs.items l.pair-index l.pairs.items
