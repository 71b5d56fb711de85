use Rattle.noding.proofs.ColumnLemmas.Pairs.{AreAskedUpto}
use Rattle.noding.proofs.columns.crossings.uprights_of.Given as goal

-- the upright ones of the edges so far are asked about
abbrev pub invariant-loop-place : goal.invariant-loop-place
invariant-loop-place g l = AreAskedUpto l.edges l.place l.uprights.places.items l.uprights.asked.items
