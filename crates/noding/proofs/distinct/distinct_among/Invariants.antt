use Rattle.noding.proofs.ChainLemmas.Distinct.{AreLikes}
use Rattle.noding.proofs.distinct.distinct_among.Given as goal

-- the likes of the edges so far are told at their places
abbrev pub invariant-loop-one : goal.invariant-loop-one
invariant-loop-one g l = AreLikes l.edges l.placed l.one-index l.distinct.items l.places.items
