use Rattle.noding.proofs.ChainLemmas.Distinct.{ArePlacedUpto}
use Rattle.noding.proofs.distinct.placed_edges.Given as goal

-- the edges so far with their places
abbrev pub invariant-loop-place : goal.invariant-loop-place
invariant-loop-place g l = ArePlacedUpto l.edges l.place l.placed.items
