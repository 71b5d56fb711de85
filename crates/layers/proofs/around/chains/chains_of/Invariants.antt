use Rattle.layers.specs.Shapes.{edges_of_each}
use Rattle.layers.proofs.AroundLemmas.Made.{AreChainsUpto}
use Rattle.layers.proofs.around.chains.chains_of.Given as goal

abbrev pub invariant-loop-shape : goal.invariant-loop-shape
invariant-loop-shape g l = AreChainsUpto (edges_of_each l.shapes) l.shape l.chains.items
