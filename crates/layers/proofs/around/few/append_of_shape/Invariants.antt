use Rattle.std.proofs.Common.{◌≡◌, take}
use Rattle.plane.specs.Pairs.Points.{Gains}
use Rattle.layers.specs.Chains.{LiesAmong, edges_of_chains}
use Rattle.layers.proofs.around.few.append_of_shape.Given as goal

abbrev pub invariant-loop-placed : goal.invariant-loop-placed
invariant-loop-placed g l = Gains
    (λ i j. (j ≡ l.shape) × LiesAmong l.rule l.border (take l.placed-index l.group) (edges_of_chains l.chains) i)
    l.fn.pairs.items l.pairs.items
