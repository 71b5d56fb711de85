use Rattle.std.specs.List.{between}
use Rattle.layers.specs.Chains.{AppendsChains}
use Rattle.layers.specs.Shapes.{all_rings, shape_edges}
use Rattle.layers.proofs.around.chains.append_shape.Given as goal

-- the chains so far are those of the rings so far
abbrev pub invariant-loop-ring : goal.invariant-loop-ring
invariant-loop-ring g l = AppendsChains l.shape (shape_edges (between l.first l.ring (all_rings l.shapes))) l.fn.chains.items l.chains.items
