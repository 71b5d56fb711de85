use Rattle.std.proofs.Common.{All, take}
use Rattle.layers.specs.Chains.{IsInExtent}
use Rattle.layers.proofs.around.extents.extent_of.Given as goal

abbrev pub invariant-loop-placed : goal.invariant-loop-placed
invariant-loop-placed l = All (λ placed. IsInExtent l.extent placed.point) (take l.placed-index l.group)
