use Rattle.std.proofs.Common.{take}
use Rattle.std.specs.List.{All}
use Rattle.layers.specs.Boxes.{IsInBounds}
use Rattle.layers.proofs.around.chains.chain_of.Given as goal

abbrev pub invariant-loop-point : goal.invariant-loop-point
invariant-loop-point l = All (λ point. IsInBounds l.bounds point) (take l.point-index l.points) × IsInBounds l.bounds l.end
