use Rattle.std.proofs.Common.{◌∷◌, take}
use Rattle.tiles.specs.Pushing.{IsExtent}
use Rattle.tiles.proofs.extent.extent_of.Given as goal

-- it reaches as far as the first point and those so far do
abbrev pub invariant-loop-point : goal.invariant-loop-point
invariant-loop-point l = IsExtent l.extent (l.fn.first ∷ take l.point-index l.points)
