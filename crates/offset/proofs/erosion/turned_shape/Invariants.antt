use Rattle.std.proofs.Common.{◌≡◌, map, take}
use Rattle.offset.specs.Shape.{opposite}
use Rattle.offset.proofs.erosion.turned_shape.Given as goal

-- those of the corners so far
abbrev pub invariant-loop-corner : goal.invariant-loop-corner
invariant-loop-corner g l = l.turned.items ≡ map opposite (take l.corner-index l.shape)
