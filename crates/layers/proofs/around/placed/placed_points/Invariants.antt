use Rattle.std.proofs.Common.{take}
use Rattle.layers.specs.Chains.{ArePlaced}
use Rattle.layers.proofs.around.placed.placed_points.Given as goal

-- the points so far, by their places
abbrev pub invariant-loop-place : goal.invariant-loop-place
invariant-loop-place g l = ArePlaced (take l.place l.fn.points) l.group.items
