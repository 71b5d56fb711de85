use Rattle.std.proofs.Common.{◌≡◌, map, take}
use Rattle.itree_c.specs.Layers.{written_parent}
use Rattle.itree_c.proofs.layers_parents.write_parents.Given as goal

-- the parents up to this one are written
abbrev pub invariant-loop-place : goal.invariant-loop-place
invariant-loop-place l = take l.place l.parents ≡ map written_parent (take l.place l.found)
