use Rattle.std.proofs.Common.{◌≡◌, map, take}
use Rattle.itree_c.specs.Heights.{height_of}
use Rattle.itree_c.proofs.heights.write_heights.Given as goal

-- the heights up to the place are written
abbrev pub invariant-loop-place : goal.invariant-loop-place
invariant-loop-place l = take l.place l.heights ≡ map height_of (take l.place l.found)
