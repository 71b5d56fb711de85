use Rattle.std.proofs.Common.{◌≡◌, take}
use Rattle.std.specs.List.{flat_map}
use Rattle.overlay.specs.Rings.{rings_of}
use Rattle.offset.specs.Joins.{joined_of_ring}
use Rattle.offset.proofs.joined.joined_of_rings.Given as goal

-- those of the rings so far
abbrev pub invariant-loop-ring : goal.invariant-loop-ring
invariant-loop-ring g l = l.raw.items ≡ flat_map (joined_of_ring l.join l.shape) (take l.ring (rings_of l.points 0 l.ends))
