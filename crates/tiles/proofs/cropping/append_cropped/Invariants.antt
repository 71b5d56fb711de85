use Rattle.std.proofs.Common.{◌≡◌}
use Rattle.tiles.proofs.Gone.{GoneOver}
use Rattle.tiles.proofs.cropping.append_cropped.Given as goal

-- the ring is gone over up to where what is left of it begins
abbrev pub invariant-loop-pair : goal.invariant-loop-pair
invariant-loop-pair g l = (l.pair-iterator.size ≡ 2) × GoneOver l.fn.wide l.ring l.pair-iterator.rest.now l.fn.out.items l.out.items
