use Rattle.std.proofs.Common.{◌≡◌, take}
use Rattle.offset.specs.Raw.{backwards}
use Rattle.offset.proofs.erosion.ring_back.Given as goal

-- so many of its points
abbrev pub invariant-loop-index : goal.invariant-loop-index
invariant-loop-index g l = l.back.items ≡ take l.index (backwards l.ring)
