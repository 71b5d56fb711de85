use Rattle.std.proofs.Common.{map, take}
use Rattle.overlay.specs.Rings.{rings_of}
use Rattle.offset.specs.Cuts.{IsCurve}
use Rattle.offset.specs.Raw.{backwards}
use Rattle.offset.proofs.erosion.raw_of_rings_back.Given as goal

-- that of the rings so far
abbrev pub invariant-loop-ring : goal.invariant-loop-ring
invariant-loop-ring g l = IsCurve l.shape (take l.ring (map backwards (rings_of l.points 0 l.ends))) l.raw.items
