use Rattle.std.proofs.Common.{take}
use Rattle.overlay.specs.Rings.{rings_of}
use Rattle.itree_c.specs.Tiles.{AreCropped}
use Rattle.itree_c.proofs.cropped.cropped_rings.Given as goal

-- the rings before this one are cropped
abbrev pub invariant-loop-ring : goal.invariant-loop-ring
invariant-loop-ring l = AreCropped l.fn.window (take l.ring (rings_of l.fn.rings.points.now 0 l.fn.rings.ends.now)) l.points.items l.offsets.items
