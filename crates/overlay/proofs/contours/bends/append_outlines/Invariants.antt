use Rattle.std.proofs.Common.{◌≡◌, ◌++◌, length, map, take}
use Rattle.std.specs.List.{flat_map}
use Rattle.overlay.specs.Contours.Outlines.{outline}
use Rattle.overlay.specs.Rings.{rings_of}
use Rattle.noding.specs.Offsets.{offsets}
use Rattle.overlay.proofs.contours.bends.append_outlines.Given as goal

-- the outlines of the rings so far are appended, and where they stop
abbrev pub invariant-loop-ring : goal.invariant-loop-ring
invariant-loop-ring g l =
    let so_far = take l.ring (rings_of l.fn.rings 0 l.fn.ends) in
    (l.points.items ≡ l.fn.points.items ++ flat_map outline so_far)
    × (l.ring_ends.items ≡ l.fn.ring_ends.items ++ offsets (length l.fn.points.items) (map outline so_far))
