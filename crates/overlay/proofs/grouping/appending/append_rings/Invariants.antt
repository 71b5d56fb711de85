use Rattle.std.proofs.Common.{◌≡◌, ◌++◌, length, map, take}
use Rattle.std.specs.List.{flat_map}
use Rattle.overlay.specs.Contours.Outlines.{outline}
use Rattle.noding.specs.Offsets.{offsets}
use Rattle.overlay.specs.Grouping.{ring_in}
use Rattle.overlay.proofs.grouping.appending.append_rings.Given as goal

-- the outlines of the rings so far are appended, and where each stops
abbrev pub invariant-loop-ring : goal.invariant-loop-ring
invariant-loop-ring g l =
    let rings = take l.ring-index (map (ring_in l.points) l.order) in
    (l.out.items ≡ l.fn.out.items ++ flat_map outline rings)
    × (l.ring_ends.items ≡ l.fn.ring_ends.items ++ offsets (length l.fn.out.items) (map outline rings))
