use Rattle.std.proofs.Common.{◌≡◌, ◌++◌, length, drop, map}
use Rattle.std.specs.List.{flat_map}
use Rattle.noding.specs.Offsets.{offsets}
use Rattle.uses.specs.Masks.{corners}
use Rattle.uses.proofs.free_of_masks.rings_of.Given as goal

-- the points that are there and the corners of the rectangles left are those of all, and so are the ends
abbrev pub invariant-loop-rectangle : goal.invariant-loop-rectangle
invariant-loop-rectangle l =
    let left = drop l.rectangle-index l.rectangles in
    (l.points.items ++ flat_map corners left ≡ flat_map corners l.rectangles)
    × (l.ends.items ++ offsets (length l.points.items) (map corners left) ≡ offsets 0 (map corners l.rectangles))
