use Rattle.std.proofs.Common.{◌≡◌, ◌+◌, ◌++◌, drop}
use Rattle.plane.specs.Lists.{Extends}
use Rattle.overlay.specs.Grouping.{ends_from}
use Rattle.overlay.proofs.grouping.appending.append_polygon_ends.Given as goal

-- the ends that are there and those of the rings left are those before and those of all
abbrev pub invariant-loop-ring : goal.invariant-loop-ring
invariant-loop-ring g l =
    (l.polygon_ends.items ++ ends_from l.end (drop l.ring-index l.ring-items) ≡ l.fn.polygon_ends.items ++ ends_from (l.fn.first + 1) l.ring-items)
    × (l.end ≡ l.fn.first + 1 + l.ring-index)
    × Extends l.fn.polygon_ends.items l.polygon_ends.items
