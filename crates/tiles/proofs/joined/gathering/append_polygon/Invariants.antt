use Rattle.std.proofs.Common.{◌≡◌}
use Rattle.std.specs.List.{between}
use Rattle.tiles.specs.Join.{all_rings}
use Rattle.tiles.proofs.JoinLists.{AreGathered}
use Rattle.tiles.proofs.joined.gathering.append_polygon.Given as goal

-- the rings so far are appended
abbrev pub invariant-loop-ring : goal.invariant-loop-ring
invariant-loop-ring g l =
    AreGathered (between l.first l.ring (all_rings l.rings)) l.fn.out.points.items l.out.points.items l.fn.out.ring_ends.items l.out.ring_ends.items
    × (l.out.polygon_ends.items ≡ l.fn.out.polygon_ends.items)
