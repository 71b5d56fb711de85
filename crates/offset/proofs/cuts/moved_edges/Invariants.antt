use Rattle.std.proofs.Common.{map, take, ◌≡◌}
use Rattle.offset.specs.Cuts.{moved_by_furthest}
use Rattle.offset.specs.Shape.{sides}
use Rattle.offset.proofs.cuts.moved_edges.Given as goal

-- those so far
abbrev pub invariant-loop-index : goal.invariant-loop-index
invariant-loop-index g l = l.moved.items ≡ map (moved_by_furthest l.corners) (take l.index (sides l.ring))
