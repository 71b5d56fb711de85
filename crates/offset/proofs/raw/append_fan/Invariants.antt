use Rattle.std.proofs.Common.{◌≡◌, ◌++◌, filter, map, take}
use Rattle.plane.specs.Ends.{end_of}
use Rattle.offset.specs.Raw.{is_of_fan, moved_edge}
use Rattle.offset.specs.Shape.{sides}
use Rattle.offset.proofs.raw.append_fan.Given as goal

-- those of the sides so far
abbrev pub invariant-loop-index : goal.invariant-loop-index
invariant-loop-index g l = l.edges.items ≡ (l.fn.edges.items ++ map (moved_edge (end_of l.edge)) (filter (is_of_fan l.edge l.next) (take l.index (sides l.corners))))
