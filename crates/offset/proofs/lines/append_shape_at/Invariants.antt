use Rattle.std.proofs.Common.{◌≡◌, ◌++◌, map, take}
use Rattle.offset.specs.Raw.{moved_edge}
use Rattle.offset.specs.Shape.{sides}
use Rattle.offset.proofs.lines.append_shape_at.Given as goal

-- the sides so far
abbrev pub invariant-loop-index : goal.invariant-loop-index
invariant-loop-index g l = l.edges.items ≡ (l.fn.edges.items ++ map (moved_edge l.point) (take l.index (sides l.shape)))
