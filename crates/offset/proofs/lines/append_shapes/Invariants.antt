use Rattle.std.proofs.Common.{◌≡◌, ◌++◌, take}
use Rattle.std.specs.List.{flat_map}
use Rattle.offset.specs.Lines.{shape_at}
use Rattle.offset.proofs.lines.append_shapes.Given as goal

-- those of the points so far
abbrev pub invariant-loop-index : goal.invariant-loop-index
invariant-loop-index g l = l.edges.items ≡ (l.fn.edges.items ++ flat_map (shape_at l.shape) (take l.index l.points))
