use Rattle.std.proofs.Common.{◌≡◌, ◌++◌, map, take}
use Rattle.plane.specs.Ends.{end_of}
use Rattle.layers.proofs.lines.joining.append_ends.Given as goal

abbrev pub invariant-loop-edge : goal.invariant-loop-edge
invariant-loop-edge g l = l.points.items ≡ l.fn.points.items ++ map end_of (take l.edge-index l.edges)
