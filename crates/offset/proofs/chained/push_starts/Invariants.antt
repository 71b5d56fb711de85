use Rattle.std.proofs.Common.{◌≡◌, ◌++◌, map, take}
use Rattle.plane.specs.Ends.{start_of}
use Rattle.offset.proofs.chained.push_starts.Given as goal

-- where the edges so far begin
abbrev pub invariant-loop-edge : goal.invariant-loop-edge
invariant-loop-edge g l = l.points.items ≡ (l.fn.points.items ++ map start_of (take l.edge-index l.edges))
