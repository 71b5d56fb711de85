use Rattle.std.proofs.Common.{◌≡◌, ◌++◌, map, take}
use Rattle.overlay.specs.Fill.Verticals.{left_end}
use Rattle.overlay.proofs.fill.verticals.append_left_ends.Given as goal

-- the left ends of the edges so far are appended
abbrev pub invariant-loop-edge : goal.invariant-loop-edge
invariant-loop-edge g l = l.ends.items ≡ l.fn.ends.items ++ map left_end (take l.edge-index l.fn.edges)
