use Rattle.std.proofs.Common.{take}
use Rattle.std.specs.List.{All}
use Rattle.noding.specs.Stops.{LiesOnItsEdge}
use Rattle.noding.proofs.local.lie_on_edges.Given as goal

-- the stops so far lie on their edges
abbrev pub invariant-loop-stop : goal.invariant-loop-stop
invariant-loop-stop l = All (LiesOnItsEdge l.edges) (take l.stop-index l.stops)
