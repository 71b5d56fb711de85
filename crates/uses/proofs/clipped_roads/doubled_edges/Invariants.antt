use Rattle.std.proofs.Common.{◌≡◌, ◌++◌, drop, map}
use Rattle.uses.specs.Roads.{double}
use Rattle.uses.proofs.clipped_roads.doubled_edges.Given as goal

-- the edges that are there and those left, doubled, are those of all
abbrev pub invariant-loop-edge : goal.invariant-loop-edge
invariant-loop-edge l = l.doubled.items ++ map double (drop l.edge-index l.edges) ≡ map double l.edges
