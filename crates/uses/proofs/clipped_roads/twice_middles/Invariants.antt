use Rattle.std.proofs.Common.{◌≡◌, ◌++◌, drop, map}
use Rattle.uses.specs.Roads.{twice_middle}
use Rattle.uses.proofs.clipped_roads.twice_middles.Given as goal

-- the middles that are there and those of the edges left are those of all
abbrev pub invariant-loop-edge : goal.invariant-loop-edge
invariant-loop-edge l = l.middles.items ++ map twice_middle (drop l.edge-index l.edges) ≡ map twice_middle l.edges
