use Rattle.std.proofs.Common.{◌≡◌, map, take}
use Rattle.std.specs.List.{All}
use Rattle.noding.specs.Columns.Passing.{HasHeights, swept_edge}
use Rattle.noding.proofs.columns.passing.swept_edges.Given as goal

-- those so far
abbrev pub invariant-loop-edge : goal.invariant-loop-edge
invariant-loop-edge g l = (l.swept.items ≡ map (swept_edge l.fn.steep) (take l.edge-index l.fn.edges)) × All HasHeights l.swept.items
