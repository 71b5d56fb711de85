use Rattle.std.proofs.Common.{take}
use Rattle.std.specs.List.{All}
use Rattle.plane.specs.Lines.{IsAlongAxis}
use Rattle.plane.proofs.edge.run_along_axes.Given as goal

-- each edge so far runs along an axis
abbrev pub invariant-loop-edge : goal.invariant-loop-edge
invariant-loop-edge l = All IsAlongAxis (take l.edge-index l.edges)
