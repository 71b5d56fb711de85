use Rattle.std.proofs.Common.{◌≢◌, take}
use Rattle.std.specs.List.{All}
use Rattle.noding.proofs.columns.ends.has_upright.Given as goal

-- none so far is
abbrev pub invariant-loop-edge : goal.invariant-loop-edge
invariant-loop-edge l = All (λ edge. edge.x0 ≢ edge.x1) (take l.edge-index l.edges)
