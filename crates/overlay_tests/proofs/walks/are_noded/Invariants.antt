use Rattle.std.proofs.Common.{take}
use Rattle.std.specs.List.{All}
use Rattle.plane.specs.declared.edge.Edge.{Edge}
use Rattle.overlay_tests.specs.Walks.{MeetAtEndsAlone}
use Rattle.overlay_tests.proofs.walks.are_noded.Given as goal

-- those so far, each with all
abbrev pub invariant-loop-edge : goal.invariant-loop-edge
invariant-loop-edge l = All (λ (edge : Edge). All (MeetAtEndsAlone edge) l.edges) (take l.edge-index l.edges)
