use Rattle.std.proofs.Common.{take}
use Rattle.std.specs.List.{All}
use Rattle.overlay_tests.specs.Walks.{MeetAtEndsAlone}
use Rattle.overlay_tests.proofs.walks.meets_each.Given as goal

-- those so far
abbrev pub invariant-loop-other : goal.invariant-loop-other
invariant-loop-other l = All (MeetAtEndsAlone l.fn.edge) (take l.other-index l.others)
