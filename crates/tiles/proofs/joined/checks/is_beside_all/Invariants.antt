use Rattle.std.proofs.Common.{take}
use Rattle.std.specs.List.{All}
use Rattle.tiles.specs.Join.{AreBeside}
use Rattle.tiles.proofs.joined.checks.is_beside_all.Given as goal

-- those so far are beside the window
abbrev pub invariant-loop-other : goal.invariant-loop-other
invariant-loop-other l = All (AreBeside l.window) (take l.other-index l.others)
