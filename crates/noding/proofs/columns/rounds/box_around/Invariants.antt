use Rattle.std.proofs.Common.{take}
use Rattle.std.specs.List.{All}
use Rattle.noding.specs.Columns.Rounds.{IsWithin}
use Rattle.noding.proofs.columns.rounds.box_around.Given as goal

-- the points so far lie in it
abbrev pub invariant-loop-point : goal.invariant-loop-point
invariant-loop-point l = All (IsWithin l.around) (take l.point-index l.points)
