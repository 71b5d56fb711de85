use Rattle.std.proofs.Common.{take}
use Rattle.std.specs.List.{All}
use Rattle.tiles.specs.Window.{IsWithin}
use Rattle.tiles.proofs.joined.checks.has_all.Given as goal

-- those so far lie within
abbrev pub invariant-loop-point : goal.invariant-loop-point
invariant-loop-point l = All (IsWithin l.window) (take l.point-index l.points)
