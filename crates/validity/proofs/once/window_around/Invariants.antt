use Rattle.std.proofs.Common.{take}
use Rattle.std.specs.List.{All}
use Rattle.tiles.specs.Window.{HasPoints, IsWithin}
use Rattle.validity.proofs.once.window_around.Given as goal

-- it has those so far
abbrev pub invariant-loop-point : goal.invariant-loop-point
invariant-loop-point l = HasPoints l.window × All (IsWithin l.window) (take l.point-index l.points)
