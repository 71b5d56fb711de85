use Rattle.std.proofs.Common.{take}
use Rattle.std.specs.List.{All}
use Rattle.tiles.specs.Window.{HasPoints}
use Rattle.tiles.proofs.joined.checks.have_points.Given as goal

-- some point lies in each window so far
abbrev pub invariant-loop-window : goal.invariant-loop-window
invariant-loop-window l = All HasPoints (take l.window-index l.windows)
