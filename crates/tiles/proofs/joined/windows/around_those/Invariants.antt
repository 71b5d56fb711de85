use Rattle.std.proofs.Common.{take}
use Rattle.tiles.proofs.JoinTests.{IsAround}
use Rattle.tiles.proofs.joined.windows.around_those.Given as goal

-- it is the least one that has the first one and those so far in it
abbrev pub invariant-loop-window : goal.invariant-loop-window
invariant-loop-window l = IsAround l.fn.first l.whole (take l.window-index l.windows)
