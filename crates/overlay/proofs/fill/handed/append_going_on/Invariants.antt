use Rattle.std.proofs.Common.{◌≡◌, ◌++◌, take}
use Rattle.std.specs.List.{filter}
use Rattle.overlay.specs.Fill.Few.{goes_on}
use Rattle.overlay.proofs.fill.handed.append_going_on.Given as goal

-- those so far that go on are appended
abbrev pub invariant-loop-piece : goal.invariant-loop-piece
invariant-loop-piece g l = l.live.items ≡ l.fn.live.items ++ filter (goes_on l.point.x) (take l.piece-index l.since)
