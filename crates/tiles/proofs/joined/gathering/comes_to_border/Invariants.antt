use Rattle.std.proofs.Common.{◌≡◌, false, take}
use Rattle.std.specs.List.{list_any}
use Rattle.tiles.specs.Part.{is_at_border}
use Rattle.tiles.proofs.joined.gathering.comes_to_border.Given as goal

-- none of those so far does
abbrev pub invariant-loop-point : goal.invariant-loop-point
invariant-loop-point l = list_any (is_at_border l.window) (take l.point-index l.points) ≡ false
