use Rattle.std.proofs.Common.{◌≡◌, ◌++◌, map}
use Rattle.std.specs.List.{range_with_len}
use Rattle.wkb.specs.Coordinates.{position}
use Rattle.wkb.proofs.coordinates.append_positions.Given as goal

abbrev pub invariant-loop-index : goal.invariant-loop-index
invariant-loop-index g l = l.positions.items ≡ l.fn.positions.items ++ map (position l.bytes l.ring) (range_with_len 0 l.index)
