use Rattle.std.proofs.Common.{◌≡◌, ◌++◌, take}
use Rattle.std.specs.List.{flat_map}
use Rattle.wkb.specs.Spelling.{place}
use Rattle.wkb.proofs.writing.put_positions.Given as goal

abbrev pub invariant-loop-position : goal.invariant-loop-position
invariant-loop-position g l = l.bytes.items ≡ l.fn.bytes.items ++ flat_map place (take l.position-index l.positions)
