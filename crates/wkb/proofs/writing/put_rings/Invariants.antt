use Rattle.std.proofs.Common.{◌≡◌, ◌++◌, ◌-◌, map}
use Rattle.std.specs.List.{flat_map, range_with_len}
use Rattle.wkb.specs.Spelling.{ring, ring_of}
use Rattle.wkb.proofs.writing.put_rings.Given as goal

abbrev pub invariant-loop-index : goal.invariant-loop-index
invariant-loop-index g l = l.bytes.items ≡ l.fn.bytes.items ++ flat_map ring (map (ring_of l.positions l.ring_ends) (range_with_len l.start (l.index - l.start)))
