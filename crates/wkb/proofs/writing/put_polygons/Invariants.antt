use Rattle.std.proofs.Common.{◌≡◌, ◌++◌, map}
use Rattle.std.specs.List.{flat_map, range_with_len}
use Rattle.wkb.specs.Spelling.{polygon, polygon_of}
use Rattle.wkb.proofs.writing.put_polygons.Given as goal

abbrev pub invariant-loop-index : goal.invariant-loop-index
invariant-loop-index g l = l.bytes.items ≡ l.fn.bytes.items ++ flat_map (polygon l.srid) (map (polygon_of l.positions l.ring_ends l.polygon_ends) (range_with_len 0 l.index))
