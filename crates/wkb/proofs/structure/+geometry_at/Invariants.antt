use Rattle.std.proofs.Common.{◌≡◌, ◌-◌, ◌≤◌, length}
use Rattle.wkb.specs.Format.{with_front, geometry_at, parts_at}
use Rattle.wkb.proofs.structure.+geometry_at.Given as goal

abbrev pub decreases-geometry_at : goal.decreases-geometry_at
decreases-geometry_at g l = l.most_nested

abbrev pub invariant-loop : goal.invariant-loop
invariant-loop g l = record {
  within : l.end ≤ length l.bytes;
  found : with_front l.rings.items (parts_at (geometry_at (l.most_nested - 1) l.bytes) (l.count - l.counter) l.end) ≡ with_front l.fn.rings.items (parts_at (geometry_at (l.most_nested - 1) l.bytes) l.count l.initial.end);
}
