use Rattle.std.proofs.Common.{◌≡◌, ◌-◌, ◌≤◌, length}
use Rattle.wkb.specs.Format.{with_front, part_at, parts_at}
use Rattle.wkb.proofs.structure.parts_at.Given as goal

abbrev pub invariant-loop : goal.invariant-loop
invariant-loop g l = record {
  within : l.end ≤ length l.bytes;
  found : with_front l.rings.items (parts_at (part_at l.bytes) (l.count - l.counter) l.end) ≡ with_front l.fn.rings.items (parts_at (part_at l.bytes) l.count l.place);
}
