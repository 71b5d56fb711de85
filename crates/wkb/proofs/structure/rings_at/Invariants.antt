use Rattle.std.proofs.Common.{◌≡◌, ◌-◌, ◌≤◌, length}
use Rattle.std.specs.Prelude.{nat_lt, false}
use Rattle.wkb.specs.Format.{with_front, rings_at}
use Rattle.wkb.proofs.structure.rings_at.Given as goal

abbrev pub invariant-loop-index : goal.invariant-loop-index
invariant-loop-index g l = record {
  within : l.end ≤ length l.bytes;
  found : with_front l.rings.items (rings_at l.header (nat_lt 0 l.index) (l.count - l.index) l.bytes l.end) ≡ with_front l.fn.rings.items (rings_at l.header false l.count l.bytes l.place);
}
