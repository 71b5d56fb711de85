use Rattle.std.proofs.Common.{◌+◌, ◌-◌, ◌^◌, ◌<◌, ◌≤◌, ◌↔◌, drop}
use Rattle.grid.specs.Places.{number_of}
use Rattle.grid.proofs.direction.places.is_greater.Given as goal

-- The carries, with the places that are left, compare as the numbers do.
abbrev pub invariant-loop-i : goal.invariant-loop-i
invariant-loop-i l = record {
  greater : l.greater ≤ 1;
  one : l.one_carry ≤ 2 ^ 96 - 1;
  other : l.other_carry ≤ 2 ^ 96 - 1;
  compares : (number_of l.other < number_of l.one) ↔ (l.other_carry + number_of (drop l.i l.other) < l.one_carry + number_of (drop l.i l.one) + l.greater);
}
