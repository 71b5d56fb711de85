use Rattle.std.proofs.Common.{◌≡◌, take}
use Rattle.std.proofs.lemmas.List.Filters.{FiltersInPlace}
use Rattle.overlay.specs.Fill.Few.{counts_upto, goes_on}
use Rattle.overlay.proofs.fill.few.counts_of_active.Given as goal

-- the first pieces are those so far that go on, the counts are what those so far weigh, and the others are as they were
abbrev pub invariant-loop-at : goal.invariant-loop-at
invariant-loop-at l = record {
  packed : FiltersInPlace (goes_on l.point.x) l.fn.active l.active l.kept l.at;
  counts : l.counts ≡ counts_upto l.point (take l.at l.fn.active);
}
