use Rattle.std.proofs.Common.{◌≤◌, ◌<◌, ℕ}
use Rattle.std.specs.List.{slice_index}
use Rattle.wkb.specs.Spelling.{start_of}
use Rattle.wkb.proofs.writing.are_ends.Given as goal

abbrev pub invariant-loop-index : goal.invariant-loop-index
invariant-loop-index l = (k : ℕ) → k < l.index → (start_of l.ends k ≤ slice_index l.ends k) × (slice_index l.ends k ≤ l.limit)
