use Rattle.std.proofs.Common.{◌≡◌, ℕ, ◌*◌, ◌^◌, ◌≤◌, get_or, drop}
use Rattle.std.specs.Prelude.{◌+ℤ◌}
use Rattle.grid.specs.Area.{twice_area}
use Rattle.grid.specs.Parts.{ArePositionParts}
use Rattle.grid.specs.Places.{left_of}
use Rattle.grid.proofs.AreaLemmas.Along.{sum_between}
use Rattle.grid.proofs.direction.runs_counterclockwise.Given as goal

-- What is left so far, with the edges that are still to come, is twice the area. An edge adds to a place twice at most.
abbrev pub invariant-loop-position : goal.invariant-loop-position
invariant-loop-position l = record {
  sum : twice_area l.ring ≡ (left_of l.added l.taken +ℤ sum_between l.from (drop l.position-index l.rest) l.start);
  from : ArePositionParts l.from;
  added : (k : ℕ) → get_or l.added k 0 ≤ l.position-index * 2 ^ 96;
  taken : (k : ℕ) → get_or l.taken k 0 ≤ l.position-index * 2 ^ 96;
}
