use Rattle.std.proofs.Common.{List}
use Rattle.plane.specs.declared.point.Point.{Point}
use Rattle.noding.proofs.ColumnLemmas.Rounds.{IsInRounds}
use Rattle.noding.proofs.columns.rounds.moved_in_rounds.Given as goal

-- some points have moved what they move, and the fresh ones come next
abbrev pub invariant-loop : goal.invariant-loop
invariant-loop g l = (done : List Point) × IsInRounds l.fn.edges done l.fresh.items l.spread.flags.items l.spread.stops.items
