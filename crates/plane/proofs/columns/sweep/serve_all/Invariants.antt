use Rattle.std.proofs.Common.{◌≤◌, length}
use Rattle.plane.proofs.ColumnLemmas.Comparing.{ServesComparing}
use Rattle.plane.proofs.ColumnLemmas.SweepServed.{IsServed}
use Rattle.plane.proofs.columns.sweep.serve_all.Given as goal

-- the events gone through are served
abbrev pub invariant-loop-event : goal.invariant-loop-event
invariant-loop-event g l = record {
  served : IsServed l.edges l.asked l.event-items l.event-index l.columns.status l.columns.exchanges l.columns.crossed.items l.met.items;
  within : l.event-index ≤ length l.event-items;
  steps : ServesComparing g.C.Counter.made l.fn.steps l.steps (length l.edges) l.event-index l.columns.crossed.items l.met.items;
}
