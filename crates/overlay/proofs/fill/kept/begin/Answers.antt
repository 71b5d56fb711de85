use Rattle.std.proofs.Common.{◌≢◌, ◌<◌, length, rules}
use Rattle.std.specs.declared.cmp.Ordering.TheVariants.{Greater}
use Rattle.plane.specs.SweepLine.Active.{Entry, cmp_active, live_entries}
use Rattle.overlay.proofs.KeptLemmas.Begun.{last-holds}
use Rattle.overlay.proofs.fill.kept.begin.Goals as goal

pub bounds-above-active : goal.bounds-above-active
bounds-above-active g c =
    last-holds (λ (entry : Entry). entry.0.place < length c.args.above.now) (λ (entry : Entry). cmp_active entry.0 c.args.beginning ≢ Greater)
    (live_entries c.args.beginning.edge.x0 (g.C.StatusCollection.stored c.args.status.now)) c.in_ok-before.before (c.in-Some.active, tt) c.in-Some.is c.requires.places c.in_ok-before.ensures.neighbours.0

pub offset_bounds-above-active : goal.offset_bounds-above-active
offset_bounds-above-active g c = let inside = bounds-above-active g c in search rules
