use Rattle.std.proofs.Common.{◌≤◌}
use Rattle.overlay.specs.Fill.Rules.{is_result}
use Rattle.overlay.proofs.KeptLemmas.Swept.{HasSwept}
use Rattle.overlay.proofs.fill.kept.append_by_status.Given as goal

-- how far the sweep has come; the status has no less room
abbrev pub invariant-loop-place : goal.invariant-loop-place
invariant-loop-place g l =
    HasSwept (λ counts. is_result l.choice.rule l.choice.operation counts.subject counts.clip) l.fn.pieces l.place (g.C.StatusCollection.stored l.status) l.above.items l.fn.out.items l.out.items
    × (g.C.StatusCollection.room l.fn.status ≤ g.C.StatusCollection.room l.status)
