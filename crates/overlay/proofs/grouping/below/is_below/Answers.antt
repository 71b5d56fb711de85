use Rattle.std.proofs.Common.{◌≡◌, ◌==◌, refl, ap, ap₂, ◌∙◌}
use Rattle.std.specs.declared.cmp.Ordering.{Ordering}
use Rattle.std.specs.declared.cmp.Ordering.TheVariants.{Less, Equal, Greater}
use Rattle.std.specs.Ordering.{is_lt, ordering_index}
use Rattle.plane.specs.declared.sweep_line.active.ActiveEdge.{ActiveEdge}
use Rattle.plane.specs.SweepLine.Active.{cmp_active}
use Rattle.overlay.proofs.GroupingLemmas.Highest.{lower-told, sides-meet}
use Rattle.overlay.proofs.grouping.below.is_below.Goals as goal

told-less : (o : Ordering) → (ordering_index o == 0) ≡ is_lt o
told-less Less = refl
told-less Equal = refl
told-less Greater = refl

pub returns : goal.returns
returns c = λ rings x noded is is_too over over_too.
    c.eq.ensures ∙ told-less c.compare_active.result
    ∙ ap is_lt (c.compare_active.ensures ∙ ap₂ (λ (one other : ActiveEdge). cmp_active one other) c.active_of.ensures c.active_of-2.ensures)
    ∙ lower-told c.args.one.piece.edge c.args.other.piece.edge x (sides-meet rings c.args.one c.args.other noded is is_too) over over_too
