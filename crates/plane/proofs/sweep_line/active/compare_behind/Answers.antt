use Rattle.std.proofs.Common.{◌≡◌, ◌∙◌, sym, ap}
use Rattle.std.specs.Ordering.{int_cmp, nat_cmp}
use Rattle.std.specs.declared.cmp.Ordering.{Ordering}
use Rattle.plane.specs.SweepLine.Heights.{rise_by_run}
use Rattle.plane.specs.SweepLine.Active.{then_cmp}
use Rattle.plane.specs.declared.sweep_line.active.ActiveEdge.{ActiveEdge}
use Rattle.plane.proofs.SweepLineLemmas.Active.{then_cmp-unequal, then_cmp-equal}
use Rattle.plane.proofs.sweep_line.active.compare_behind.Goals as goal

abbrev slopes : ActiveEdge → ActiveEdge → Ordering
slopes one other = int_cmp (rise_by_run one.edge other.edge) (rise_by_run other.edge one.edge)

abbrev begins : ActiveEdge → ActiveEdge → Ordering
begins one other = int_cmp one.edge.x0 other.edge.x0

abbrev places : ActiveEdge → ActiveEdge → Ordering
places one other = nat_cmp one.place other.place

pub returns-then-ne : goal.returns-then-ne
returns-then-ne c =
    let one = c.args.one in
    let other = c.args.other in
    let rest = then_cmp (begins one other) (places one other) in
    then_cmp-unequal c.compare_slopes-slopes.result rest (sym c.ne.ensures ∙ c.if-ne.true)
    ∙ ap (λ (o : Ordering). then_cmp o rest) c.compare_slopes-slopes.ensures

pub returns-then-ne-2 : goal.returns-then-ne-2
returns-then-ne-2 c =
    let one = c.args.one in
    let other = c.args.other in
    let second : c.cmp-begins.result ≡ begins one other = c.cmp-begins.ensures in
    let rest = then_cmp (begins one other) (places one other) in
    then_cmp-unequal c.cmp-begins.result (places one other) (sym c.ne-2.ensures ∙ c.if-ne-2.true)
    ∙ ap (λ (o : Ordering). then_cmp o (places one other)) second
    ∙ then_cmp-equal c.compare_slopes-slopes.result rest (sym c.ne.ensures ∙ c.if-ne.false)
    ∙ ap (λ (o : Ordering). then_cmp o rest) c.compare_slopes-slopes.ensures

pub returns : goal.returns
returns c =
    let one = c.args.one in
    let other = c.args.other in
    let second : c.cmp-begins.result ≡ begins one other = c.cmp-begins.ensures in
    let rest = then_cmp (begins one other) (places one other) in
    c.cmp.ensures
    ∙ then_cmp-equal c.cmp-begins.result (places one other) (sym c.ne-2.ensures ∙ c.if-ne-2.false)
    ∙ ap (λ (o : Ordering). then_cmp o (places one other)) second
    ∙ then_cmp-equal c.compare_slopes-slopes.result rest (sym c.ne.ensures ∙ c.if-ne.false)
    ∙ ap (λ (o : Ordering). then_cmp o rest) c.compare_slopes-slopes.ensures
