use Rattle.std.proofs.Common.{◌≡◌, ◌∙◌, sym, ap}
use Rattle.std.specs.Ordering.{int_cmp}
use Rattle.std.specs.declared.cmp.Ordering.{Ordering}
use Rattle.plane.specs.SweepLine.Heights.{height_by_runs}
use Rattle.plane.specs.SweepLine.Active.{then_cmp, cmp_behind, common_start}
use Rattle.plane.specs.declared.sweep_line.active.ActiveEdge.{ActiveEdge}
use Rattle.plane.proofs.SweepLineLemmas.Active.{then_cmp-unequal, then_cmp-equal}
use Rattle.plane.proofs.sweep_line.active.compare_active.Goals as goal

abbrev heights : ActiveEdge → ActiveEdge → Ordering
heights one other = int_cmp (height_by_runs one.edge other.edge (common_start one other)) (height_by_runs other.edge one.edge (common_start one other))

pub returns-then-ne : goal.returns-then-ne
returns-then-ne c =
    let one = c.args.one in
    let other = c.args.other in
    let first : c.compare_starts-heights.result ≡ heights one other = c.compare_starts-heights.ensures in
    then_cmp-unequal c.compare_starts-heights.result (cmp_behind one other) (sym c.ne.ensures ∙ c.if-ne.true)
    ∙ ap (λ (o : Ordering). then_cmp o (cmp_behind one other)) first

pub returns : goal.returns
returns c =
    let one = c.args.one in
    let other = c.args.other in
    let first : c.compare_starts-heights.result ≡ heights one other = c.compare_starts-heights.ensures in
    c.compare_behind.ensures
    ∙ then_cmp-equal c.compare_starts-heights.result (cmp_behind one other) (sym c.ne.ensures ∙ c.if-ne.false)
    ∙ ap (λ (o : Ordering). then_cmp o (cmp_behind one other)) first
