use Rattle.std.proofs.Common.{◌≡◌, ◌∙◌, ap, subst, rules, w32, FitsSigned}
use Rattle.std.proofs.lemmas.Int.{to_z-of_z}
use Rattle.std.specs.Ordering.{int_cmp}
use Rattle.std.specs.declared.cmp.Ordering.{Ordering}
use Rattle.plane.specs.declared.point.Point.{Point}
use Rattle.plane.specs.Ends.{end_of}
use Rattle.plane.specs.SweepLine.Active.{then_cmp, cmp_active, cmp_to_point}
use Rattle.plane.specs.declared.sweep_line.active.ActiveEdge.{ActiveEdge}
use Rattle.plane.proofs.SweepLineLemmas.Active.{then_cmp-same}
use Rattle.plane.proofs.sweep_line.active.climbs_to_ending.Goals as goal

pub returns-then-climbs : goal.returns-then-climbs
returns-then-climbs c =
    let other = c.args.other in
    let ending = c.args.ending in
    let climbs = c.climbs_to_point-climbs.result in
    let through = cmp_active other ending in
    let first : int_cmp climbs.edge climbs.point ≡ cmp_to_point (end_of ending.edge) other = subst (λ (point : Point). int_cmp climbs.edge climbs.point ≡ cmp_to_point point other) c.end_of.ensures c.climbs_to_point-climbs.ensures in
    let same : climbs.edge ≡ climbs.point = search rules in
    let x0_fits : FitsSigned w32 c.args.other.edge.x0 = search rules in
    let y0_fits : FitsSigned w32 c.args.other.edge.y0 = search rules in
    let x1_fits : FitsSigned w32 c.args.other.edge.x1 = search rules in
    let y1_fits : FitsSigned w32 c.args.other.edge.y1 = search rules in
    let told : c.compare_through.result ≡ cmp_active other c.copy_of.result = simp to_z-of_z at c.compare_through.ensures in
    c.climbs_of.ensures ∙ told ∙ ap (λ (edge : ActiveEdge). cmp_active other edge) c.copy_of.ensures
    ∙ then_cmp-same climbs.edge climbs.point through same
    ∙ ap (λ (o : Ordering). then_cmp o through) first
