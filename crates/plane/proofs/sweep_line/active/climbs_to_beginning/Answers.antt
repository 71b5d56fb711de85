use Rattle.std.proofs.Common.{◌≡◌, ◌≢◌, ◌∙◌, ap, rules, w32, FitsSigned}
use Rattle.std.proofs.lemmas.Int.{to_z-of_z}
use Rattle.std.specs.Ordering.{int_cmp}
use Rattle.std.specs.declared.cmp.Ordering.{Ordering}
use Rattle.plane.specs.declared.point.Point.{Point}
use Rattle.plane.specs.SweepLine.Heights.{height_by_runs}
use Rattle.plane.specs.SweepLine.Active.{then_cmp, cmp_behind, common_start}
use Rattle.plane.specs.declared.sweep_line.active.ActiveEdge.{ActiveEdge}
use Rattle.plane.proofs.SweepLineLemmas.Active.{then_cmp-differ, then_cmp-same}
use Rattle.plane.proofs.SweepLineLemmas.Comparisons.{starts-later}
use Rattle.plane.proofs.sweep_line.active.climbs_to_beginning.Goals as goal

abbrev heights : ActiveEdge → ActiveEdge → Ordering
heights one other = int_cmp (height_by_runs one.edge other.edge (common_start one other)) (height_by_runs other.edge one.edge (common_start one other))

pub returns-then-climbs : goal.returns-then-climbs
returns-then-climbs c =
    let other = c.args.other in
    let beginning = c.args.beginning in
    let climbs = c.climbs_to_point-climbs.result in
    let behind = cmp_behind other beginning in
    let first : int_cmp climbs.edge climbs.point ≡ heights other beginning =
    starts-later other.edge beginning.edge c.start_of.result (int_cmp climbs.edge climbs.point) c.requires.begun c.requires.beginning_right (ap (λ (p : Point). p.x) c.start_of.ensures) (ap (λ (p : Point). p.y) c.start_of.ensures) c.climbs_to_point-climbs.ensures in
    let same : climbs.edge ≡ climbs.point = search rules in
    let x0_fits : FitsSigned w32 c.args.other.edge.x0 = search rules in
    let y0_fits : FitsSigned w32 c.args.other.edge.y0 = search rules in
    let x1_fits : FitsSigned w32 c.args.other.edge.x1 = search rules in
    let y1_fits : FitsSigned w32 c.args.other.edge.y1 = search rules in
    let told : c.compare_touching.result ≡ cmp_behind other c.copy_of.result = simp to_z-of_z at c.compare_touching.ensures in
    c.climbs_of.ensures ∙ told ∙ ap (λ (edge : ActiveEdge). cmp_behind other edge) c.copy_of.ensures
    ∙ then_cmp-same climbs.edge climbs.point behind same
    ∙ ap (λ (o : Ordering). then_cmp o behind) first

pub returns : goal.returns
returns c =
    let other = c.args.other in
    let beginning = c.args.beginning in
    let climbs = c.climbs_to_point-climbs.result in
    let behind = cmp_behind other beginning in
    let first : int_cmp climbs.edge climbs.point ≡ heights other beginning =
    starts-later other.edge beginning.edge c.start_of.result (int_cmp climbs.edge climbs.point) c.requires.begun c.requires.beginning_right (ap (λ (p : Point). p.x) c.start_of.ensures) (ap (λ (p : Point). p.y) c.start_of.ensures) c.climbs_to_point-climbs.ensures in
    let differ : climbs.edge ≢ climbs.point = search rules in
    then_cmp-differ climbs.edge climbs.point behind differ ∙ ap (λ (o : Ordering). then_cmp o behind) first
