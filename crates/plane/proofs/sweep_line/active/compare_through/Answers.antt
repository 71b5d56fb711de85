use Rattle.std.proofs.Common.{◌≡◌, ◌∙◌, ap, rules, w32, FitsSigned}
use Rattle.std.proofs.lemmas.Int.{to_z-of_z}
use Rattle.plane.specs.SweepLine.Active.{active_edge, cmp_active}
use Rattle.plane.specs.declared.sweep_line.active.ActiveEdge.{ActiveEdge}
use Rattle.plane.proofs.sweep_line.active.compare_through.Goals as goal

pub returns : goal.returns
returns c =
    let x0_fits : FitsSigned w32 c.args.x0 = search rules in
    let y0_fits : FitsSigned w32 c.args.y0 = search rules in
    let x1_fits : FitsSigned w32 c.args.x1 = search rules in
    let y1_fits : FitsSigned w32 c.args.y1 = search rules in
    let is : c.active_edge.result ≡ active_edge c.args.x0 c.args.y0 c.args.x1 c.args.y1 c.args.place = simp to_z-of_z at c.active_edge.ensures in
    c.compare_active.ensures ∙ ap (λ (edge : ActiveEdge). cmp_active edge c.args.ending) is
