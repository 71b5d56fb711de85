use Rattle.std.proofs.Common.{◌≡◌, ◌-ℤ◌, ◌*ℤ◌, ap₂, ◌∙◌, rules, FitsSigned}
use Rattle.std.specs.Int.{w128}
use Rattle.std.proofs.lemmas.Int.{to_z-of_z}
use Rattle.std.specs.Ordering.{int_cmp}
use Rattle.plane.specs.SweepLine.Heights.{run, rise}
use Rattle.plane.proofs.SweepLineLemmas.Comparisons.{cmp-from_start}
use Rattle.plane.proofs.sweep_line.heights.climbs_to_point.Goals as goal

pub returns : goal.returns
returns c =
    let edge = c.args.edge in
    let point = c.args.point in
    let rises : c.difference.result ≡ rise edge = search rules in
    let goes : c.difference-2.result ≡ (point.x -ℤ edge.x0) = search rules in
    let point_rises : c.difference-3.result ≡ (point.y -ℤ edge.y0) = search rules in
    let runs : c.difference-4.result ≡ run edge = search rules in
    let climb : c.product-climb.result ≡ (c.difference.result *ℤ c.difference-2.result) = search rules in
    let point_climb : c.product-point_climb.result ≡ (c.difference-3.result *ℤ c.difference-4.result) = search rules in
    let fits : FitsSigned w128 c.product-climb.result = search rules in
    let point_fits : FitsSigned w128 c.product-point_climb.result = search rules in
    simp to_z-of_z (ap₂ int_cmp (climb ∙ ap₂ (◌*ℤ◌) rises goes) (point_climb ∙ ap₂ (◌*ℤ◌) point_rises runs) ∙ cmp-from_start edge point)
