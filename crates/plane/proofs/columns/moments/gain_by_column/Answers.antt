use Rattle.std.proofs.Common.{◌≡◌, ◌-ℤ◌, ◌*ℤ◌, ap₂, ◌∙◌, arith, rules, FitsSigned}
use Rattle.std.specs.Int.{w128}
use Rattle.std.proofs.lemmas.Int.{ints, to_z-of_z}
use Rattle.plane.specs.SweepLine.Heights.{run, rise, rise_by_run}
use Rattle.plane.proofs.columns.moments.gain_by_column.Goals as goal

pub overflow_sub-result : goal.overflow_sub-result
overflow_sub-result c =
    let one : FitsSigned w128 c.product-rise.result = record { sfits = c.product-rise.type_inv } in
    let other : FitsSigned w128 c.product-other_rise.result = record { sfits = c.product-other_rise.type_inv } in
    let within = c.product-rise.ensures in
    let other_within = c.product-other_rise.ensures in
    let wide : FitsSigned w128 (c.product-rise.result -ℤ c.product-other_rise.result) = omega (arith, ints, within.above, within.upto, other_within.above, other_within.upto) in
    simp to_z-of_z wide

pub returns : goal.returns
returns c =
    let below = c.args.below in
    let above = c.args.above in
    let rises : c.difference.result ≡ rise below = search rules in
    let other_runs : c.difference-2.result ≡ run above = search rules in
    let other_rises : c.difference-3.result ≡ rise above = search rules in
    let runs : c.difference-4.result ≡ run below = search rules in
    let one : c.product-rise.result ≡ c.difference.result *ℤ c.difference-2.result = search rules in
    let other : c.product-other_rise.result ≡ c.difference-3.result *ℤ c.difference-4.result = search rules in
    let fits : FitsSigned w128 c.product-rise.result = record { sfits = c.product-rise.type_inv } in
    let other_fits : FitsSigned w128 c.product-other_rise.result = record { sfits = c.product-other_rise.type_inv } in
    let within = c.product-rise.ensures in
    let other_within = c.product-other_rise.ensures in
    let wide : FitsSigned w128 (c.product-rise.result -ℤ c.product-other_rise.result) = omega (arith, ints, within.above, within.upto, other_within.above, other_within.upto) in
    let is : (c.product-rise.result -ℤ c.product-other_rise.result) ≡ (rise_by_run below above -ℤ rise_by_run above below) =
    ap₂ (◌-ℤ◌) (one ∙ ap₂ (◌*ℤ◌) rises other_runs) (other ∙ ap₂ (◌*ℤ◌) other_rises runs) in
    simp to_z-of_z is
