use Rattle.std.proofs.Common.{◌≡◌, ◌^◌, ◌-ℤ◌, ◌*ℤ◌, pos, ap₂, ◌∙◌, arith, rules, FitsSigned}
use Rattle.std.specs.Int.{w64, w128}
use Rattle.std.proofs.lemmas.Int.{ints, to_z-of_z}
use Rattle.plane.specs.Meet.Crosses.{IsWithin, cross}
use Rattle.plane.specs.SweepLine.Heights.{height_by_runs, run}
use Rattle.plane.proofs.MeetLemmas.Identities.{IsWithin-product}
use Rattle.plane.proofs.ColumnLemmas.FirstAbove.{height_crossed}
use Rattle.plane.proofs.columns.moments.height_by_runs.Goals as goal

pub overflow_mul-result : goal.overflow_mul-result
overflow_mul-result c =
    let height = c.cross_product.result in
    let goes = c.difference.result in
    let within : IsWithin (2 ^ 97) (height *ℤ goes) = IsWithin-product height goes (2 ^ 65) (2 ^ 32) c.cross_product.ensures.within c.difference.ensures.within in
    let from = within.from in
    let upto = within.upto in
    let height_fits : FitsSigned w128 height = record { sfits = c.cross_product.type_inv } in
    let goes_fits : FitsSigned w64 goes = record { sfits = c.difference.type_inv } in
    let goes_wide : FitsSigned w128 goes = omega (arith, ints, c.difference.ensures.within.from, c.difference.ensures.within.upto) in
    let wide : FitsSigned w128 (height *ℤ goes) = omega (arith, ints, from, upto) in
    simp to_z-of_z wide

pub returns-clause-value : goal.returns-clause-value
returns-clause-value c =
    let height = c.cross_product.result in
    let goes = c.difference.result in
    let within : IsWithin (2 ^ 97) (height *ℤ goes) = IsWithin-product height goes (2 ^ 65) (2 ^ 32) c.cross_product.ensures.within c.difference.ensures.within in
    let from = within.from in
    let upto = within.upto in
    let height_fits : FitsSigned w128 height = record { sfits = c.cross_product.type_inv } in
    let goes_fits : FitsSigned w64 goes = record { sfits = c.difference.type_inv } in
    let goes_wide : FitsSigned w128 goes = omega (arith, ints, c.difference.ensures.within.from, c.difference.ensures.within.upto) in
    let wide : FitsSigned w128 (height *ℤ goes) = omega (arith, ints, from, upto) in
    let runs : goes ≡ run c.args.other = search rules in
    let first : c.vector_between-to_end.result.x ≡ (c.args.edge.x1 -ℤ c.args.x) = search rules in
    let second : c.vector_between-to_end.result.y ≡ (c.args.edge.y1 -ℤ pos 0) = search rules in
    let third : c.vector_between-to_start.result.x ≡ (c.args.edge.x0 -ℤ c.args.x) = search rules in
    let fourth : c.vector_between-to_start.result.y ≡ (c.args.edge.y0 -ℤ pos 0) = search rules in
    let crossed : height ≡ cross c.vector_between-to_end.result.x c.vector_between-to_end.result.y c.vector_between-to_start.result.x c.vector_between-to_start.result.y = search rules in
    let is : (height *ℤ goes) ≡ height_by_runs c.args.edge c.args.other c.args.x =
    ap₂ (◌*ℤ◌) (crossed ∙ ap₂ (◌-ℤ◌) (ap₂ (◌*ℤ◌) first fourth) (ap₂ (◌*ℤ◌) second third) ∙ height_crossed c.args.edge c.args.x) runs in
    simp to_z-of_z is

pub returns-clause-within : goal.returns-clause-within
returns-clause-within c =
    let height = c.cross_product.result in
    let goes = c.difference.result in
    let within : IsWithin (2 ^ 97) (height *ℤ goes) = IsWithin-product height goes (2 ^ 65) (2 ^ 32) c.cross_product.ensures.within c.difference.ensures.within in
    let from = within.from in
    let upto = within.upto in
    let height_fits : FitsSigned w128 height = record { sfits = c.cross_product.type_inv } in
    let goes_fits : FitsSigned w64 goes = record { sfits = c.difference.type_inv } in
    let goes_wide : FitsSigned w128 goes = omega (arith, ints, c.difference.ensures.within.from, c.difference.ensures.within.upto) in
    let wide : FitsSigned w128 (height *ℤ goes) = omega (arith, ints, from, upto) in
    simp to_z-of_z within
