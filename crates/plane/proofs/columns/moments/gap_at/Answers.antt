use Rattle.std.proofs.Common.{◌≡◌, ◌-ℤ◌, ap₂, arith, rules, FitsSigned}
use Rattle.std.specs.Int.{w128}
use Rattle.std.proofs.lemmas.Int.{ints, to_z-of_z}
use Rattle.plane.specs.SweepLine.Heights.{height_by_runs as height_of}
use Rattle.plane.proofs.columns.moments.gap_at.Goals as goal

pub overflow_sub-result : goal.overflow_sub-result
overflow_sub-result c =
    let within = c.height_by_runs.ensures.within in
    let other_within = c.height_by_runs-2.ensures.within in
    let wide : FitsSigned w128 (c.height_by_runs.result -ℤ c.height_by_runs-2.result) = omega (arith, ints, within.from, within.upto, other_within.from, other_within.upto) in
    search rules

pub returns : goal.returns
returns c =
    let one : c.height_by_runs.result ≡ height_of c.args.above c.args.below c.args.x = search rules in
    let other : c.height_by_runs-2.result ≡ height_of c.args.below c.args.above c.args.x = search rules in
    let within = c.height_by_runs.ensures.within in
    let other_within = c.height_by_runs-2.ensures.within in
    let fits : FitsSigned w128 c.height_by_runs.result = record { sfits = c.height_by_runs.type_inv } in
    let other_fits : FitsSigned w128 c.height_by_runs-2.result = record { sfits = c.height_by_runs-2.type_inv } in
    let wide : FitsSigned w128 (c.height_by_runs.result -ℤ c.height_by_runs-2.result) = omega (arith, ints, within.from, within.upto, other_within.from, other_within.upto) in
    let is : (c.height_by_runs.result -ℤ c.height_by_runs-2.result) ≡ (height_of c.args.above c.args.below c.args.x -ℤ height_of c.args.below c.args.above c.args.x) = ap₂ (◌-ℤ◌) one other in
    simp to_z-of_z is
