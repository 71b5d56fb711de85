use Rattle.std.proofs.Common.{◌^◌, ◌*ℤ◌, arith, FitsSigned}
use Rattle.std.specs.Int.{w128}
use Rattle.std.proofs.lemmas.Int.{ints, to_z-of_z, fits_signed_mul}
use Rattle.plane.proofs.MeetLemmas.Identities.{product_upto, abs_upto}
use Rattle.plane.proofs.vectors.product.Goals as goal

pub returns-clause-upto : goal.returns-clause-upto
returns-clause-upto c =
    let one = c.ranges.one in
    let other = c.ranges.other in
    let wide_one : FitsSigned w128 c.args.one = omega (arith, ints) in
    let wide_other : FitsSigned w128 c.args.other = omega (arith, ints) in
    let wide : FitsSigned w128 (c.args.one *ℤ c.args.other) =
    fits_signed_mul w128 c.args.one c.args.other (2 ^ 63) (2 ^ 63) (abs_upto c.args.one one) (abs_upto c.args.other other) (omega arith) in
    simp to_z-of_z (product_upto c.args.one c.args.other one other)
