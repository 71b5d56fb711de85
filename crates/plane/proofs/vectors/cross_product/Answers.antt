use Rattle.std.proofs.Common.{◌≡◌, ◌^◌, ◌-ℤ◌, ◌*ℤ◌, arith, rules, FitsSigned}
use Rattle.std.specs.Int.{w128}
use Rattle.std.proofs.lemmas.Int.{ints, to_z-of_z}
use Rattle.plane.specs.Meet.Crosses.{IsWithin}
use Rattle.plane.proofs.MeetLemmas.Identities.{IsWithin-product}
use Rattle.plane.proofs.vectors.cross_product.Goals as goal

pub overflow_sub-result : goal.overflow_sub-result
overflow_sub-result c =
    let one : FitsSigned w128 c.product.result = record { sfits = c.product.type_inv } in
    let other : FitsSigned w128 c.product-2.result = record { sfits = c.product-2.type_inv } in
    let within = c.product.ensures in
    let other_within = c.product-2.ensures in
    let wide : FitsSigned w128 (c.product.result -ℤ c.product-2.result) = omega (arith, ints, within.above, within.upto, other_within.above, other_within.upto) in
    simp to_z-of_z wide

pub returns-clause-value : goal.returns-clause-value
returns-clause-value c =
    let first : c.product.result ≡ (c.args.one.x *ℤ c.args.other.y) = search rules in
    let second : c.product-2.result ≡ (c.args.one.y *ℤ c.args.other.x) = search rules in
    omega (arith, ints, first, second)

pub returns-clause-within : goal.returns-clause-within
returns-clause-within c =
    let first : c.product.result ≡ (c.args.one.x *ℤ c.args.other.y) = search rules in
    let second : c.product-2.result ≡ (c.args.one.y *ℤ c.args.other.x) = search rules in
    let right : IsWithin (2 ^ 64) (c.args.one.x *ℤ c.args.other.y) = IsWithin-product c.args.one.x c.args.other.y (2 ^ 32) (2 ^ 32) c.args.one.x_within c.args.other.y_within in
    let left : IsWithin (2 ^ 64) (c.args.one.y *ℤ c.args.other.x) = IsWithin-product c.args.one.y c.args.other.x (2 ^ 32) (2 ^ 32) c.args.one.y_within c.args.other.x_within in
    record { from = omega (arith, ints, first, second, right.from, left.upto); upto = omega (arith, ints, first, second, right.upto, left.from) }
