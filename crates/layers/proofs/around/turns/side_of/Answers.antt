use Rattle.std.proofs.Common.{SFits, w32, w64, ◌≡◌, ◌-ℤ◌, ◌*ℤ◌, pos, arith, rules}
use Rattle.std.specs.Int.{w128}
use Rattle.std.proofs.lemmas.Int.{ints, to_z-of_z}
use Rattle.layers.proofs.around.turns.side_of.Goals as goal

pub overflow_sub-point-2 : goal.overflow_sub-point-2
overflow_sub-point-2 c =
    let at : SFits w64 c.args.point.twice_x = search rules in
    let first : SFits w64 c.twice-x.result = search rules in
    let x : SFits w32 c.args.from.x = search rules in
    let is : c.twice-x.result ≡ pos 2 *ℤ c.args.from.x = simp to_z-of_z at c.twice-x.ensures in
    let from = c.args.point.x_within.from in
    let upto = c.args.point.x_within.upto in
    simp to_z-of_z (omega (arith, ints))

pub overflow_sub-result : goal.overflow_sub-result
overflow_sub-result c =
    let one : SFits w128 c.product.result = search rules in
    let other : SFits w128 c.product-2.result = search rules in
    let above = c.product.ensures.above in
    let upto = c.product.ensures.upto in
    let above2 = c.product-2.ensures.above in
    let upto2 = c.product-2.ensures.upto in
    simp to_z-of_z (omega (arith, ints))

pub returns : goal.returns
returns c =
    let one : SFits w128 c.product.result = search rules in
    let other : SFits w128 c.product-2.result = search rules in
    let above = c.product.ensures.above in
    let upto = c.product.ensures.upto in
    let above2 = c.product-2.ensures.above in
    let upto2 = c.product-2.ensures.upto in
    let both : SFits w128 (c.product.result -ℤ c.product-2.result) = omega (arith, ints) in
    let at_x : SFits w64 c.args.point.twice_x = search rules in
    let at_y : SFits w64 c.args.point.twice_y = search rules in
    let first_x : SFits w64 c.twice-x.result = search rules in
    let first_y : SFits w64 c.twice-y.result = search rules in
    let last_x : SFits w64 c.twice.result = search rules in
    let last_y : SFits w64 c.twice-2.result = search rules in
    let x : SFits w32 c.args.from.x = search rules in
    let y : SFits w32 c.args.from.y = search rules in
    let to_x : SFits w32 c.args.to.x = search rules in
    let to_y : SFits w32 c.args.to.y = search rules in
    let x_is : c.twice-x.result ≡ pos 2 *ℤ c.args.from.x = simp to_z-of_z at c.twice-x.ensures in
    let y_is : c.twice-y.result ≡ pos 2 *ℤ c.args.from.y = simp to_z-of_z at c.twice-y.ensures in
    let to_x_is : c.twice.result ≡ pos 2 *ℤ c.args.to.x = simp to_z-of_z at c.twice.ensures in
    let to_y_is : c.twice-2.result ≡ pos 2 *ℤ c.args.to.y = simp to_z-of_z at c.twice-2.ensures in
    let from_x = c.args.point.x_within.from in
    let upto_x = c.args.point.x_within.upto in
    let from_y = c.args.point.y_within.from in
    let upto_y = c.args.point.y_within.upto in
    let right : SFits w64 (c.twice.result -ℤ c.twice-x.result) = omega (arith, ints) in
    let up : SFits w64 (c.twice-2.result -ℤ c.twice-y.result) = omega (arith, ints) in
    let over : SFits w64 (c.args.point.twice_y -ℤ c.twice-y.result) = omega (arith, ints) in
    let along : SFits w64 (c.args.point.twice_x -ℤ c.twice-x.result) = omega (arith, ints) in
    let value : c.product.result ≡ (c.twice.result -ℤ c.twice-x.result) *ℤ (c.args.point.twice_y -ℤ c.twice-y.result) = simp to_z-of_z at c.product.ensures.value in
    let value2 : c.product-2.result ≡ (c.twice-2.result -ℤ c.twice-y.result) *ℤ (c.args.point.twice_x -ℤ c.twice-x.result) = simp to_z-of_z at c.product-2.ensures.value in
    simp to_z-of_z (rw (value, value2, x_is, y_is, to_x_is, to_y_is))
