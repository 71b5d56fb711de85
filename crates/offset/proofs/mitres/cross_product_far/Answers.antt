use Rattle.std.proofs.Common.{ℤ, ◌≡◌, ◌-ℤ◌, ◌*ℤ◌, arith, rules, FitsSigned}
use Rattle.std.specs.Int.{w128}
use Rattle.std.proofs.lemmas.Int.{ints, to_z-of_z}
use Rattle.plane.specs.Meet.Crosses.{cross}
use Rattle.plane.proofs.MeetLemmas.Identities.{identity, minus, number, times}
use Rattle.offset.proofs.mitres.cross_product_far.Goals as goal

pub overflow_sub-result : goal.overflow_sub-result
overflow_sub-result c =
    let one : FitsSigned w128 c.product.result = record { sfits = c.product.type_inv } in
    let other : FitsSigned w128 c.product-2.result = record { sfits = c.product-2.type_inv } in
    let within = c.product.ensures.within in
    let other_within = c.product-2.ensures.within in
    let wide : FitsSigned w128 (c.product.result -ℤ c.product-2.result) = omega (arith, ints, within.from, within.upto, other_within.from, other_within.upto) in
    simp to_z-of_z wide

-- the products are those of the vectors
crossed : (wx wy x y first second : ℤ) → first ≡ (y *ℤ wx) → second ≡ (x *ℤ wy) → (first -ℤ second) ≡ cross wx wy x y
crossed wx wy x y first second one other =
    let turned = identity (minus (times (number y) (number wx)) (times (number x) (number wy))) (minus (times (number wx) (number y)) (times (number wy) (number x))) (omega arith) in
    omega (arith, ints, one, other, turned)

pub returns : goal.returns
returns c =
    let first : c.product.result ≡ (c.args.y *ℤ c.args.way.x) = search rules in
    let second : c.product-2.result ≡ (c.args.x *ℤ c.args.way.y) = search rules in
    let one : FitsSigned w128 c.product.result = record { sfits = c.product.type_inv } in
    let other : FitsSigned w128 c.product-2.result = record { sfits = c.product-2.type_inv } in
    let within = c.product.ensures.within in
    let other_within = c.product-2.ensures.within in
    let wide : FitsSigned w128 (c.product.result -ℤ c.product-2.result) = omega (arith, ints, within.from, within.upto, other_within.from, other_within.upto) in
    let is = crossed c.args.way.x c.args.way.y c.args.x c.args.y c.product.result c.product-2.result first second in
    simp to_z-of_z is
