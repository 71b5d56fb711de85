use Rattle.std.proofs.Common.{◌≡◌, ◌^◌, ◌-ℤ◌, ◌*ℤ◌, arith, rules, w32, w64, ℤ, FitsSigned}
use Rattle.std.specs.Int.{w128}
use Rattle.std.proofs.lemmas.Int.{ints, to_z-of_z}
use Rattle.plane.specs.Meet.Crosses.{IsWithin}
use Rattle.overlay.specs.Areas.{swept}
use Rattle.plane.proofs.MeetLemmas.Identities.{IsWithin-product}
use Rattle.offset.proofs.circles.swept.Goals as goal

difference : (c : goal.After-product-2) → FitsSigned w128 (c.product.result -ℤ c.product-2.result)
difference c =
    let one : FitsSigned w128 c.product.result = record { sfits = c.product.type_inv } in
    let other : FitsSigned w128 c.product-2.result = record { sfits = c.product-2.type_inv } in
    let above = c.product.ensures.above in
    let upto = c.product.ensures.upto in
    let other_above = c.product-2.ensures.above in
    let other_upto = c.product-2.ensures.upto in
    omega (arith, ints, above, upto, other_above, other_upto)

pub overflow_sub-result : goal.overflow_sub-result
overflow_sub-result c =
    let one : FitsSigned w128 c.product.result = record { sfits = c.product.type_inv } in
    let other : FitsSigned w128 c.product-2.result = record { sfits = c.product-2.type_inv } in
    simp to_z-of_z (difference c)

-- a coordinate is at most 2 ^ 31, either way
coordinate : (z : ℤ) → FitsSigned w32 z → IsWithin (2 ^ 31) z
coordinate z fits = record { from = omega (arith, ints, fits); upto = omega (arith, ints, fits) }

-- the products are those of the coordinates
products : (c : goal.After-product-2) → (c.product.result ≡ c.args.side.x0 *ℤ c.args.side.y1) × (c.product-2.result ≡ c.args.side.y0 *ℤ c.args.side.x1)
products c =
    let from_x : FitsSigned w32 c.args.side.x0 = search rules in
    let from_y : FitsSigned w32 c.args.side.y0 = search rules in
    let to_x : FitsSigned w32 c.args.side.x1 = search rules in
    let to_y : FitsSigned w32 c.args.side.y1 = search rules in
    let from_x_wide : FitsSigned w64 c.args.side.x0 = omega (arith, ints, from_x) in
    let from_y_wide : FitsSigned w64 c.args.side.y0 = omega (arith, ints, from_y) in
    let to_x_wide : FitsSigned w64 c.args.side.x1 = omega (arith, ints, to_x) in
    let to_y_wide : FitsSigned w64 c.args.side.y1 = omega (arith, ints, to_y) in
    (simp to_z-of_z at c.product.ensures.value, simp to_z-of_z at c.product-2.ensures.value)

pub returns-clause-value : goal.returns-clause-value
returns-clause-value c =
    let (first, second) = products c in
    let one : FitsSigned w128 c.product.result = record { sfits = c.product.type_inv } in
    let other : FitsSigned w128 c.product-2.result = record { sfits = c.product-2.type_inv } in
    let wide : FitsSigned w128 (c.product.result -ℤ c.product-2.result) = difference c in
    simp to_z-of_z (let is : (c.product.result -ℤ c.product-2.result) ≡ swept c.args.side = omega (arith, ints, first, second) in is)

pub returns-clause-within : goal.returns-clause-within
returns-clause-within c =
    let from_x : FitsSigned w32 c.args.side.x0 = search rules in
    let from_y : FitsSigned w32 c.args.side.y0 = search rules in
    let to_x : FitsSigned w32 c.args.side.x1 = search rules in
    let to_y : FitsSigned w32 c.args.side.y1 = search rules in
    let (first, second) = products c in
    let right : IsWithin (2 ^ 62) (c.args.side.x0 *ℤ c.args.side.y1) = IsWithin-product c.args.side.x0 c.args.side.y1 (2 ^ 31) (2 ^ 31) (coordinate c.args.side.x0 from_x) (coordinate c.args.side.y1 to_y) in
    let left : IsWithin (2 ^ 62) (c.args.side.y0 *ℤ c.args.side.x1) = IsWithin-product c.args.side.y0 c.args.side.x1 (2 ^ 31) (2 ^ 31) (coordinate c.args.side.y0 from_y) (coordinate c.args.side.x1 to_x) in
    let from = right.from in
    let upto = right.upto in
    let left_from = left.from in
    let left_upto = left.upto in
    let one : FitsSigned w128 c.product.result = record { sfits = c.product.type_inv } in
    let other : FitsSigned w128 c.product-2.result = record { sfits = c.product-2.type_inv } in
    let wide : FitsSigned w128 (c.product.result -ℤ c.product-2.result) = difference c in
    simp to_z-of_z (let is : IsWithin (2 ^ 63) (c.product.result -ℤ c.product-2.result) = record { from = omega (arith, ints, first, second, from, left_upto); upto = omega (arith, ints, first, second, upto, left_from) } in is)
