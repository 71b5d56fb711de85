use Rattle.std.proofs.Common.{arith, rules, w64, FitsSigned, ap, pos, ◌-ℤ◌, ℤ}
use Rattle.std.specs.Int.{w128}
use Rattle.std.proofs.lemmas.Int.{ints, to_z-of_z}
use Rattle.overlay.specs.Contours.Turns.{direction}
use Rattle.overlay.proofs.ContourLemmas.Turns.{ahead}
use Rattle.overlay.proofs.contours.turns.is_ahead.Goals as goal

pub returns : goal.returns
returns c =
    let one_x : FitsSigned w64 c.args.one.x = search rules in
    let one_y : FitsSigned w64 c.args.one.y = search rules in
    let other_x : FitsSigned w64 c.args.other.x = search rules in
    let other_y : FitsSigned w64 c.args.other.y = search rules in
    let first = simp to_z-of_z at c.product.ensures.value in
    let second = simp to_z-of_z at c.product-2.ensures.value in
    let above = c.product.ensures.above in
    let upto = c.product.ensures.upto in
    let one : FitsSigned w128 c.product.result = record { sfits = c.product.type_inv } in
    let other : FitsSigned w128 c.product-2.result = record { sfits = c.product-2.type_inv } in
    let wide : FitsSigned w128 (pos 0 -ℤ c.product.result) = omega (arith, ints, above, upto) in
    simp to_z-of_z (ahead (direction c.args.one) (direction c.args.other) (pos 0 -ℤ c.product.result) c.product-2.result (ap (λ (z : ℤ). pos 0 -ℤ z) first) second)
