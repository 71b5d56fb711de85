use Rattle.std.proofs.Common.{◌/◌, ◌%◌, ◌^◌, arith}
use Rattle.grid.proofs.AreaLemmas.Numbers.{added-product, moved-is, moved-le, halves-bound}
use Rattle.grid.proofs.direction.places.add_product.Goals as goal

pub returns-clause-number : goal.returns-clause-number
returns-clause-number c =
    added-product c.args.places.now c.args.product c.args.exponent _ _
    (moved-is _ _ _ c.power_of_two-power.ensures) (moved-is _ _ _ c.power_of_two-power.ensures) (omega arith)

pub returns-clause-bound : goal.returns-clause-bound
returns-clause-bound c =
    halves-bound c.args.places.now _ _ _ _ _ (omega arith) (omega arith)
    (moved-le (c.args.product % 2 ^ 64) (c.args.exponent % 32) _ (omega arith) (omega arith) c.power_of_two-power.ensures)
    (moved-le (c.args.product / 2 ^ 64) (c.args.exponent % 32) _ (omega (arith, c.requires.product)) (omega arith) c.power_of_two-power.ensures)
