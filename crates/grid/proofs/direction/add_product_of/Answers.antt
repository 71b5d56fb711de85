use Rattle.std.proofs.Common.{◌∙◌, ap}
use Rattle.std.specs.Prelude.{ℤ, ◌+ℤ◌}
use Rattle.grid.specs.Places.{left_of}
use Rattle.grid.proofs.AreaLemmas.Signs.{signed-mul_powers}
use Rattle.grid.proofs.direction.add_product_of.Goals as goal

pub returns-clause-left : goal.returns-clause-left
returns-clause-left c =
    c.add_signed.ensures.left
    ∙ ap (λ (n : ℤ). left_of c.args.added.now c.args.taken.now +ℤ n)
    (signed-mul_powers c.args.left.negative c.args.right.negative c.args.left.mantissa c.args.right.mantissa c.args.left.exponent c.args.right.exponent)
