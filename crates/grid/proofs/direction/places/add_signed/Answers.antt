use Rattle.grid.proofs.AreaLemmas.Signs.{left_of-add, left_of-take}
use Rattle.grid.proofs.direction.places.add_signed.Goals as goal

pub returns-then-negative-clause-left : goal.returns-then-negative-clause-left
returns-then-negative-clause-left c = rw c.if-negative.true (left_of-take _ _ _ _ c.add_product.ensures.number)

pub returns-else-negative-clause-left : goal.returns-else-negative-clause-left
returns-else-negative-clause-left c = rw c.if-negative.false (left_of-add _ _ _ _ c.add_product-else-negative.ensures.number)
