use Rattle.grid.proofs.AreaLemmas.Signs.{after_edge}
use Rattle.grid.proofs.direction.add_edge.Goals as goal

pub returns-clause-left : goal.returns-clause-left
returns-clause-left c =
    after_edge _ _ _ _ _ _ _ c.opposite.ensures.number c.add_product_of.ensures.left c.add_product_of-2.ensures.left
