use Rattle.grid.proofs.RoundingLemmas.{RoundsTo-few}
use Rattle.grid.proofs.rounding.shortened.Goals as goal

pub returns-clause-rounds : goal.returns-clause-rounds
returns-clause-rounds c =
    RoundsTo-few c.args.mantissa c.args.further c.few_places.result c.without_places.result c.requires.within c.few_places.ensures.same c.few_places.ensures.most c.without_places.ensures.rounds
