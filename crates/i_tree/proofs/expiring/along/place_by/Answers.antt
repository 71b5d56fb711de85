use Rattle.i_tree.proofs.RootLemmas.Along.{HasEqual-last, last_apart, place_at_point}
use Rattle.i_tree.proofs.expiring.along.place_by.Goals as goal

pub returns-then-is_called_equal-clause-place : goal.returns-then-is_called_equal-clause-place
returns-then-is_called_equal-clause-place g c order answers monotone =
    HasEqual-last order (goal.F-post g c.args.f) c.args.pairs.now answers c.count_at_most-place.result c.count_at_most-place.ensures.within c.last_pair.result c.is_called_equal.result c.is_called_equal.ensures
    c.last_pair.ensures.none c.last_pair.ensures.last c.if-is_called_equal.true

pub returns-clause-place : goal.returns-clause-place
returns-clause-place g c order answers monotone =
    let within = c.count_at_most-place.ensures.within in
    place_at_point order c.args.pairs.now c.count_at_most-place.result within (c.count_at_most-place.ensures.splits order answers monotone) monotone
    (last_apart order (goal.F-post g c.args.f) c.args.pairs.now answers c.count_at_most-place.result within c.last_pair.result c.is_called_equal.result c.is_called_equal.ensures
    c.last_pair.ensures.none c.last_pair.ensures.last c.if-is_called_equal.false)
