use Rattle.i_tree.proofs.RootLemmas.RisingKeys.{Above-from_along, IsMonotoneAlong-rising}
use Rattle.i_tree.proofs.key.sorted.value_above.Goals as goal

pub returns : goal.returns
returns g c order answers monotone =
    Above-from_along g.met.K.Ord.total c.args.pairs.now order c.args.default c.value_above.result c.requires.rising
    (c.value_above.ensures order answers (IsMonotoneAlong-rising g.K.Ord.cmp c.args.pairs.now order c.requires.rising monotone))
