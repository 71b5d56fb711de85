use Rattle.i_tree.proofs.RootLemmas.RisingKeys.{AtMost-from_along, IsMonotoneAlong-rising}
use Rattle.i_tree.proofs.key.sorted.value_at_most.Goals as goal

pub returns : goal.returns
returns g c order answers monotone =
    AtMost-from_along g.met.K.Ord.total c.args.pairs.now order c.args.default c.value_at_most.result c.requires.rising
    (c.value_at_most.ensures order answers (IsMonotoneAlong-rising g.K.Ord.cmp c.args.pairs.now order c.requires.rising monotone))
