use Rattle.std.proofs.Common.{◌≡◌}
use Rattle.std.specs.declared.cmp.Ordering.TheVariants.{Less}
use Rattle.i_tree.proofs.RootLemmas.Along.{IsLast-at_count}
use Rattle.i_tree.proofs.RootLemmas.RisingKeys.{GreatestOr-from_last}
use Rattle.i_tree.proofs.key.sorted.value_below.Goals as goal

pub returns : goal.returns
returns g c =
    GreatestOr-from_last g.met.K.Ord.total (λ other. g.K.Ord.cmp other c.args.key.now ≡ Less) c.args.pairs.now c.args.default c.value_or.result c.requires (
      c.last_pair.result,
      IsLast-at_count c.args.pairs.now c.place_of.result c.place_of.ensures.within (λ pair. g.K.Ord.cmp pair.0 c.args.key.now ≡ Less) c.last_pair.result c.place_of.ensures.splits c.last_pair.ensures.none c.last_pair.ensures.last,
      c.value_or.ensures,
    )
