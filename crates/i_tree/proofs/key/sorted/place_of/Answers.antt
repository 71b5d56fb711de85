use Rattle.std.proofs.Common.{ap, ◌∙◌}
use Rattle.std.specs.Ordering.{is_lt}
use Rattle.i_tree.proofs.RootLemmas.RisingKeys.{IsPartitionedBy-rising, less_from_is_lt, not_less_from_is_lt}
use Rattle.i_tree.proofs.key.sorted.place_of.Goals as goal

pub returns-clause-splits : goal.returns-clause-splits
returns-clause-splits g c =
    let test = λ (pair : g.row.K.Denot × g.row.V.Denot). is_lt (g.K.Ord.cmp pair.0 c.args.key.now) in
    let point = c.count_passing.ensures.splits test (λ k d within answer says. says.says.met ∙ ap test says.shows)
    (IsPartitionedBy-rising g.met.K.Ord.total c.args.pairs.now c.args.key.now c.requires) in
    (λ k d low high. less_from_is_lt _ (point.0 k d low high), λ k d low high. not_less_from_is_lt _ (point.1 k d low high))
