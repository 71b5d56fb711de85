use Rattle.std.proofs.Common.{ap, ◌∙◌}
use Rattle.std.specs.Ordering.{is_lt}
use Rattle.i_tree.proofs.RootLemmas.RisingKeys.{less_from_is_lt, not_less_from_is_lt}
use Rattle.i_tree.proofs.SetLemmas.Positions.{IsPartitionedBy-below}
use Rattle.i_tree.proofs.set.list.place_of.Goals as goal

pub returns-clause-splits : goal.returns-clause-splits
returns-clause-splits g c =
    let test = λ (value : g.row.V.Denot). is_lt (g.K.Ord.cmp (g.V.KeyValue.key_of value) c.args.key.now) in
    let point = c.count_passing.ensures.splits test (λ k d within answer says. says.says.met ∙ ap test says.shows)
    (IsPartitionedBy-below g.V.KeyValue.key_of g.met.K.Ord.total c.args.values.now c.args.key.now c.requires) in
    (λ k d low high. less_from_is_lt _ (point.0 k d low high), λ k d low high. not_less_from_is_lt _ (point.1 k d low high))
