use Rattle.std.proofs.Common.{rules}
use Rattle.i_tree.proofs.RootLemmas.Monotone.{IsMonotone-compare}
use Rattle.i_tree.specs.Set.Pairs.{by_key}
use Rattle.runs.proofs.RunLemmas.SetSteps.{at_most_from_found}
use Rattle.runs.proofs.sets.handle_at_most.Goals as goal

pub returns-clause-value : goal.returns-clause-value
returns-clause-value g c =
    let pairs = g.C.SetCollection.pairs c.args.c.now in
    at_most_from_found g.V.KeyValue.key_of g.met.K.Ord.total pairs c.args.key c.first_index_less_by.result
    (c.first_index_less_by.ensures.value (λ other. g.K.Ord.cmp other c.args.key) (λ k d within answer says. search rules)
    (IsMonotone-compare g.met.K.Ord.total (λ key. key) c.args.key (by_key g.V.KeyValue.key_of pairs)))
