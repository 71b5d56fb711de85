use Rattle.std.proofs.Common.{◌-◌, get_or, sym, ap, ◌∙◌, ⊎_elim, arith}
use Rattle.std.specs.Ordering.{is_ge, is_some_and}
use Rattle.std.proofs.lemmas.Bool.{cases_eq}
use Rattle.i_tree.proofs.SetLemmas.Positions.{neighbours_fall, neighbours_rise, ordered_from_neighbours}
use Rattle.i_tree.proofs.set.list.keys_rise.Goals as goal

pub returns-then-ge : goal.returns-then-ge
returns-then-ge g c =
    neighbours_fall g.V.KeyValue.key_of g.K.Ord.cmp c.args.values.now (c.loop-next.next - 1) c.loop-next.next c.index-values-next.result c.index-values-next-in-loop-next.result c.key.result.now c.key-in-loop-next.result.now
    (omega arith) (omega arith) c.index-values-next.is c.index-values-next-in-loop-next.is c.key.ensures c.key-in-loop-next.ensures
    (sym (ap (is_some_and is_ge) (g.met.K.Ord.matches_partial_cmp c.key.result.now c.key-in-loop-next.result.now)) ∙ sym c.ge.ensures ∙ c.if-ge.true)

pub loop-next-preserved : goal.loop-next-preserved
loop-next-preserved g c = λ k next d is below.
    ⊎_elim
    (λ same.
    neighbours_rise g.V.KeyValue.key_of g.K.Ord.cmp c.args.values.now k next d c.index-values-next.result c.index-values-next-in-loop-next.result c.key.result.now c.key-in-loop-next.result.now
    (omega (arith, is, same)) (omega (arith, same))
    (c.index-values-next.is ∙ ap (λ n. get_or c.args.values.now n c.index-values-next.result) (omega (arith, is, same)))
    (c.index-values-next-in-loop-next.is ∙ ap (λ n. get_or c.args.values.now n c.index-values-next-in-loop-next.result) (sym same))
    c.key.ensures c.key-in-loop-next.ensures
    (sym (ap (is_some_and is_ge) (g.met.K.Ord.matches_partial_cmp c.key.result.now c.key-in-loop-next.result.now)) ∙ sym c.ge.ensures ∙ c.if-ge.false))
    (λ apart. c.loop-next.invariant k next d is (omega (arith, apart, below)))
    (cases_eq next c.loop-next.next)

pub returns : goal.returns
returns g c =
    ordered_from_neighbours g.V.KeyValue.key_of g.met.K.Ord.total c.args.values.now (λ k next d is within. c.loop-next.invariant k next d is (omega (arith, is, within)))
