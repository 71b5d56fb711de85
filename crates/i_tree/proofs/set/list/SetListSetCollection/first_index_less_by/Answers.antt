use Rattle.std.proofs.Common.{◌≡◌, true, false, not, length, sym, ap, ◌∙◌, subst, arith}
use Rattle.std.specs.Fn.{FnReturnsAt}
use Rattle.std.specs.List.Sorted.{IsPartitionPoint, IsPartitionedBy}
use Rattle.std.specs.Ordering.{is_gt}
use Rattle.std.specs.declared.cmp.Ordering.{Ordering}
use Rattle.i_tree.proofs.SetLemmas.Positions.{AreApart-viewed, HasHandle-counted, IsFoundBy-at_count, IsPartitionedBy-at_most, takes_values, values_answer}
use Rattle.i_tree.proofs.set.list.SetListSetCollection.first_index_less_by.Goals as goal

pub count_passing-requires : goal.count_passing-requires
count_passing-requires g c =
    takes_values g.V.KeyValue.key_of g.K.Ord.cmp (λ key. goal.F-pre g c.args.f key) c.deref.result.now c.args.self.now.values (c.deref.ensures.value ∙ ap (λ list. list.values) c.self.view_is) c.requires.callable

pub returns-clause-value : goal.returns-clause-value
returns-clause-value g c order answers monotone =
    let key_of = g.V.KeyValue.key_of in
    let values = c.args.self.now.values in
    let test = λ (value : g.row.V.Denot). not (is_gt (order (key_of value))) in
    let same : c.deref.result.now ≡ values = c.deref.ensures.value ∙ ap (λ list. list.values) c.self.view_is in
    let point =
    c.count_passing.ensures.splits test
    (λ k d within answer says.
    let (given, may, is) = says.says.met in
    is ∙ ap (λ (r : Ordering). not (is_gt r)) (values_answer key_of g.K.Ord.cmp (λ key answer. FnReturnsAt g.F.Fn c.args.f key answer) order c.deref.result.now values same answers k d within says.shown says.shows given may))
    (subst (IsPartitionedBy test) (sym same) (IsPartitionedBy-at_most key_of g.met.K.Ord.total order values c.requires.in_order monotone)) in
    IsFoundBy-at_count key_of g.met.K.Ord.total order values c.count_passing.result c.position_before.result c.requires.in_order monotone
    (subst (λ xs. IsPartitionPoint (λ value. test value ≡ true) (λ value. test value ≡ false) xs c.count_passing.result) same point)
    (omega (arith, c.count_passing.ensures.within, ap length same)) c.position_before.ensures.first c.position_before.ensures.later

pub returns-clause-live : goal.returns-clause-live
returns-clause-live g c some =
    HasHandle-counted c.args.self.now.values c.count_passing.result c.position_before.result
    (omega (arith, c.count_passing.ensures.within, ap length (c.deref.ensures.value ∙ ap (λ list. list.values) c.self.view_is))) c.position_before.ensures.first c.position_before.ensures.later some

pub returns-clause-handles : goal.returns-clause-handles
returns-clause-handles g c = AreApart-viewed c.self.view_is c.self.invariant
