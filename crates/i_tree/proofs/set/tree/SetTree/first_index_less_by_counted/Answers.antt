use Rattle.std.proofs.Common.{sym, ap, ◌∙◌, subst}
use Rattle.std.specs.Fn.{FnReturnsAt}
use Rattle.std.specs.declared.cmp.Ordering.{Ordering}
use Rattle.i_tree.proofs.SetLemmas.Live.{HasHandle-found}
use Rattle.i_tree.proofs.SetLemmas.Search.{search_finds, takes_values}
use Rattle.i_tree.specs.Rb.RbTree.{Contents}
use Rattle.i_tree.specs.Rb.Place.{place_below}
use Rattle.i_tree.specs.Rb.Shape.{entries}
use Rattle.i_tree.specs.Root.Answer.{AnswersBy, IsMonotone}
use Rattle.i_tree.specs.Set.Pairs.{by_key, HasHandle, IsFoundBy, IsOrdered, TakesKeys}
use Rattle.i_tree.proofs.set.tree.SetTree.first_index_less_by_counted.Goals as goal

pub search_down-requires : goal.search_down-requires
search_down-requires g c k d within reference at key is =
    let takes = subst (λ (contents : Contents g.row.V.Denot). TakesKeys g.V.KeyValue.key_of (λ key. goal.F-pre g c.args.f key) (entries contents.shape)) (sym c.self.view_is) c.requires.callable in
    takes_values g.V.KeyValue.key_of (λ key. goal.F-pre g c.args.f key) (entries c.self.inside.core.shape) takes k d within key (is ∙ ap g.V.KeyValue.key_of at)

pub returns-clause-value : goal.returns-clause-value
returns-clause-value g c order =
    let key_of = g.V.KeyValue.key_of in
    let ended = c.search_down.result in
    let May = λ (key : g.row.K.Denot) (answer : Ordering). FnReturnsAt g.F.Fn c.args.f key answer in
    let ordered = subst (λ (contents : Contents g.row.V.Denot). IsOrdered key_of g.K.Ord.cmp (entries contents.shape)) (sym c.self.view_is) c.requires.in_order in
    subst (λ (contents : Contents g.row.V.Denot). AnswersBy May order (by_key key_of (entries contents.shape)) → IsMonotone g.K.Ord.cmp order (by_key key_of (entries contents.shape)) → IsFoundBy key_of g.K.Ord.cmp order (entries contents.shape) ended.found) c.self.view_is
    (search_finds key_of g.met.K.Ord.total _ c.self.inside.core.shape (place_below ended.above ended.on_right) ended.found ended.said c.search_down.ensures.end ordered May
    (λ value answer says. subst (λ (shown : g.row.V.Denot). May (key_of shown) answer) says.shows says.says.met) order)

pub returns-clause-live : goal.returns-clause-live
returns-clause-live g c some =
    let ended = c.search_down.result in
    subst (λ (contents : Contents g.row.V.Denot). HasHandle (entries contents.shape) ended.found) c.self.view_is
    (HasHandle-found _ c.self.inside.core.shape (place_below ended.above ended.on_right) ended.found ended.said c.search_down.ensures.end some)
