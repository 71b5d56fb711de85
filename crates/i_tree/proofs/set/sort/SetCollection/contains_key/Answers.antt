use Rattle.std.proofs.Common.{◌≡◌, refl, true, false, ap, sym, ◌∙◌, rules}
use Rattle.std.specs.Ordering.{is_eq}
use Rattle.std.specs.declared.cmp.Ordering.{Ordering}
use Rattle.std.specs.declared.cmp.Ordering.TheVariants.{Less, Equal, Greater}
use Rattle.i_tree.proofs.RootLemmas.Lists.{MatchBool-by}
use Rattle.i_tree.proofs.RootLemmas.Monotone.{IsMonotone-compare}
use Rattle.i_tree.proofs.SetLemmas.Live.{HoldsKey-found, LacksKey-none, LacksKey-other}
use Rattle.i_tree.specs.Set.Pairs.{by_key}
use Rattle.i_tree.proofs.set.sort.SetCollection.contains_key.Goals as goal

equal_from : (r : Ordering) → is_eq r ≡ true → r ≡ Equal
equal_from Less test = cc
equal_from Equal test = refl
equal_from Greater test = cc

pub returns-then-found-clause-cases : goal.returns-then-found-clause-cases
returns-then-found-clause-cases g c =
    let pairs = g.Self.SetCollection.pairs c.args.self.now in
    let order = λ (other : g.row.K.Denot). g.K.Ord.cmp other c.args.key.now in
    LacksKey-none g.V.KeyValue.key_of g.K.Ord.cmp c.args.key.now pairs c.first_index_less_by-found.result c.first_index_less_by-found.ensures.handles c.if-found.true
    (c.first_index_less_by-found.ensures.value order (λ k d within answer says. search rules)
    (IsMonotone-compare g.met.K.Ord.total (λ (key : g.row.K.Denot). key) c.args.key.now (by_key g.V.KeyValue.key_of pairs)))

pub returns-clause-cases : goal.returns-clause-cases
returns-clause-cases g c =
    let pairs = g.Self.SetCollection.pairs c.args.self.now in
    let order = λ (other : g.row.K.Denot). g.K.Ord.cmp other c.args.key.now in
    let compared : c.cmp.result ≡ order (g.V.KeyValue.key_of _) = c.cmp.ensures ∙ ap order c.key.ensures in
    MatchBool-by _ _ _
    (λ test. HoldsKey-found g.V.KeyValue.key_of g.K.Ord.cmp c.args.key.now pairs c.first_index_less_by-found.result _
    (c.first_index_less_by-found.ensures.live c.if-found.false) c.value_by_index.ensures.value
    (sym compared ∙ equal_from c.cmp.result (sym c.is_eq.ensures ∙ test)))
    (λ test. LacksKey-other g.V.KeyValue.key_of g.K.Ord.cmp c.args.key.now pairs c.first_index_less_by-found.result _ c.value_by_index.ensures.value
    (λ equal. let is_equal : is_eq c.cmp.result ≡ true = ap is_eq (compared ∙ equal) in let is_not : is_eq c.cmp.result ≡ false = sym c.is_eq.ensures ∙ test in cc)
    (c.first_index_less_by-found.ensures.value order (λ k d within answer says. search rules)
    (IsMonotone-compare g.met.K.Ord.total (λ (key : g.row.K.Denot). key) c.args.key.now (by_key g.V.KeyValue.key_of pairs))))
