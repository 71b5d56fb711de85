use Rattle.std.proofs.Common.{sym, ap, ◌∙◌, arith}
use Rattle.i_tree.proofs.RbLemmas.SearchPath.Search.{equal_from, not_equal_from}
use Rattle.i_tree.proofs.RootLemmas.Lists.{MatchBool-by}
use Rattle.i_tree.proofs.SetLemmas.Places.{HoldsKey-at_place, LacksKey-at_place}
use Rattle.i_tree.proofs.set.list.has_key_at.Goals as goal

pub returns-in-Some : goal.returns-in-Some
returns-in-Some g c =
    let key_of = g.V.KeyValue.key_of in
    let found = (c.in-Some.ensures).lookup in
    let said = λ (value : g.row.V.Denot). g.K.Ord.cmp (key_of value) c.args.key.now in
    let compared = c.cmp.ensures ∙ ap (λ key. g.K.Ord.cmp key c.args.key.now) c.key.ensures in
    MatchBool-by c.is_eq.result _ _
    (λ test. HoldsKey-at_place key_of g.K.Ord.cmp c.args.values.now c.args.key.now c.args.place c.in-Some.value.now found.3.0 found.1 (sym compared ∙ equal_from c.cmp.result (sym c.is_eq.ensures ∙ test)))
    (λ test. LacksKey-at_place key_of g.K.Ord.cmp g.met.K.Ord.total c.args.values.now c.args.key.now c.args.place c.requires.within c.requires.in_order c.requires.place
    (λ value inside equal. not_equal_from c.cmp.result (sym c.is_eq.ensures ∙ test) (compared ∙ ap said (found.3.1 value) ∙ equal)))

pub returns-in-None : goal.returns-in-None
returns-in-None g c =
    LacksKey-at_place g.V.KeyValue.key_of g.K.Ord.cmp g.met.K.Ord.total c.args.values.now c.args.key.now c.args.place c.requires.within c.requires.in_order c.requires.place
    (λ value inside equal. absurd (omega (arith, (c.in-None.ensures).lookup.3, inside)))
