use Rattle.std.proofs.Common.{length, refl, sym, ◌∙◌, subst}
use Rattle.std.specs.List.{All}
use Rattle.i_tree.proofs.RbLemmas.SearchPath.Counts.{searches_rotation}
use Rattle.i_tree.proofs.RbLemmas.SearchPath.Insertion.{IsLower, IsHigher}
use Rattle.i_tree.proofs.RbLemmas.SearchPath.Search.{equal_from, not_equal_from}
use Rattle.i_tree.specs.Rb.Shape.{entries}
use Rattle.i_tree.specs.Set.Pairs.{HoldsKey, LacksKey}
use Rattle.i_tree.proofs.set.tree.SetTree.insert_new_counted.Goals as goal

pub returns-then-is_eq-clause-present : goal.returns-then-is_eq-clause-present
returns-then-is_eq-clause-present g c =
    let equal = equal_from c.search_key-ended.result.said (sym c.is_eq.ensures ∙ c.if-is_eq.true) in
    (refl, subst (HoldsKey g.V.KeyValue.key_of g.K.Ord.cmp (entries c.args.self.now.shape)) c.key.ensures (c.search_key-ended.ensures.present equal), refl)

pub put-requires : goal.put-requires
put-requires g c =
    let key_of = g.V.KeyValue.key_of in
    let total = g.met.K.Ord.total in
    let apart = not_equal_from c.search_key-ended.result.said (sym c.is_eq.ensures ∙ c.if-is_eq.false) in
    let found = c.search_key-ended.ensures.place apart in
    record {
      in_order = c.requires;
      place = (found.0, found.1, found.2, subst (λ key. All (IsLower key_of total key) found.0) c.key.ensures found.3, subst (λ key. All (IsHigher key_of total key) found.1) c.key.ensures found.4);
    }

pub returns-clause-absent : goal.returns-clause-absent
returns-clause-absent g c =
    let apart = not_equal_from c.search_key-ended.result.said (sym c.is_eq.ensures ∙ c.if-is_eq.false) in
    subst (LacksKey g.V.KeyValue.key_of g.K.Ord.cmp (entries c.args.self.now.shape)) c.key.ensures (c.search_key-ended.ensures.absent apart)

pub returns-clause-steps : goal.returns-clause-steps
returns-clause-steps g c =
    searches_rotation g.met.C.Counter.law c.args.steps.now c.search_key-ended.new.steps c.put.new.steps (length (entries c.args.self.now.shape)) 2 c.search_key-ended.ensures.steps c.put.ensures.steps
