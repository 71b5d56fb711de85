use Rattle.std.proofs.Common.{◌<◌, [], length, refl, sym, ap, ◌∙◌, arith}
use Rattle.std.proofs.lemmas.Bool.{eqb-false}
use Rattle.i_tree.proofs.SetLemmas.Live.{HasHandle-first}
use Rattle.i_tree.proofs.SetLemmas.Positions.{AreApart-viewed, first_of_all}
use Rattle.i_tree.specs.Set.SetList.{numbered}
use Rattle.i_tree.proofs.set.list.SetListSetCollection.first_index.Goals as goal

some : (g : _) (c : goal.Else-is_empty g) → 0 < length c.args.self.now.values
some g c =
    let apart = eqb-false _ _ (sym c.is_empty.ensures ∙ c.if-is_empty.false) in
    omega (arith, apart, c.self.inside.values.ok.0, ap (λ list. length list.values) c.self.view_is)

pub returns-else-is_empty-clause-value : goal.returns-else-is_empty-clause-value
returns-else-is_empty-clause-value g c = first_of_all c.args.self.now.values (some g c)

pub returns-else-is_empty-clause-live : goal.returns-else-is_empty-clause-live
returns-else-is_empty-clause-live g c =
    HasHandle-first (numbered c.args.self.now.values) [] (numbered c.args.self.now.values) 0 refl (first_of_all c.args.self.now.values (some g c))

pub returns-else-is_empty-clause-handles : goal.returns-else-is_empty-clause-handles
returns-else-is_empty-clause-handles g c = AreApart-viewed c.self.view_is c.self.invariant
