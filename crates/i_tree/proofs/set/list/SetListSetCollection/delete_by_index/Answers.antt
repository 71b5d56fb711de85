use Rattle.std.proofs.Common.{length, ap, ◌∙◌, arith}
use Rattle.std.specs.List.{remove}
use Rattle.i_tree.proofs.SetLemmas.Live.{IsOrdered-loses}
use Rattle.i_tree.proofs.SetLemmas.Positions.{AreApart-numbered, inside_from_HasHandle, values-remove}
use Rattle.i_tree.specs.Set.Pairs.{values}
use Rattle.i_tree.specs.Set.SetList.{numbered}
use Rattle.i_tree.proofs.set.list.SetListSetCollection.delete_by_index.Goals as goal

pub delete_at-requires : goal.delete_at-requires
delete_at-requires g c =
    omega (arith, inside_from_HasHandle c.args.self.now.values c.args.index c.requires, c.self.inside.values.ok.0, ap (λ list. length list.values) c.self.view_is)

pub returns-clause-value : goal.returns-clause-value
returns-clause-value g c front value back cut =
    ap (λ items. values (numbered items)) (c.delete_at.ensures.items ∙ ap (λ list. remove list.values c.args.index) c.self.view_is)
    ∙ values-remove c.args.self.now.values front c.args.index value back cut

pub returns-clause-in_order : goal.returns-clause-in_order
returns-clause-in_order g c =
    IsOrdered-loses g.V.KeyValue.key_of g.K.Ord.cmp g.met.K.Ord.total (numbered c.args.self.now.values) (numbered c.delete_at.new.items.items) c.args.index c.requires (returns-clause-value g c)

pub returns-clause-handles : goal.returns-clause-handles
returns-clause-handles g c = AreApart-numbered c.delete_at.new.items.items (omega (arith, c.delete_at.ensures.len, c.self.invariant))
