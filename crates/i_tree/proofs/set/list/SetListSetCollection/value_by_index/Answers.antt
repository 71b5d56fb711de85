use Rattle.std.proofs.Common.{length, get_or, ap, ◌∙◌, arith}
use Rattle.std.proofs.lemmas.List.{get_or_read}
use Rattle.i_tree.proofs.SetLemmas.Positions.{AreApart-viewed, inside_from_HasHandle, value_is}
use Rattle.i_tree.proofs.set.list.SetListSetCollection.value_by_index.Goals as goal

pub index-requires : goal.index-requires
index-requires g c =
    omega (arith, inside_from_HasHandle c.args.self.now.values c.args.index c.requires, c.self.inside.values.ok.0, ap (λ list. length list.values) c.self.view_is)

pub returns-clause-value : goal.returns-clause-value
returns-clause-value g c front value back cut =
    get_or_read c.self.inside.values.items c.args.index c.index.result.now
    (omega (arith, inside_from_HasHandle c.args.self.now.values c.args.index c.requires, ap (λ list. length list.values) c.self.view_is)) c.index.ensures value
    ∙ ap (λ list. get_or list.values c.args.index value) c.self.view_is
    ∙ value_is c.args.self.now.values front c.args.index value back cut value

pub returns-clause-handles : goal.returns-clause-handles
returns-clause-handles g c = AreApart-viewed c.self.view_is c.self.invariant
