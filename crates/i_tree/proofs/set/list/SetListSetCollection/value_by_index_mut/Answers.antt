use Rattle.std.proofs.Common.{length, get_or, refl, ap, ◌∙◌, arith}
use Rattle.std.proofs.lemmas.List.{get_or_read}
use Rattle.i_tree.proofs.SetLemmas.Positions.{AreApart-viewed, inside_from_HasHandle, value_is}
use Rattle.i_tree.specs.Set.SetList.{value_put}
use Rattle.i_tree.proofs.set.list.SetListSetCollection.value_by_index_mut.Goals as goal

pub index_mut-requires : goal.index_mut-requires
index_mut-requires g c =
    omega (arith, inside_from_HasHandle c.args.self.now.values c.args.index c.requires, c.self.inside.values.ok.0, ap (λ list. length list.values) c.self.view_is)

pub returns : goal.returns
returns g c = (
  (refl, λ w. ap (λ list. value_put list c.args.index w) c.self.view_is),
  record {
    writes_back = tt;
    value = λ front value back cut.
        get_or_read c.self.inside.values.items c.args.index c.index_mut.result.now
        (omega (arith, inside_from_HasHandle c.args.self.now.values c.args.index c.requires, ap (λ list. length list.values) c.self.view_is)) c.index_mut.ensures.value value
        ∙ ap (λ list. get_or list.values c.args.index value) c.self.view_is
        ∙ value_is c.args.self.now.values front c.args.index value back cut value;
    handles = AreApart-viewed c.self.view_is c.self.invariant;
  },
)
