use Rattle.std.proofs.Common.{ap, ◌∙◌}
use Rattle.i_tree.proofs.SetLemmas.Live.{cut_at_item}
use Rattle.runs.proofs.sets.key_at.Goals as goal

pub returns : goal.returns
returns g c = (
  c.if-handle-eq-EMPTY_REF.false,
  λ value there.
      let (front, back, cut) = cut_at_item (g.C.SetCollection.pairs c.args.c.now) (c.args.handle, value) there in
      c.key.ensures ∙ ap g.V.KeyValue.key_of (c.value_by_index.ensures.value front value back cut),
)
