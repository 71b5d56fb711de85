use Rattle.std.proofs.Common.{sym, ◌∙◌}
use Rattle.runs.proofs.RunLemmas.SetSteps.{LacksKey-none, LacksKey-other, contained_equal}
use Rattle.runs.proofs.sets.handle_of.Goals as goal

pub returns-in_err-key_at : goal.returns-in_err-key_at
returns-in_err-key_at g c =
    rw c.from_residual.ensures
    (LacksKey-none g.V.KeyValue.key_of g.met.K.Ord.total (g.C.SetCollection.pairs c.args.c.now) c.args.key c.handle_at_most-found.result c.handle_at_most-found.ensures.value c.handle_at_most-found.ensures.handles (c.in_err-key_at.ensures))

pub returns-in-Equal : goal.returns-in-Equal
returns-in-Equal g c =
    contained_equal g.V.KeyValue.key_of g.met.K.Ord.total (g.C.SetCollection.pairs c.args.c.now) c.args.key c.handle_at_most-found.result c.handle_at_most-found.ensures.value
    (c.in_ok-key_at.ensures).0 c.in_ok-key_at.field-0 (c.in_ok-key_at.ensures).1 (sym c.cmp.ensures ∙ c.in-Equal.is)

pub returns-in_default : goal.returns-in_default
returns-in_default g c =
    LacksKey-other g.V.KeyValue.key_of g.met.K.Ord.total (g.C.SetCollection.pairs c.args.c.now) c.args.key c.handle_at_most-found.result c.handle_at_most-found.ensures.value
    (c.in_ok-key_at.ensures).0 c.in_ok-key_at.field-0 (c.in_ok-key_at.ensures).1 (λ equal. c.in_default.not-Equal (c.cmp.ensures ∙ equal))
