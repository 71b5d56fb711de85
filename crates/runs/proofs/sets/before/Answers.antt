use Rattle.std.proofs.Common.{refl}
use Rattle.runs.proofs.RunLemmas.SetSteps.{NoKey-values, before_step, before_none_step}
use Rattle.runs.proofs.sets.before.Goals as goal

pub returns-in_default-clause-step : goal.returns-in_default-clause-step
returns-in_default-clause-step g c = (NoKey-values g.V.KeyValue.key_of g.K.Ord.cmp (g.C.SetCollection.pairs c.args.c.now) c.args.key c.in_default.ensures, refl)

pub returns-in-Some-key_at-clause-step : goal.returns-in-Some-key_at-clause-step
returns-in-Some-key_at-clause-step g c =
    let (value, there, equal) = c.in-Some.ensures in
    before_step g.V.KeyValue.key_of g.K.Ord.cmp (g.C.SetCollection.pairs c.args.c.now) c.in-Some.handle value there c.args.key equal c.index_before.result c.index_before.ensures.value
    c.in-Some-key_at.ensures.0 c.in-Some-key_at.found c.in-Some-key_at.ensures.1

pub returns-in-None-clause-step : goal.returns-in-None-clause-step
returns-in-None-clause-step g c =
    let (value, there, equal) = c.in-Some.ensures in
    before_none_step g.V.KeyValue.key_of g.K.Ord.cmp (g.C.SetCollection.pairs c.args.c.now) c.in-Some.handle value there c.args.key equal c.index_before.result c.index_before.ensures.value
    c.index_before.ensures.handles c.in-None.ensures
