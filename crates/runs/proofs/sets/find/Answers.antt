use Rattle.runs.proofs.RunLemmas.SetSteps.{find_step, find_none_step}
use Rattle.runs.proofs.sets.find.Goals as goal

pub returns-in-Some-clause-step : goal.returns-in-Some-clause-step
returns-in-Some-clause-step g c =
    find_step g.V.KeyValue.key_of g.met.K.Ord.total (g.C.SetCollection.pairs c.args.c.now) c.args.key c.handle_at_most.result c.handle_at_most.ensures.value c.in-Some.ensures.0 c.in-Some.found c.in-Some.ensures.1

pub returns-in-None-clause-step : goal.returns-in-None-clause-step
returns-in-None-clause-step g c =
    find_none_step g.V.KeyValue.key_of g.met.K.Ord.total (g.C.SetCollection.pairs c.args.c.now) c.args.key c.handle_at_most.result c.handle_at_most.ensures.value c.handle_at_most.ensures.handles c.in-None.ensures
