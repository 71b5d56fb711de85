use Rattle.std.proofs.Common.{sym}
use Rattle.runs.proofs.RunLemmas.StatusSteps.{Step-answered}
use Rattle.runs.proofs.status.serve.Goals as goal

pub returns-clause-step : goal.returns-clause-step
returns-clause-step g c =
    let advanced = c.if-not-advance.ensures in
    let stored = g.C.StatusCollection.stored in
    Step-answered g.K.ExpiredVal.expiration g.E.Ord.cmp (goal.G-post g c.args.ask.now) (g.C.StatusCollection.room c.args.c.now) (stored c.args.c.now) (stored c.answer.new.c) c.args.last.now c.advance.new.last c.args.command c.answer.result _
    (sym c.in-Some.ensures) advanced.0 advanced.1 c.answer.ensures.answers
