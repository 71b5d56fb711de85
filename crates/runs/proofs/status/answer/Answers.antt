use Rattle.runs.proofs.RunLemmas.StatusSteps.{insertion-answered}
use Rattle.runs.proofs.status.answer.Goals as goal

pub returns-in-InsertBy-clause-answers : goal.returns-in-InsertBy-clause-answers
returns-in-InsertBy-clause-answers g c =
    let outcome = c.insert_by-outcome in
    let row = c.in-InsertBy in
    rw row.is (rw c.insertion_reply.ensures
    (insertion-answered g.K.ExpiredVal.expiration g.E.Ord.cmp (λ (_ : g.row.P.Denot) (key : g.row.K.Denot). g.F.Fn.post c.args.stands (key, tt)) (g.C.StatusCollection.room c.args.c.now) row.key row.val row.time row.probe
    (g.C.StatusCollection.stored c.args.c.now) (g.C.StatusCollection.stored outcome.new.self)
    outcome.result outcome.ensures.cases outcome.ensures.ok outcome.ensures.err outcome.ensures.err_new outcome.ensures.with_room))
