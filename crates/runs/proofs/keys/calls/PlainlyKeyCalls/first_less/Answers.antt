use Rattle.runs.proofs.RunLemmas.KeyRoom.{keeps_answered}
use Rattle.runs.proofs.keys.calls.PlainlyKeyCalls.first_less.Goals as goal

pub returns-clause-does : goal.returns-clause-does
returns-clause-does g c =
    let stored = g.C.KeyExpCollection.stored in
    let room = g.C.KeyExpCollection.room in
    keeps_answered (room c.args.c.now) (room c.first_less.new.self) (stored c.args.c.now) (stored c.first_less.new.self) c.first_less.ensures.room c.first_less.result c.first_less.ensures.kept
