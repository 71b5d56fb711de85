use Rattle.runs.proofs.RunLemmas.KeyRoom.{keeps_inserted, keeps_present}
use Rattle.runs.proofs.keys.calls.PlainlyKeyCalls.insert.Goals as goal

pub returns-in-Ok-true-clause-does : goal.returns-in-Ok-true-clause-does
returns-in-Ok-true-clause-does g c =
    let stored = g.C.KeyExpCollection.stored in
    let room = g.C.KeyExpCollection.room in
    keeps_inserted (room c.args.c.now) (room c.insert_new.new.self) (stored c.args.c.now) (stored c.insert_new.new.self) (c.in-Ok-true.ensures).room (c.args.key, c.args.val)
    (rw c.in-Ok-true.field-0-test at (c.in-Ok-true.ensures).ok)

pub returns-in-Ok-false-clause-does : goal.returns-in-Ok-false-clause-does
returns-in-Ok-false-clause-does g c =
    let stored = g.C.KeyExpCollection.stored in
    let room = g.C.KeyExpCollection.room in
    keeps_present (room c.args.c.now) (room c.insert_new.new.self) (stored c.args.c.now) (stored c.insert_new.new.self) (c.in-Ok-false.ensures).room
    (rw c.in-Ok-false.field-0-test at (c.in-Ok-false.ensures).ok)

pub returns-in-Ok-true-clause-inserts : goal.returns-in-Ok-true-clause-inserts
returns-in-Ok-true-clause-inserts g c = (rw c.in-Ok-true.field-0-test at (c.in-Ok-true.ensures).cases, rw c.in-Ok-true.field-0-test at (c.in-Ok-true.ensures).ok)

pub returns-in-Ok-false-clause-inserts : goal.returns-in-Ok-false-clause-inserts
returns-in-Ok-false-clause-inserts g c = (rw c.in-Ok-false.field-0-test at (c.in-Ok-false.ensures).cases, rw c.in-Ok-false.field-0-test at (c.in-Ok-false.ensures).ok)

pub returns-in-Err-clause-inserts : goal.returns-in-Err-clause-inserts
returns-in-Err-clause-inserts g c = ((c.in-Err.ensures).err_new, (c.in-Err.ensures).err)
