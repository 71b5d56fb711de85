use Rattle.i_tree.proofs.ExpiringLemmas.Insertion.{IfOk-joined, IsOk-joined, OnErr-joined}
use Rattle.i_tree.proofs.status.list.StatusListStatusCollection.insert_by.Goals as goal

pub returns-clause-cases : goal.returns-clause-cases
returns-clause-cases g c = rw c.has_joined.ensures (IfOk-joined c.insert_between.result _ c.insert_between.ensures.cases)

pub returns-clause-ok : goal.returns-clause-ok
returns-clause-ok g c = rw c.has_joined.ensures (IfOk-joined c.insert_between.result _ c.insert_between.ensures.ok)

pub returns-clause-err : goal.returns-clause-err
returns-clause-err g c = rw c.has_joined.ensures (OnErr-joined c.insert_between.result _ c.insert_between.ensures.err)

pub returns-clause-err_new : goal.returns-clause-err_new
returns-clause-err_new g c = rw c.has_joined.ensures (OnErr-joined c.insert_between.result _ c.insert_between.ensures.err_new)

pub returns-clause-with_room : goal.returns-clause-with_room
returns-clause-with_room g c few = rw c.has_joined.ensures (IsOk-joined c.insert_between.result (c.insert_between.ensures.with_room few))

pub returns-clause-refused : goal.returns-clause-refused
returns-clause-refused g c _ = rw c.has_joined.ensures c.insert_between.ensures.inserts.refused
