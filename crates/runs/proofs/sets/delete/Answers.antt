use Rattle.std.proofs.Common.{refl}
use Rattle.i_tree.proofs.SetLemmas.Live.{length-loses}
use Rattle.runs.proofs.RunLemmas.SetRoom.{keeps_deleted}
use Rattle.runs.proofs.RunLemmas.SetSteps.{NoKey-values, HasHandle-contained, deleted_step}
use Rattle.runs.proofs.sets.delete.Goals as goal

pub delete_by_index-requires : goal.delete_by_index-requires
delete_by_index-requires g c =
    let (value, there, equal) = c.in-Some.ensures in
    HasHandle-contained (g.C.SetCollection.pairs c.args.c.now) c.in-Some.handle value there

pub returns-in-Some-clause-step : goal.returns-in-Some-clause-step
returns-in-Some-clause-step g c =
    let (value, there, equal) = c.in-Some.ensures in
    let pairs = g.C.SetCollection.pairs in
    deleted_step g.V.KeyValue.key_of g.K.Ord.cmp (pairs c.args.c.now) c.in-Some.handle value there (pairs c.delete_by_index.new.self) c.delete_by_index.ensures.value c.args.key equal

pub returns-in-Some-clause-room : goal.returns-in-Some-clause-room
returns-in-Some-clause-room g c =
    let (value, there, equal) = c.in-Some.ensures in
    let pairs = g.C.SetCollection.pairs in
    let room = g.C.SetCollection.room in
    let has = HasHandle-contained (pairs c.args.c.now) c.in-Some.handle value there in
    let fewer = length-loses (pairs c.args.c.now) (pairs c.delete_by_index.new.self) c.in-Some.handle has c.delete_by_index.ensures.value in
    keeps_deleted (room c.args.c.now) (room c.delete_by_index.new.self) (pairs c.args.c.now) (pairs c.delete_by_index.new.self) fewer c.delete_by_index.ensures.room

pub returns-in-None-clause-step : goal.returns-in-None-clause-step
returns-in-None-clause-step g c = (NoKey-values g.V.KeyValue.key_of g.K.Ord.cmp (g.C.SetCollection.pairs c.args.c.now) c.args.key c.in-None.ensures, refl)
