use Rattle.std.proofs.Common.{ap, length}
use Rattle.i_tree.proofs.KeyLemmas.ListInsertion.{gains_live, has_spare, inserts_at, keeps_room}
use Rattle.std.proofs.lemmas.Result.{on_err_weaker, on_ok_weaker}
use Rattle.i_tree.specs.Key.KeyExpList.{KeyListInserts}
use Rattle.i_tree.proofs.key.list.KeyExpListKeyExpCollection.insert.Goals as goal

inserts : (g : _) (c : goal.After-put g) → KeyListInserts g.K.ExpiredKey.expiration g.E.Ord.cmp (c.args.key, c.args.val) c.args.time c.args.self.now c.put.result c.put.new.self
inserts g c =
    inserts_at g.K.ExpiredKey.expiration g.E.Ord.cmp c.args.time c.args.self.now c.remove_expired.new.self c.remove_expired.ensures.leaves (c.args.key, c.args.val) c.put.new.self c.put.result c.place_of-place.result
    (rw c.pairs.ensures.value at c.place_of-place.ensures.within)
    c.put.ensures.ok c.put.ensures.err c.put.ensures.refused c.put.ensures.with_spare

pub returns-clause-inserts : goal.returns-clause-inserts
returns-clause-inserts g c = inserts g c

pub returns-clause-ok : goal.returns-clause-ok
returns-clause-ok g c =
    on_ok_weaker c.put.result
    (gains_live g.K.ExpiredKey.expiration g.E.Ord.cmp c.args.time c.args.self.now c.remove_expired.new.self c.remove_expired.ensures.leaves (c.args.key, c.args.val) c.put.new.self) (inserts g c).joins_live

pub returns-clause-err : goal.returns-clause-err
returns-clause-err g c = on_err_weaker c.put.result (ap (λ list. list.pairs)) (inserts g c).err

pub returns-clause-with_room : goal.returns-clause-with_room
returns-clause-with_room g c few = (inserts g c).with_spare (has_spare (length c.args.self.now.pairs) c.args.self.now.spare few)

pub returns-clause-room : goal.returns-clause-room
returns-clause-room g c =
    keeps_room g.K.ExpiredKey.expiration g.E.Ord.cmp c.args.time c.args.self.now c.remove_expired.new.self c.remove_expired.ensures.leaves (c.args.key, c.args.val) c.put.new.self c.put.ensures.room
