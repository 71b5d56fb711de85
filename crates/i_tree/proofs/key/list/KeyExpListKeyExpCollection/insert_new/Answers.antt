use Rattle.std.proofs.Common.{ap, length, Ok, Err}
use Rattle.i_tree.proofs.KeyLemmas.ListInsertion.{gains_live, has_spare, inserts_at, keeps_room}
use Rattle.i_tree.proofs.key.list.KeyExpListKeyExpCollection.insert_new.Goals as goal

-- a key that is left compares Equal
pub returns-then-has_key_at-clause-cases : goal.returns-then-has_key_at-clause-cases
returns-then-has_key_at-clause-cases g c = rw (← c.remove_expired.ensures.leaves.keeps_live, ← c.pairs-2.ensures.value) (c.if-has_key_at.ensures)

pub returns-in-Err-clause-inserts : goal.returns-in-Err-clause-inserts
returns-in-Err-clause-inserts g c =
    inserts_at g.K.ExpiredKey.expiration g.E.Ord.cmp c.args.time c.args.self.now c.remove_expired.new.self c.remove_expired.ensures.leaves (c.args.key, c.args.val) c.put.new.self (Err c.in-Err.cause) c.place_of-place.result
    (rw c.pairs.ensures.value at c.place_of-place.ensures.within)
    (c.in-Err.ensures).ok (c.in-Err.ensures).err (c.in-Err.ensures).refused (c.in-Err.ensures).with_spare

pub returns-in-Err-clause-err : goal.returns-in-Err-clause-err
returns-in-Err-clause-err g c = ap (λ list. list.pairs) (returns-in-Err-clause-inserts g c).err

pub returns-in-Err-clause-with_room : goal.returns-in-Err-clause-with_room
returns-in-Err-clause-with_room g c few = (returns-in-Err-clause-inserts g c).with_spare (has_spare (length c.args.self.now.pairs) c.args.self.now.spare few)

pub returns-in-Err-clause-room : goal.returns-in-Err-clause-room
returns-in-Err-clause-room g c =
    keeps_room g.K.ExpiredKey.expiration g.E.Ord.cmp c.args.time c.args.self.now c.remove_expired.new.self c.remove_expired.ensures.leaves (c.args.key, c.args.val) c.put.new.self c.put.ensures.room

pub returns-clause-inserts : goal.returns-clause-inserts
returns-clause-inserts g c =
    inserts_at g.K.ExpiredKey.expiration g.E.Ord.cmp c.args.time c.args.self.now c.remove_expired.new.self c.remove_expired.ensures.leaves (c.args.key, c.args.val) c.put.new.self (Ok c.in_default.field-0) c.place_of-place.result
    (rw c.pairs.ensures.value at c.place_of-place.ensures.within)
    (c.in_default.ensures).ok (c.in_default.ensures).err (c.in_default.ensures).refused (c.in_default.ensures).with_spare

pub returns-clause-ok : goal.returns-clause-ok
returns-clause-ok g c =
    gains_live g.K.ExpiredKey.expiration g.E.Ord.cmp c.args.time c.args.self.now c.remove_expired.new.self c.remove_expired.ensures.leaves (c.args.key, c.args.val) c.put.new.self (returns-clause-inserts g c).joins_live

pub returns-clause-room : goal.returns-clause-room
returns-clause-room g c =
    keeps_room g.K.ExpiredKey.expiration g.E.Ord.cmp c.args.time c.args.self.now c.remove_expired.new.self c.remove_expired.ensures.leaves (c.args.key, c.args.val) c.put.new.self c.put.ensures.room
