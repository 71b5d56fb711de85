use Rattle.std.proofs.Common.{refl}
use Rattle.i_tree.specs.Set.Pairs.{LacksKey}
use Rattle.i_tree.specs.Set.SetList.{numbered}
use Rattle.i_tree.specs.declared.TheConstants.{EMPTY_REF}
use Rattle.i_tree.proofs.SetLemmas.Positions.{AreApart-viewed, has_room, joins_numbered, ordered-insert}
use Rattle.i_tree.proofs.set.list.SetListSetCollection.insert_new.Goals as goal

pub returns-then-has_key_at-clause-present : goal.returns-then-has_key_at-clause-present
returns-then-has_key_at-clause-present g c = (refl, rw (← c.key-2.ensures, ← c.self.view_is, ← c.deref-2.ensures.value) c.if-has_key_at.ensures, refl)

pub returns-then-has_key_at-clause-handles : goal.returns-then-has_key_at-clause-handles
returns-then-has_key_at-clause-handles g c = AreApart-viewed c.self.view_is c.self.invariant

pub returns-clause-ok : goal.returns-clause-ok
returns-clause-ok g c =
    let joins = c.in_ok-put.ensures.inserts.joins in
    joins_numbered c.args.self.now.values c.put.new.self.values joins.0 c.args.val joins.1 joins.3

pub returns-clause-in_order : goal.returns-clause-in_order
returns-clause-in_order g c =
    let joins = c.in_ok-put.ensures.inserts.joins in
    let absent : LacksKey g.V.KeyValue.key_of g.K.Ord.cmp (numbered c.args.self.now.values) (g.V.KeyValue.key_of c.args.val) = rw (← c.key-2.ensures, ← c.self.view_is, ← c.deref-2.ensures.value) c.if-has_key_at.ensures in
    rw joins.3 (ordered-insert g.V.KeyValue.key_of g.met.K.Ord.total c.args.self.now.values c.args.val joins.0 c.requires absent joins.2 joins.1)

pub returns-in_err-put-clause-with_room : goal.returns-in_err-put-clause-with_room
returns-in_err-put-clause-with_room g c few =
    let (short, some) = has_room c.args.self.now.values EMPTY_REF c.args.self.now.spare few in
    absurd (cc (c.in_err-put.ensures.inserts.with_spare short some))
