use Rattle.std.proofs.Common.{sym, subst}
use Rattle.std.proofs.lemmas.Result.{on_ok_weaker}
use Rattle.i_tree.specs.Set.Pairs.{IsOrdered}
use Rattle.i_tree.specs.Set.SetList.{Contents, numbered}
use Rattle.i_tree.specs.declared.TheConstants.{EMPTY_REF}
use Rattle.i_tree.proofs.SetLemmas.Insertion.{on_either}
use Rattle.i_tree.proofs.SetLemmas.Positions.{has_room, joins_numbered, ordered-insert}
use Rattle.i_tree.proofs.set.list.SetListSetCollection.insert.Goals as goal

pub returns-clause-ok : goal.returns-clause-ok
returns-clause-ok g c =
    on_ok_weaker c.put.result (λ joins. joins_numbered c.args.self.now.values c.put.new.self.values joins.0 c.args.val joins.1 joins.3) c.put.ensures.inserts.joins

pub returns-clause-in_order : goal.returns-clause-in_order
returns-clause-in_order g c =
    let key_of = g.V.KeyValue.key_of in
    on_either c.put.result c.put.ensures.inserts.joins c.put.ensures.inserts.err
    (λ joins. subst (λ values. IsOrdered key_of g.K.Ord.cmp (numbered values)) (sym joins.3)
    (ordered-insert key_of g.met.K.Ord.total c.args.self.now.values c.args.val joins.0 c.requires.in_order c.requires.absent joins.2 joins.1))
    (λ same. subst (λ (list : Contents g.row.V.Denot). IsOrdered key_of g.K.Ord.cmp (numbered list.values)) (sym same) c.requires.in_order)

pub returns-clause-with_room : goal.returns-clause-with_room
returns-clause-with_room g c few =
    let (short, some) = has_room c.args.self.now.values EMPTY_REF c.args.self.now.spare few in
    c.put.ensures.inserts.with_spare short some
