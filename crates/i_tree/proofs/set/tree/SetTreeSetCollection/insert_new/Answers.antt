use Rattle.std.proofs.lemmas.Result.{on_ok_weaker}
use Rattle.i_tree.proofs.RbLemmas.SearchPath.Insertion.{Joins-values}
use Rattle.i_tree.proofs.SetLemmas.Handles.{AreApart-from_handles}
use Rattle.i_tree.proofs.SetLemmas.Insertion.{IfAbsent-weaker}
use Rattle.i_tree.specs.Rb.Shape.{entries}
use Rattle.i_tree.proofs.set.tree.SetTreeSetCollection.insert_new.Goals as goal

pub returns-clause-ok : goal.returns-clause-ok
returns-clause-ok g c =
    IfAbsent-weaker c.insert_new_counted.result
    (λ insertion inserts.
    on_ok_weaker insertion
    (λ joins. Joins-values (entries c.args.self.now.shape) (entries c.insert_new_counted.new.self.shape) joins.0 joins.1 c.args.val joins.2 joins.3 joins.4)
    inserts.joins)
    c.insert_new_counted.ensures.inserts

pub returns-clause-handles : goal.returns-clause-handles
returns-clause-handles g c = AreApart-from_handles c.insert_new_counted.new.self.shape c.insert_new_counted.ensures.core.handles
