use Rattle.std.proofs.lemmas.Result.{on_ok_weaker}
use Rattle.i_tree.proofs.RbLemmas.SearchPath.Insertion.{Joins-values}
use Rattle.i_tree.proofs.SetLemmas.Handles.{AreApart-from_handles}
use Rattle.i_tree.specs.Rb.Shape.{entries}
use Rattle.i_tree.proofs.set.tree.SetTreeSetCollection.insert.Goals as goal

pub returns-clause-ok : goal.returns-clause-ok
returns-clause-ok g c =
    on_ok_weaker c.insert_counted.result
    (λ joins. Joins-values (entries c.args.self.now.shape) (entries c.insert_counted.new.self.shape) joins.0 joins.1 c.args.val joins.2 joins.3 joins.4)
    c.insert_counted.ensures.joins

pub returns-clause-handles : goal.returns-clause-handles
returns-clause-handles g c = AreApart-from_handles c.insert_counted.new.self.shape c.insert_counted.ensures.core.handles
