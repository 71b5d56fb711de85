use Rattle.i_tree.proofs.ExpiringLemmas.Insertion.{refused_memory}
use Rattle.i_tree.proofs.key.tree.KeyExpTreeKeyExpCollection.insert.Goals as goal

pub returns-clause-refused : goal.returns-clause-refused
returns-clause-refused g c few =
    let ensures = c.insert_counted.ensures in
    refused_memory c.args.self.now c.insert_counted.new.self c.insert_counted.result ensures.with_spare ensures.refused few
