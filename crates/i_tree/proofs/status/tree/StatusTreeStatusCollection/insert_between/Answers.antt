use Rattle.i_tree.proofs.ExpiringLemmas.Insertion.{RefusedFor-joined, refused_memory}
use Rattle.i_tree.specs.declared.Refusal.TheVariants.{OutOfMemory}
use Rattle.i_tree.proofs.StatusLemmas.TreeInsertion.{room_kept}
use Rattle.i_tree.specs.Expiring.Insertion.{has_joined}
use Rattle.i_tree.specs.Root.Live.{is_live}
use Rattle.i_tree.proofs.status.tree.StatusTreeStatusCollection.insert_between.Goals as goal

pub returns-clause-room : goal.returns-clause-room
returns-clause-room g c =
    room_kept (is_live g.K.ExpiredVal.expiration g.E.Ord.cmp c.args.time) (goal.F-post g c.args.f) c.args.self.now (has_joined c.insert_between_counted.result) c.insert_between_counted.new.self c.insert_between_counted.ensures.inserts

pub returns-clause-refused : goal.returns-clause-refused
returns-clause-refused g c few =
    let inserts = c.insert_between_counted.ensures.inserts in
    RefusedFor-joined c.insert_between_counted.result OutOfMemory
    (refused_memory c.args.self.now c.insert_between_counted.new.self (has_joined c.insert_between_counted.result) inserts.with_spare inserts.refused few)
