use Rattle.std.proofs.Common.{◌≡◌, ◌+◌, ◌≤◌, ◌<◌, Bool, true, false, Result, Ok, Err, length, refl, arith}
use Rattle.i_tree.proofs.ExpiringLemmas.Insertion.{refused_memory, room_grown, room_same}
use Rattle.i_tree.specs.Expiring.Tree.{items}
use Rattle.i_tree.specs.Root.Causes.{RefusedFor}
use Rattle.i_tree.specs.declared.Refusal.{Refusal}
use Rattle.i_tree.specs.declared.Refusal.TheVariants.{OutOfMemory}
use Rattle.i_tree.specs.declared.TheConstants.{EMPTY_REF}
use Rattle.i_tree.proofs.key.tree.KeyExpTreeKeyExpCollection.insert_new.Goals as goal

room : (g : _) (c : goal.After-insert_new_counted g) (result : Result Bool Refusal) → c.insert_new_counted.result ≡ result
    → length (items c.args.self.now.shape) + c.args.self.now.spare ≤ length (items c.insert_new_counted.new.self.shape) + c.insert_new_counted.new.self.spare
room g c (Ok true) is = let added = rw is at c.insert_new_counted.ensures.inserts in room_grown c.args.self.now c.insert_new_counted.new.self added.slots
room g c (Ok false) is = let left = rw is at c.insert_new_counted.ensures.inserts in room_same c.args.self.now c.insert_new_counted.new.self left.slots
room g c (Err cause) is = let added = rw is at c.insert_new_counted.ensures.inserts in rw (added.err) (omega arith)

pub returns-clause-room : goal.returns-clause-room
returns-clause-room g c = room g c c.insert_new_counted.result refl

for_memory : (g : _) (c : goal.After-insert_new_counted g) (result : Result Bool Refusal) → c.insert_new_counted.result ≡ result
    → length (items c.args.self.now.shape) + 1 < EMPTY_REF → RefusedFor OutOfMemory result
for_memory g c (Ok is_new) is few = tt
for_memory g c (Err cause) is few = let added = rw is at c.insert_new_counted.ensures.inserts in refused_memory c.args.self.now c.insert_new_counted.new.self {A = Bool} (Err cause) added.with_spare added.refused few

pub returns-clause-refused : goal.returns-clause-refused
returns-clause-refused g c few = for_memory g c c.insert_new_counted.result refl few
