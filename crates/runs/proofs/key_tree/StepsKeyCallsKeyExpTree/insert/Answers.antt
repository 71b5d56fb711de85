use Rattle.std.proofs.Common.{false, refl}
use Rattle.std.proofs.lemmas.Bool.{both_ways}
use Rattle.runs.proofs.RunLemmas.Counted.{counts_inserted, counts_present, counts_refused}
use Rattle.runs.proofs.key_tree.StepsKeyCallsKeyExpTree.insert.Goals as goal

pub returns-in-Ok-true-clause-does : goal.returns-in-Ok-true-clause-does
returns-in-Ok-true-clause-does g c =
    let added = rw c.in-Ok-true.field-0-test at (c.in-Ok-true.ensures).inserts in
    counts_inserted c.args.self.now c.insert_new_counted.new.steps c.args.c.now c.insert_new_counted.new.self (rw c.in-Ok-true.field-0-test at (c.in-Ok-true.ensures).steps) added.slots

pub returns-in-Ok-false-clause-does : goal.returns-in-Ok-false-clause-does
returns-in-Ok-false-clause-does g c =
    let left = rw c.in-Ok-false.field-0-test at (c.in-Ok-false.ensures).inserts in
    counts_present c.args.self.now c.insert_new_counted.new.steps c.args.c.now c.insert_new_counted.new.self (rw c.in-Ok-false.field-0-test at (c.in-Ok-false.ensures).steps) left.slots

pub returns-in-Err-clause-does : goal.returns-in-Err-clause-does
returns-in-Err-clause-does g c =
    counts_refused c.args.self.now c.insert_new_counted.new.steps c.args.c.now c.insert_new_counted.new.self c.in-Err.cause (c.in-Err.ensures).err_steps (c.in-Err.ensures).err
    (λ some. both_ways false refl ((c.in-Err.ensures).with_spare some))

pub returns-in-Ok-true-clause-inserts : goal.returns-in-Ok-true-clause-inserts
returns-in-Ok-true-clause-inserts g c = (rw c.in-Ok-true.field-0-test at (c.in-Ok-true.ensures).cases, rw c.in-Ok-true.field-0-test at (c.in-Ok-true.ensures).ok)

pub returns-in-Ok-false-clause-inserts : goal.returns-in-Ok-false-clause-inserts
returns-in-Ok-false-clause-inserts g c = (rw c.in-Ok-false.field-0-test at (c.in-Ok-false.ensures).cases, rw c.in-Ok-false.field-0-test at (c.in-Ok-false.ensures).ok)
