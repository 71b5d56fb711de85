use Rattle.std.proofs.Common.{◌≡◌, ℕ, ◌+◌, ◌-◌, length, subst, arith}
use Rattle.std.proofs.lemmas.Result.{on_ok_weaker}
use Rattle.i_tree.specs.Rb.RbTree.{Contents}
use Rattle.i_tree.specs.Expiring.Tree.{items}
use Rattle.runs.specs.Counted.{CountsOne}
use Rattle.runs.specs.KeyRoom.{RefusedOnlyWhereFull}
use Rattle.runs.proofs.RunLemmas.Counted.{counts_run, counted_room}
use Rattle.runs.proofs.RunLemmas.KeyRoom.{refused_where_full}
use Rattle.runs.proofs.key_tree.run_key_tree_counted.Goals as goal

-- what there is room for beside what is stored is what is spare
spare_is : (stored spare : ℕ) → stored + spare - stored ≡ spare
spare_is stored spare = omega arith

pub returns-clause-run : goal.returns-clause-run
returns-clause-run g c =
    let stored : Contents (g.row.K.Denot × g.row.V.Denot) → ℕ = λ tree. length (items tree.shape) in
    on_ok_weaker c.run_by.result
    (λ (replies, are, each, done, run). (
      replies,
      are,
      each,
      counts_run c.args.commands.now replies c.args.steps.now c.args.tree.now c.run_by.new.calls c.run_by.new.c each done,
      subst (λ spare. RefusedOnlyWhereFull spare replies) (spare_is (stored c.args.tree.now) c.args.tree.now.spare)
          (refused_where_full CountsOne (λ tree. stored tree + tree.spare) stored counted_room replies c.args.steps.now c.args.tree.now c.run_by.new.calls c.run_by.new.c done),
      run,
    ))
    c.run_by.ensures.run
