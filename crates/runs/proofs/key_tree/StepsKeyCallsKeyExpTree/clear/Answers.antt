use Rattle.std.proofs.Common.{length, ap}
use Rattle.runs.proofs.RunLemmas.Counted.{counts_clear}
use Rattle.i_tree.specs.Expiring.Tree.{items}
use Rattle.runs.proofs.key_tree.StepsKeyCallsKeyExpTree.clear.Goals as goal

pub returns-clause-does : goal.returns-clause-does
returns-clause-does g c = counts_clear c.args.self.now c.args.c.now c.clear.new.self (ap (λ tree. length (items tree)) c.clear.ensures.clears.empty) c.clear.ensures.clears.slots
