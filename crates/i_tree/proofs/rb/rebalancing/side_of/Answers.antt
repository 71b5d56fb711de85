use Rattle.i_tree.proofs.RbLemmas.Balance.Insertion.{side_left, side_right}
use Rattle.i_tree.proofs.rb.rebalancing.side_of.Goals as goal

pub returns-then-child : goal.returns-then-child
returns-then-child g c = side_left c.args.arena.now.shape c.args.parent c.args.child c.child.result c.child.ensures c.if-child.true

pub returns-else-child : goal.returns-else-child
returns-else-child g c = side_right c.args.arena.now.shape c.args.parent c.args.child c.child.result c.child.ensures c.if-child.false
