use Rattle.std.proofs.Common.{◌<◌, length}
use Rattle.i_tree.proofs.SetLemmas.Ordered.{IsRisingFrom}
use Rattle.i_tree.specs.Rb.Shape.{entries}
use Rattle.i_tree.proofs.set.tree.SetTreeSetCollection.is_ordered.Given as goal

-- From the handle on, of as many pairs as the counter says, the keys rise.
abbrev pub invariant-loop : goal.invariant-loop
invariant-loop g l =
    0 < length (entries l.self.shape) → IsRisingFrom g.V.KeyValue.key_of g.K.Ord.cmp (entries l.self.shape) l.here l.counter
