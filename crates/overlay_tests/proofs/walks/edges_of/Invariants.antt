use Rattle.noding.specs.Windings.{IsClosed}
use Rattle.overlay_tests.proofs.walks.edges_of.Given as goal

abbrev pub invariant-loop-walk : goal.invariant-loop-walk
invariant-loop-walk l = IsClosed l.edges.items
