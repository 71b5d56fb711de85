use Rattle.noding.specs.Windings.{IsClosed}
use Rattle.overlay_tests.proofs.contoured.squares.Given as goal

abbrev pub invariant-loop-k : goal.invariant-loop-k
invariant-loop-k l = IsClosed l.edges.items
