use Rattle.overlay_tests.specs.Walks.{IsOpenWalk}
use Rattle.overlay_tests.proofs.walks.push_walk.Given as goal

-- the walk so far
abbrev pub invariant-loop-other : goal.invariant-loop-other
invariant-loop-other l = IsOpenWalk l.edges.items l.first l.last
