use Rattle.std.proofs.Common.{◌+◌, length}
use Rattle.i_tree.proofs.ExpiringLemmas.Descents.{IsDescent}
use Rattle.i_tree.specs.Rb.Place.{place_below}
use Rattle.i_tree.specs.Rb.Shape.{entries, rank, subtree_at}
use Rattle.i_tree.proofs.expiring.descent.descend.Given as goal

-- The entry in front of the subtree is live and passed, the one behind it is live and didn't, and one of them is found. What is gone was expired, and as
-- long as nothing is gone all on the search path are live.
abbrev pub invariant-loop-here : goal.invariant-loop-here
invariant-loop-here g l =
    IsDescent g.C.Counter.made (g.L.Liveness.live l.lives) (goal.F-post g l.stands) l.fn.core l.core l.fn.steps l.steps l.here (place_below l.above l.on_right) l.last l.said l.next

-- A removal makes the tree smaller and its subtree's rank no greater; each other step goes down.
abbrev pub decreases-loop-here : goal.decreases-loop-here
decreases-loop-here g l = length (entries l.core.shape) + rank (subtree_at l.here l.core.shape)
