use Rattle.std.proofs.Common.{◌≡◌, ℕ, List, []}
use Rattle.i_tree.proofs.RbLemmas.SearchPath.Descent.{IsCutAt}
use Rattle.i_tree.specs.Rb.Shape.{rank, subtree_at, last_handle}
use Rattle.i_tree.proofs.set.tree.SetTree.last.Given as goal

-- Nothing stands behind the subtree, and the last pair in front of it is the last so far.
abbrev pub invariant-loop-here : goal.invariant-loop-here
invariant-loop-here g l =
    (front : List (ℕ × g.row.V.Denot)) × IsCutAt l.self-inside.core.shape l.here front [] × (l.last ≡ last_handle front)

abbrev pub decreases-loop-here : goal.decreases-loop-here
decreases-loop-here g l = rank (subtree_at l.here l.self-inside.core.shape)
