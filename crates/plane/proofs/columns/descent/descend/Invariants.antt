use Rattle.i_tree.proofs.RbLemmas.SearchPath.Descent.{IsPath}
use Rattle.i_tree.proofs.RbLemmas.SearchPath.Counts.{IsCompared}
use Rattle.i_tree.specs.Rb.Place.{place_below}
use Rattle.i_tree.specs.Rb.Shape.{rank, subtree_at}
use Rattle.i_tree.specs.declared.TheConstants.{EMPTY_REF}
use Rattle.plane.proofs.ColumnLemmas.StatusDescent.{FindsInFront, BeginsBehind}
use Rattle.plane.proofs.columns.descent.descend.Given as goal

-- the last entry in front of the subtree stands in front of what is sought, and the first behind it doesn't
abbrev pub invariant-loop-here : goal.invariant-loop-here
invariant-loop-here g l = record {
  way : IsPath (FindsInFront l.sought) (BeginsBehind l.sought) EMPTY_REF l.tree.shape l.here (place_below l.above l.on_right) l.last;
  counted : IsCompared g.C.Counter.made l.fn.steps l.steps (rank l.tree.shape) (rank (subtree_at l.here l.tree.shape));
}

abbrev pub decreases-loop-here : goal.decreases-loop-here
decreases-loop-here g l = rank (subtree_at l.here l.tree.shape)
