use Rattle.std.specs.Bool.{⊤}
use Rattle.std.specs.Fn.{FnReturnsAt}
use Rattle.std.specs.declared.cmp.Ordering.TheVariants.{Greater}
use Rattle.i_tree.proofs.RbLemmas.SearchPath.Descent.{IsPath}
use Rattle.i_tree.proofs.RbLemmas.SearchPath.Asked.{IsAsked}
use Rattle.i_tree.proofs.RbLemmas.SearchPath.Counts.{IsCompared}
use Rattle.i_tree.specs.Rb.Shape.{rank, subtree_at}
use Rattle.i_tree.specs.Rb.Place.{place_below}
use Rattle.i_tree.specs.Rb.SearchPath.{FindsNotAbove}
use Rattle.i_tree.specs.Root.Ends.{StartsIn}
use Rattle.i_tree.specs.declared.TheConstants.{EMPTY_REF}
use Rattle.i_tree.proofs.rb.search.search_down.Given as goal

-- The last entry in front of the subtree was found, and the first one behind it was called Greater.
abbrev pub invariant-loop-here : goal.invariant-loop-here
invariant-loop-here g l =
    record {
      way : IsPath (FindsNotAbove (λ item answer. FnReturnsAt g.F.Fn l.f item answer)) (StartsIn (λ entry. FnReturnsAt g.F.Fn l.f entry.1 Greater)) (EMPTY_REF, Greater) l.core.shape l.here (place_below l.above l.on_right) (l.found, l.said);
      asked : IsAsked g.C.Counter.made (λ item answer. FnReturnsAt g.F.Fn l.f item answer) ⊤ l.core.shape l.fn.steps l.steps (subtree_at l.here l.core.shape);
      counted : IsCompared g.C.Counter.made l.fn.steps l.steps (rank l.core.shape) (rank (subtree_at l.here l.core.shape));
    }

abbrev pub decreases-loop-here : goal.decreases-loop-here
decreases-loop-here g l = rank (subtree_at l.here l.core.shape)
