use Rattle.std.specs.Fn.{FnReturnsAt}
use Rattle.i_tree.specs.Root.BinarySearch.{Surrounds}
use Rattle.i_tree.proofs.binary_search.count_passing.Given as goal

abbrev pub invariant-loop-window : goal.invariant-loop-window
invariant-loop-window g l = Surrounds (λ item answer. FnReturnsAt g.P.Fn l.passes item answer) l.items l.window.start l.window.size

abbrev pub decreases-loop-window : goal.decreases-loop-window
decreases-loop-window g l = l.window.size
