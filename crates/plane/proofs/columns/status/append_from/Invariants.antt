use Rattle.std.proofs.Common.{◌+◌, ◌-◌, length}
use Rattle.i_tree.specs.Rb.Shape.{entries}
use Rattle.plane.proofs.ColumnLemmas.Comparing.{AreCompared}
use Rattle.plane.proofs.ColumnLemmas.StatusWalk.{IsAppended}
use Rattle.plane.proofs.columns.status.append_from.Given as goal

-- upto `here` the edges within have been appended, each by a comparison
abbrev pub invariant-loop-here : goal.invariant-loop-here
invariant-loop-here g l = record {
  walk : IsAppended l.asked l.place (entries l.tree.shape) l.fn.met.items l.met.items l.here;
  steps : AreCompared g.C.Counter.made l.fn.steps l.steps l.fn.met.items l.met.items;
}

-- how many edges can still be appended
abbrev pub decreases-loop-here : goal.decreases-loop-here
decreases-loop-here g l = (length l.fn.met.items + length (entries l.tree.shape)) - length l.met.items
