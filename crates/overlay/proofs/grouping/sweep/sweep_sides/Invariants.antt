use Rattle.overlay.specs.Grouping.{pieces_of}
use Rattle.overlay.proofs.GroupingLemmas.Sweep.{HasCome}
use Rattle.overlay.proofs.GroupingLemmas.Swept.{HasSwept}
use Rattle.overlay.proofs.grouping.sweep.sweep_sides.Given as goal

-- so many sides have begun, and what is below the holes that begin with these is found
abbrev pub invariant-loop-place : goal.invariant-loop-place
invariant-loop-place g l = HasCome (pieces_of l.sides) l.place (g.C.StatusCollection.stored l.status) × HasSwept l.sides l.fn.holes l.place l.next l.holes
