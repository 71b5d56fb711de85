use Rattle.validity.proofs.Graphs.{IsGrowing}
use Rattle.validity.proofs.one_piece.graph_of.Given as goal

-- those so far are there, and the node is that of the last one's point
abbrev pub invariant-loop-place : goal.invariant-loop-place
invariant-loop-place g l = IsGrowing l.count l.contacts l.place l.node l.graph.items
