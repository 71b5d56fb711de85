use Rattle.std.proofs.Common.{List, sym, subst}
use Rattle.plane.specs.declared.edge.Edge.{Edge}
use Rattle.noding.specs.Windings.{IsClosed}
use Rattle.overlay_tests.proofs.contoured.has_rings.Goals as goal

pub trace-outcome-requires : goal.trace-outcome-requires
trace-outcome-requires c = subst (λ (edges : List Edge). IsClosed edges) (sym c.deref.ensures.value) c.in_ok-edges.ensures
