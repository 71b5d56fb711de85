use Rattle.std.proofs.Common.{List, subst, sym}
use Rattle.plane.specs.declared.edge.Edge.{Edge}
use Rattle.noding.specs.Windings.{IsClosed}
use Rattle.overlay_tests.proofs.walks.fill_walks.Goals as goal

pub fill-outcome-requires-clause-closed : goal.fill-outcome-requires-clause-closed
fill-outcome-requires-clause-closed g c = subst (λ (edges : List Edge). IsClosed edges) (sym c.deref-4.ensures.value) c.in_ok-subject.ensures

pub fill-outcome-requires-clause-clip_closed : goal.fill-outcome-requires-clause-clip_closed
fill-outcome-requires-clause-clip_closed g c = subst (λ (edges : List Edge). IsClosed edges) (sym c.deref-5.ensures.value) c.in_ok-clip.ensures
