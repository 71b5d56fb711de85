use Rattle.std.proofs.Common.{List, drop, subst, sym, take}
use Rattle.plane.specs.declared.edge.Edge.{Edge}
use Rattle.noding.specs.Windings.{IsClosed}
use Rattle.overlay_tests.proofs.walks.bound_walks.Goals as goal

pub boundary-requires-clause-closed : goal.boundary-requires-clause-closed
boundary-requires-clause-closed g c = subst (λ (edges : List Edge). IsClosed (take c.in_ok-edges.count edges)) (sym c.deref.ensures.value) c.in_ok-edges.ensures.closed

pub boundary-requires-clause-clip_closed : goal.boundary-requires-clause-clip_closed
boundary-requires-clause-clip_closed g c = subst (λ (edges : List Edge). IsClosed (drop c.in_ok-edges.count edges)) (sym c.deref.ensures.value) c.in_ok-edges.ensures.clip_closed
