use Rattle.std.proofs.Common.{List, ap, drop, subst, sym, take, ◌∙◌}
use Rattle.plane.specs.declared.edge.Edge.{Edge}
use Rattle.noding.specs.Windings.{IsClosed}
use Rattle.overlay.specs.Rings.{edges_of, real_edges}
use Rattle.overlay.proofs.Callers.{edges-closed}
use Rattle.monotone_chains.proofs.call.ByChainsBounding.append_boundary.Goals as goal

pub boundary_along-requires : goal.boundary_along-requires
boundary_along-requires g c = record {
  cut = (real_edges (edges_of c.args.operands.subject), real_edges (edges_of c.args.operands.clip), edges-closed c.args.operands.subject, edges-closed c.args.operands.clip, rw c.in-Some.is at c.in_ok-stretches.ensures.ok);
}

pub boundary-requires-clause-closed : goal.boundary-requires-clause-closed
boundary-requires-clause-closed g c =
    subst IsClosed (sym (ap (λ (edges : List Edge). take c.in_ok-edges.count edges) c.deref.ensures.value ∙ c.in_ok-edges.ensures.subject)) (edges-closed c.args.operands.subject)

pub boundary-requires-clause-clip_closed : goal.boundary-requires-clause-clip_closed
boundary-requires-clause-clip_closed g c =
    subst IsClosed (sym (ap (λ (edges : List Edge). drop c.in_ok-edges.count edges) c.deref.ensures.value ∙ c.in_ok-edges.ensures.clip)) (edges-closed c.args.operands.clip)
