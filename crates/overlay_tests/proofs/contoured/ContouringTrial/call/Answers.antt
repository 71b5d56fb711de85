use Rattle.std.proofs.Common.{List, sym, subst}
use Rattle.plane.specs.declared.edge.Edge.{Edge}
use Rattle.noding.specs.Windings.{IsClosed}
use Rattle.overlay_tests.proofs.contoured.ContouringTrial.call.Goals as goal

pub contours-contoured-requires : goal.contours-contoured-requires
contours-contoured-requires c = subst (λ (edges : List Edge). IsClosed edges) (sym c.deref.ensures.value) c.args.self.now.closed
