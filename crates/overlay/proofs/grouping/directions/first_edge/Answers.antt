use Rattle.std.proofs.Common.{◌≡◌, ◌≢◌, List, Option, ap, sym, subst, arith}
use Rattle.std.specs.Prelude.{IfSome, None}
use Rattle.std.proofs.lemmas.Grind.{common_steps}
use Rattle.plane.specs.declared.edge.Edge.{Edge}
use Rattle.overlay.specs.Contours.Rings.{ring_edges}
use Rattle.overlay.specs.Polygons.{first_sloped}
use Rattle.overlay.proofs.GroupingLemmas.Begins.{first-is_sloped}
use Rattle.overlay.proofs.GroupingLemmas.Edges.{edges_from-first}
use Rattle.overlay.proofs.grouping.directions.first_edge.Goals as goal

pub loop-place-init : goal.loop-place-init
loop-place-init c = ap (λ (edges : List Edge). first_sloped None edges) (sym (edges_from-first c.args.ring.now))

pub returns-clause-sloped : goal.returns-clause-sloped
returns-clause-sloped c =
    let whole : c.loop-place.best ≡ first_sloped None (ring_edges c.args.ring.now) = grind (arith, common_steps) in
    subst (λ (best : Option Edge). IfSome best (λ edge. edge.x0 ≢ edge.x1)) (sym whole) (first-is_sloped (ring_edges c.args.ring.now))
