use Rattle.std.proofs.Common.{List, subst}
use Rattle.noding.specs.Crossings.{IsPointInside}
use Rattle.plane.specs.Gains.{GainsThese, IsOfSome}
use Rattle.plane.specs.declared.point.Point.{Point}
use Rattle.noding.proofs.ChainLemmas.Crossings.{ArePointsInside-sorted}
use Rattle.noding.proofs.crossings.points_inside.Goals as goal

pub returns : goal.returns
returns g c =
    let edges = c.args.edges.now in
    let crossings = c.args.crossings.now in
    let found = c.push_points_inside.new.points.items in
    ArePointsInside-sorted edges crossings found c.sort_points.new.points.items
    (subst (λ (before : List Point). GainsThese (IsOfSome (IsPointInside edges) crossings) before found) c.new-points.ensures.items c.in_ok-push_points_inside.ensures)
    c.in_ok-sort_points.ensures
