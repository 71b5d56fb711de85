use Rattle.std.proofs.Common.{List, subst}
use Rattle.plane.specs.declared.point.Point.{Point}
use Rattle.noding.specs.Crossings.{IsEndOf}
use Rattle.plane.specs.Gains.{GainsThese, IsOfSome}
use Rattle.noding.proofs.ColumnLemmas.Hot.{AreHot-sorted}
use Rattle.noding.proofs.columns.hot_points.hot_points.Goals as goal

pub returns : goal.returns
returns g c =
    let edges = c.args.edges.now in
    let ended = c.push_ends.new.points.items in
    let found = c.push_points.new.points.items in
    AreHot-sorted edges c.args.crossings.now c.requires ended found c.sort_points.new.points.items
    (subst (λ (before : List Point). GainsThese (IsOfSome IsEndOf edges) before ended) c.new-points.ensures.items c.in_ok-push_ends.ensures) c.in_ok-push_points.ensures c.in_ok-sort_points.ensures
