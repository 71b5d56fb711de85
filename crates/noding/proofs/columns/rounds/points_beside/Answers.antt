use Rattle.std.proofs.Common.{List, subst}
use Rattle.plane.specs.declared.point.Point.{Point}
use Rattle.plane.specs.Gains.{GainsThese, IsOfSome}
use Rattle.plane.proofs.GainsLemmas.{gained-all}
use Rattle.noding.specs.Local.{IsPointBeside}
use Rattle.noding.proofs.ChainLemmas.Between.{AreFirst-crossed}
use Rattle.noding.proofs.columns.rounds.points_beside.Goals as goal

pub returns : goal.returns
returns g c =
    let edges = c.args.edges.now in
    let crossings = c.args.crossings.now in
    let points = c.push_points_beside.new.points.items in
    AreFirst-crossed edges crossings c.requires points
    (gained-all (IsOfSome (IsPointBeside edges) crossings) points
    (subst (λ (before : List Point). GainsThese (IsOfSome (IsPointBeside edges) crossings) before points) c.new-points.ensures.items c.in_ok-push_points_beside.ensures))
