use Rattle.std.proofs.Common.{List, subst}
use Rattle.plane.specs.declared.point.Point.{Point}
use Rattle.plane.specs.Gains.{GainsThese, IsOfSome}
use Rattle.noding.specs.Crossings.{IsPointOf}
use Rattle.noding.proofs.ColumnLemmas.Flags.{AreHot-ended}
use Rattle.noding.proofs.columns.rounds.ends_and_crossings.Goals as goal

pub returns : goal.returns
returns g c =
    let ends = c.args.ends.now in
    let crossings = c.args.crossings.now in
    let found = c.push_points.new.points.items in
    AreHot-ended c.args.edges.now crossings ends found c.requires.crossed c.requires.ends
    (subst (λ (before : List Point). GainsThese (IsOfSome IsPointOf crossings) before found) c.in_ok-points.ensures.items c.in_ok-push_points.ensures)
