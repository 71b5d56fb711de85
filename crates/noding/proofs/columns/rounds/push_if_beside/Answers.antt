use Rattle.std.proofs.Common.{get_or, pos}
use Rattle.std.proofs.lemmas.Option.{slice_get-get_or}
use Rattle.plane.specs.declared.edge.Edge.{Edge}
use Rattle.noding.proofs.ChainLemmas.Crossings.{crossed-at}
use Rattle.noding.proofs.ChainLemmas.Local.{CrossBeside-of, gains-beside, gains-on_both}
use Rattle.noding.proofs.columns.rounds.push_if_beside.Goals as goal

abbrev none : Edge
none = record { x0 = pos 0; y0 = pos 0; x1 = pos 0; y1 = pos 0 }

pub returns-in_ok-push : goal.returns-in_ok-push
returns-in_ok-push g c =
    let edges = c.args.edges.now in
    let crossing = c.args.crossing in
    let one = get_or edges crossing.one none in
    let other = get_or edges crossing.other none in
    let stands = slice_get-get_or edges crossing.one none c.requires.within.0 in
    let other_stands = slice_get-get_or edges crossing.other none c.requires.within.1 in
    gains-beside edges crossing one other stands other_stands c.args.points.now.items c.push.new.self.items
    (CrossBeside-of one other crossing.point.x crossing.point.y (crossed-at edges crossing one other stands other_stands c.requires.is) c.if-not-lie_on.ensures) c.in_ok-push.ensures.items

pub returns-else-not-lie_on : goal.returns-else-not-lie_on
returns-else-not-lie_on g c =
    let edges = c.args.edges.now in
    let crossing = c.args.crossing in
    gains-on_both edges crossing (get_or edges crossing.one none) (get_or edges crossing.other none) (slice_get-get_or edges crossing.one none c.requires.within.0) (slice_get-get_or edges crossing.other none c.requires.within.1) c.args.points.now.items c.if-not-lie_on.ensures
