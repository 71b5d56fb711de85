use Rattle.std.proofs.Common.{pos, get_or}
use Rattle.std.proofs.lemmas.Option.{slice_get-get_or}
use Rattle.plane.specs.declared.edge.Edge.{Edge}
use Rattle.noding.proofs.ChainLemmas.Crossings.{gains-at_end, gains-inside}
use Rattle.noding.proofs.crossings.push_point_inside.Goals as goal

abbrev none : Edge
none = record { x0 = pos 0; y0 = pos 0; x1 = pos 0; y1 = pos 0 }

pub returns-then-is_end_of_one : goal.returns-then-is_end_of_one
returns-then-is_end_of_one g c =
    let edges = c.args.edges.now in
    let crossing = c.args.crossing in
    gains-at_end edges crossing (get_or edges crossing.one none) (get_or edges crossing.other none) (slice_get-get_or edges crossing.one none c.requires.within.0) (slice_get-get_or edges crossing.other none c.requires.within.1)
    c.args.points.now.items c.if-is_end_of_one.ensures

pub returns : goal.returns
returns g c =
    let edges = c.args.edges.now in
    let crossing = c.args.crossing in
    gains-inside edges crossing (get_or edges crossing.one none) (get_or edges crossing.other none) (slice_get-get_or edges crossing.one none c.requires.within.0) (slice_get-get_or edges crossing.other none c.requires.within.1)
    c.args.points.now.items c.push.new.self.items c.if-is_end_of_one.ensures c.in_ok-push.ensures.items
