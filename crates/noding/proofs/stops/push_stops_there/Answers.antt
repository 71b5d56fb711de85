use Rattle.std.proofs.Common.{pos, get_or}
use Rattle.std.proofs.lemmas.Option.{slice_get-get_or}
use Rattle.plane.specs.declared.edge.Edge.{Edge}
use Rattle.noding.proofs.ChainLemmas.Asked.{passed-by_both, there-all, there-none}
use Rattle.noding.proofs.stops.push_stops_there.Goals as goal

abbrev none : Edge
none = record { x0 = pos 0; y0 = pos 0; x1 = pos 0; y1 = pos 0 }

pub returns-then-is_end_of_one : goal.returns-then-is_end_of_one
returns-then-is_end_of_one g c =
    let edges = c.args.edges.now in
    let crossing = c.args.crossing in
    there-none edges crossing (get_or edges crossing.one none) (get_or edges crossing.other none) (slice_get-get_or edges crossing.one none c.requires.within.0) (slice_get-get_or edges crossing.other none c.requires.within.1)
    c.args.stops.now.items c.if-is_end_of_one.ensures

pub push_stops_of_all-requires : goal.push_stops_of_all-requires
push_stops_of_all-requires g c =
    let edges = c.args.edges.now in
    let crossing = c.args.crossing in
    passed-by_both edges crossing (get_or edges crossing.one none) (get_or edges crossing.other none) (slice_get-get_or edges crossing.one none c.requires.within.0) (slice_get-get_or edges crossing.other none c.requires.within.1)
    c.if-is_end_of_one.ensures c.requires.is

pub returns : goal.returns
returns g c =
    let edges = c.args.edges.now in
    let crossing = c.args.crossing in
    there-all edges crossing (get_or edges crossing.one none) (get_or edges crossing.other none) (slice_get-get_or edges crossing.one none c.requires.within.0) (slice_get-get_or edges crossing.other none c.requires.within.1)
    c.if-is_end_of_one.ensures c.args.stops.now.items c.push_stops_of_all.new.stops.items c.in_ok-push_stops_of_all.ensures
