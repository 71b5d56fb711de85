use Rattle.std.proofs.Common.{pos, get_or}
use Rattle.std.proofs.lemmas.Option.{slice_get-get_or}
use Rattle.plane.specs.declared.edge.Edge.{Edge}
use Rattle.noding.proofs.ChainLemmas.Asked.{asked-all, asked-first, asked-next}
use Rattle.noding.proofs.stops.push_stops_of_all.Goals as goal

abbrev none : Edge
none = record { x0 = pos 0; y0 = pos 0; x1 = pos 0; y1 = pos 0 }

pub loop-place-init : goal.loop-place-init
loop-place-init g c = asked-first c.args.edges.now c.args.crossing.point c.args.stops.now.items

pub push_if_passed-requires : goal.push_if_passed-requires
push_if_passed-requires g c =
    let edges = c.args.edges.now in
    let place = c.loop-place.place in
    c.requires place (get_or edges place none) (slice_get-get_or edges place none c.loop-place-test.true)

pub loop-place-preserved : goal.loop-place-preserved
loop-place-preserved g c =
    let edges = c.args.edges.now in
    let place = c.loop-place.place in
    asked-next edges c.args.crossing.point c.args.stops.now.items place (get_or edges place none) c.loop-place.stops.items c.push_if_passed.new.stops.items
    (slice_get-get_or edges place none c.loop-place-test.true) c.loop-place.invariant c.in_ok-push_if_passed.ensures

pub returns : goal.returns
returns g c = asked-all c.args.edges.now c.args.crossing.point c.args.stops.now.items c.loop-place.place c.loop-place.stops.items c.loop-place-test.false c.loop-place.invariant
