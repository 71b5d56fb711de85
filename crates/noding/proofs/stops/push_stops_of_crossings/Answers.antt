use Rattle.std.proofs.Common.{[], pos, get_or}
use Rattle.std.proofs.lemmas.Option.{slice_get-get_or}
use Rattle.plane.specs.declared.edge.Edge.{Edge}
use Rattle.plane.specs.Gains.{IsOfSome}
use Rattle.noding.specs.Stops.{IsStopAtCrossing}
use Rattle.noding.specs.declared.crossings.Crossing.{Crossing}
use Rattle.noding.proofs.ChainLemmas.Crossed.{gains-of_both}
use Rattle.plane.proofs.GainsLemmas.{gains-all, gains-next, gains-none, none_of}
use Rattle.noding.proofs.stops.push_stops_of_crossings.Goals as goal

pub loop-crossing-init : goal.loop-crossing-init
loop-crossing-init g c = gains-none (IsOfSome (IsStopAtCrossing c.args.edges.now) []) c.args.stops.now.items (none_of (IsStopAtCrossing c.args.edges.now))

pub loop-crossing-preserved : goal.loop-crossing-preserved
loop-crossing-preserved g c =
    let edges = c.args.edges.now in
    let crossings = c.args.crossings.now in
    let k = c.loop-crossing.crossing-index in
    let now = c.loop-crossing.stops.items in
    let after = c.push_stops_of_both.new.stops.items in
    let none : Edge = record { x0 = pos 0; y0 = pos 0; x1 = pos 0; y1 = pos 0 } in
    let nowhere : Crossing = record { one = 0; other = 0; point = record { x = pos 0; y = pos 0 } } in
    let crossing = get_or crossings k nowhere in
    let (first, second) = c.requires k nowhere c.loop-crossing-test.true in
    gains-next (IsStopAtCrossing edges) crossings k nowhere c.args.stops.now.items now after c.loop-crossing-test.true c.loop-crossing.invariant
    (gains-of_both edges crossing (get_or edges crossing.one none) (get_or edges crossing.other none) now after (slice_get-get_or edges crossing.one none first) (slice_get-get_or edges crossing.other none second) c.in_ok-push_stops_of_both.ensures)

pub returns : goal.returns
returns g c = gains-all (IsStopAtCrossing c.args.edges.now) c.args.crossings.now c.loop-crossing.crossing-index c.args.stops.now.items c.loop-crossing.stops.items c.loop-crossing-test.false c.loop-crossing.invariant
