use Rattle.std.proofs.Common.{[], pos}
use Rattle.plane.specs.Gains.{IsOfSome}
use Rattle.noding.specs.Stops.{IsStopThere}
use Rattle.noding.specs.declared.crossings.Crossing.{Crossing}
use Rattle.plane.proofs.GainsLemmas.{gains-all, gains-next, gains-none, none_of}
use Rattle.noding.proofs.stops.push_stops_at_few.Goals as goal

pub loop-crossing-init : goal.loop-crossing-init
loop-crossing-init g c = gains-none (IsOfSome (IsStopThere c.args.edges.now) []) c.args.stops.now.items (none_of (IsStopThere c.args.edges.now))

pub loop-crossing-preserved : goal.loop-crossing-preserved
loop-crossing-preserved g c =
    let nowhere : Crossing = record { one = 0; other = 0; point = record { x = pos 0; y = pos 0 } } in
    gains-next (IsStopThere c.args.edges.now) c.args.crossings.now c.loop-crossing.crossing-index nowhere c.args.stops.now.items c.loop-crossing.stops.items c.push_stops_there.new.stops.items
    c.loop-crossing-test.true c.loop-crossing.invariant c.in_ok-push_stops_there.ensures

pub returns : goal.returns
returns g c = gains-all (IsStopThere c.args.edges.now) c.args.crossings.now c.loop-crossing.crossing-index c.args.stops.now.items c.loop-crossing.stops.items c.loop-crossing-test.false c.loop-crossing.invariant
