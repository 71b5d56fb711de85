use Rattle.std.proofs.Common.{pos}
use Rattle.noding.specs.Local.{IsPointBeside}
use Rattle.noding.specs.declared.crossings.Crossing.{Crossing}
use Rattle.plane.proofs.GainsLemmas.{gains-all, gains-next}
use Rattle.noding.proofs.columns.rounds.push_points_beside.Goals as goal

pub loop-crossing-preserved : goal.loop-crossing-preserved
loop-crossing-preserved g c =
    let none : Crossing = record { one = 0; other = 0; point = record { x = pos 0; y = pos 0 } } in
    gains-next (IsPointBeside c.args.edges.now) c.args.crossings.now c.loop-crossing.crossing-index none c.args.points.now.items c.loop-crossing.points.items c.push_if_beside.new.points.items
    c.loop-crossing-test.true c.loop-crossing.invariant c.in_ok-push_if_beside.ensures

pub returns : goal.returns
returns g c =
    gains-all (IsPointBeside c.args.edges.now) c.args.crossings.now c.loop-crossing.crossing-index c.args.points.now.items c.loop-crossing.points.items c.loop-crossing-test.false c.loop-crossing.invariant
