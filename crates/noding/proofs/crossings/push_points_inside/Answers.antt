use Rattle.std.proofs.Common.{[], pos}
use Rattle.noding.specs.Crossings.{IsPointInside}
use Rattle.plane.specs.Gains.{IsOfSome}
use Rattle.noding.specs.declared.crossings.Crossing.{Crossing}
use Rattle.plane.proofs.GainsLemmas.{gains-all, gains-next, gains-none, none_of}
use Rattle.noding.proofs.crossings.push_points_inside.Goals as goal

pub loop-crossing-init : goal.loop-crossing-init
loop-crossing-init g c = gains-none (IsOfSome (IsPointInside c.args.edges.now) []) c.args.points.now.items (none_of (IsPointInside c.args.edges.now))

pub loop-crossing-preserved : goal.loop-crossing-preserved
loop-crossing-preserved g c =
    let none : Crossing = record { one = 0; other = 0; point = record { x = pos 0; y = pos 0 } } in
    gains-next (IsPointInside c.args.edges.now) c.args.crossings.now c.loop-crossing.crossing-index none c.args.points.now.items c.loop-crossing.points.items c.push_point_inside.new.points.items
    c.loop-crossing-test.true c.loop-crossing.invariant c.in_ok-push_point_inside.ensures

pub returns : goal.returns
returns g c = gains-all (IsPointInside c.args.edges.now) c.args.crossings.now c.loop-crossing.crossing-index c.args.points.now.items c.loop-crossing.points.items c.loop-crossing-test.false c.loop-crossing.invariant
