use Rattle.std.proofs.Common.{[], get_or, pos, refl}
use Rattle.noding.specs.Crossings.{IsPointOf}
use Rattle.plane.specs.Gains.{IsOfSome}
use Rattle.noding.specs.declared.crossings.Crossing.{Crossing}
use Rattle.plane.proofs.GainsLemmas.{gains-all, gains-next, gains-none, gains-only, none_of}
use Rattle.noding.proofs.columns.hot_points.push_points.Goals as goal

pub loop-crossing-init : goal.loop-crossing-init
loop-crossing-init g c = gains-none (IsOfSome IsPointOf []) c.args.points.now.items (none_of IsPointOf)

pub loop-crossing-preserved : goal.loop-crossing-preserved
loop-crossing-preserved g c =
    let none : Crossing = record { one = 0; other = 0; point = record { x = pos 0; y = pos 0 } } in
    let crossings = c.args.crossings.now in
    let k = c.loop-crossing.crossing-index in
    let crossing = get_or crossings k none in
    gains-next IsPointOf crossings k none c.args.points.now.items c.loop-crossing.points.items c.push.new.self.items c.loop-crossing-test.true c.loop-crossing.invariant
    (gains-only (IsPointOf crossing) c.loop-crossing.points.items c.push.new.self.items crossing.point refl (λ point is. is) c.in_ok-push.ensures.items)

pub returns : goal.returns
returns g c = gains-all IsPointOf c.args.crossings.now c.loop-crossing.crossing-index c.args.points.now.items c.loop-crossing.points.items c.loop-crossing-test.false c.loop-crossing.invariant
