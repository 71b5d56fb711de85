use Rattle.std.proofs.Common.{[], pos}
use Rattle.plane.specs.declared.edge.Edge.{Edge}
use Rattle.noding.specs.Crossings.{IsEndOf}
use Rattle.plane.specs.Gains.{IsOfSome}
use Rattle.plane.proofs.GainsLemmas.{gains-all, gains-next, gains-none, none_of}
use Rattle.noding.proofs.columns.hot_points.push_ends.Goals as goal

pub loop-edge-init : goal.loop-edge-init
loop-edge-init g c = gains-none (IsOfSome IsEndOf []) c.args.points.now.items (none_of IsEndOf)

pub loop-edge-preserved : goal.loop-edge-preserved
loop-edge-preserved g c =
    let none : Edge = record { x0 = pos 0; y0 = pos 0; x1 = pos 0; y1 = pos 0 } in
    gains-next IsEndOf c.args.edges.now c.loop-edge.edge-index none c.args.points.now.items c.loop-edge.points.items c.push_both_ends.new.points.items c.loop-edge-test.true c.loop-edge.invariant c.in_ok-push_both_ends.ensures

pub returns : goal.returns
returns g c = gains-all IsEndOf c.args.edges.now c.loop-edge.edge-index c.args.points.now.items c.loop-edge.points.items c.loop-edge-test.false c.loop-edge.invariant
