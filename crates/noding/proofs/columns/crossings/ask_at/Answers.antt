use Rattle.std.proofs.Common.{pos}
use Rattle.noding.proofs.ColumnLemmas.Ends.{asked-each, asked-first, asked-next}
use Rattle.noding.proofs.columns.crossings.ask_at.Goals as goal

pub loop-point-init : goal.loop-point-init
loop-point-init g c = asked-first c.args.points.now c.args.asked.now.items

pub loop-point-preserved : goal.loop-point-preserved
loop-point-preserved g c =
    asked-next c.args.points.now c.args.asked.now.items c.loop-point.point-index (record { x = pos 0; y = pos 0 }) c.loop-point.asked.items c.push.new.self.items c.asked_at.result
    c.loop-point-test.true c.loop-point.invariant c.in_ok-push.ensures.items c.asked_at.ensures

pub returns : goal.returns
returns g c = asked-each c.args.points.now c.args.asked.now.items c.loop-point.point-index c.loop-point.asked.items c.loop-point-test.false c.loop-point.invariant
