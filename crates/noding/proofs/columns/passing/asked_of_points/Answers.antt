use Rattle.std.proofs.Common.{pos}
use Rattle.noding.specs.Columns.Passing.{asked_of}
use Rattle.noding.proofs.ColumnLemmas.PassingPairs.{mapped-all, mapped-more}
use Rattle.noding.proofs.columns.passing.asked_of_points.Goals as goal

pub loop-point-init : goal.loop-point-init
loop-point-init g c = c.in_ok-asked.ensures.items

pub loop-point-preserved : goal.loop-point-preserved
loop-point-preserved g c =
    mapped-more (asked_of c.args.steep) c.args.points.now c.loop-point.point-index (record { x = pos 0; y = pos 0 }) c.loop-point.asked.items c.push.new.self.items c.asked_of.result
    c.loop-point-test.true c.loop-point.invariant c.in_ok-push.ensures.items c.asked_of.ensures

pub returns : goal.returns
returns g c = mapped-all (asked_of c.args.steep) c.args.points.now c.loop-point.point-index c.loop-point.asked.items c.loop-point-test.false c.loop-point.invariant
