use Rattle.noding.specs.Columns.Ends.{upright_alone}
use Rattle.noding.specs.Columns.Passing.{nowhere}
use Rattle.noding.proofs.ColumnLemmas.PassingPairs.{mapped-all, mapped-more}
use Rattle.noding.proofs.columns.ends.uprights_alone.Goals as goal

pub loop-edge-init : goal.loop-edge-init
loop-edge-init g c = c.in_ok-uprights.ensures.items

pub loop-edge-preserved : goal.loop-edge-preserved
loop-edge-preserved g c =
    mapped-more upright_alone c.args.edges.now c.loop-edge.edge-index nowhere c.loop-edge.uprights.items c.push.new.self.items c.upright_alone.result
    c.loop-edge-test.true c.loop-edge.invariant c.in_ok-push.ensures.items c.upright_alone.ensures

pub returns : goal.returns
returns g c = mapped-all upright_alone c.args.edges.now c.loop-edge.edge-index c.loop-edge.uprights.items c.loop-edge-test.false c.loop-edge.invariant
