use Rattle.std.proofs.Common.{subst, sym}
use Rattle.std.specs.List.{All}
use Rattle.std.proofs.lemmas.List.Elements.{All-nil, All-push}
use Rattle.noding.specs.Columns.Passing.{HasHeights, nowhere, swept_edge}
use Rattle.noding.proofs.ColumnLemmas.PassingPairs.{mapped-all, mapped-more}
use Rattle.noding.proofs.columns.passing.swept_edges.Goals as goal

pub loop-edge-init : goal.loop-edge-init
loop-edge-init g c = (c.in_ok-swept.ensures.items, subst (All HasHeights) (sym c.in_ok-swept.ensures.items) (All-nil HasHeights))

pub loop-edge-preserved : goal.loop-edge-preserved
loop-edge-preserved g c = (
  mapped-more (swept_edge c.args.steep) c.args.edges.now c.loop-edge.edge-index nowhere c.loop-edge.swept.items c.push.new.self.items c.swept_edge.result
      c.loop-edge-test.true c.loop-edge.invariant.0 c.in_ok-push.ensures.items c.swept_edge.ensures.value,
  subst (All HasHeights) (sym c.in_ok-push.ensures.items) (All-push HasHeights c.loop-edge.swept.items c.swept_edge.result c.loop-edge.invariant.1 c.swept_edge.ensures.heights),
)

pub returns-clause-value : goal.returns-clause-value
returns-clause-value g c = mapped-all (swept_edge c.args.steep) c.args.edges.now c.loop-edge.edge-index c.loop-edge.swept.items c.loop-edge-test.false c.loop-edge.invariant.0

pub returns-clause-heights : goal.returns-clause-heights
returns-clause-heights g c = c.loop-edge.invariant.1
