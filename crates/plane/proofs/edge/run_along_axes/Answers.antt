use Rattle.std.proofs.Common.{pos, subst}
use Rattle.std.specs.List.{All}
use Rattle.std.proofs.lemmas.List.{take_all}
use Rattle.std.proofs.lemmas.List.Elements.{All-more}
use Rattle.plane.specs.declared.edge.Edge.{Edge}
use Rattle.plane.specs.Lines.{IsAlongAxis}
use Rattle.plane.proofs.edge.run_along_axes.Goals as goal

pub loop-edge-preserved : goal.loop-edge-preserved
loop-edge-preserved c =
    let edges = c.args.edges.now in
    let k = c.loop-edge.edge-index in
    let none : Edge = record { x0 = pos 0; y0 = pos 0; x1 = pos 0; y1 = pos 0 } in
    All-more IsAlongAxis edges k none c.loop-edge-test.true c.loop-edge.invariant c.if-not-is_along_axis.ensures

pub returns : goal.returns
returns c = subst (All IsAlongAxis) (take_all c.loop-edge.edge-index c.args.edges.now c.loop-edge-test.false) c.loop-edge.invariant
