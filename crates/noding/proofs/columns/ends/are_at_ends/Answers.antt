use Rattle.std.proofs.Common.{pos, subst}
use Rattle.std.specs.List.{All}
use Rattle.std.proofs.lemmas.Bool.{OnTrue_at}
use Rattle.std.proofs.lemmas.List.{take_all}
use Rattle.plane.specs.declared.edge.Edge.{Edge}
use Rattle.noding.specs.Columns.Ends.{LiesAtEnd}
use Rattle.noding.specs.declared.crossings.Crossing.{Crossing}
use Rattle.noding.proofs.ColumnLemmas.Ends.{at_ends-more}
use Rattle.noding.proofs.columns.ends.are_at_ends.Goals as goal

pub loop-crossing-preserved : goal.loop-crossing-preserved
loop-crossing-preserved c =
    let none : Edge = record { x0 = pos 0; y0 = pos 0; x1 = pos 0; y1 = pos 0 } in
    let no_crossing : Crossing = record { one = 0; other = 0; point = record { x = pos 0; y = pos 0 } } in
    let k = c.loop-crossing.crossing-index in
    at_ends-more c.args.edges.now c.args.crossings.now k none no_crossing c.loop-crossing-test.true (c.requires k no_crossing c.loop-crossing-test.true) c.loop-crossing.invariant
    (OnTrue_at c.if-not-lies_at_end.false c.lies_at_end.ensures.end) (OnTrue_at c.if-not-lies_at_end.false c.lies_at_end.ensures.on)

pub returns : goal.returns
returns c = subst (All (LiesAtEnd c.args.edges.now)) (take_all c.loop-crossing.crossing-index c.args.crossings.now c.loop-crossing-test.false) c.loop-crossing.invariant
