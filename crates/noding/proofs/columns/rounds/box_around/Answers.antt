use Rattle.std.proofs.Common.{pos, subst}
use Rattle.std.proofs.lemmas.List.{take_all}
use Rattle.std.specs.List.{All}
use Rattle.plane.specs.declared.pairs.items.Bounds.{Bounds}
use Rattle.plane.specs.declared.point.Point.{Point}
use Rattle.plane.specs.Pairs.Bounds.{IsWithinBox}
use Rattle.noding.specs.Columns.Rounds.{IsWithin}
use Rattle.noding.proofs.ColumnLemmas.Near.{within-more}
use Rattle.noding.proofs.columns.rounds.box_around.Goals as goal

pub loop-point-preserved : goal.loop-point-preserved
loop-point-preserved c =
    let none : Point = record { x = pos 0; y = pos 0 } in
    let joined = c.join_boxes-around.result in
    within-more c.args.points.now c.loop-point.point-index none c.loop-point.around joined c.loop-point-test.true c.loop-point.invariant c.join_boxes-around.ensures.one
    (subst (λ (box : Bounds). IsWithinBox box joined) c.bounds.ensures c.join_boxes-around.ensures.other)

pub returns : goal.returns
returns c = subst (All (IsWithin c.loop-point.around)) (take_all c.loop-point.point-index c.args.points.now c.loop-point-test.false) c.loop-point.invariant
