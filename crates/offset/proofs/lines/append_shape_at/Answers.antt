use Rattle.std.proofs.Common.{◌<◌, ◌∙◌, ◌∷◌, ◌++◌, ◌≡◌, [], ap, arith, length, List, map, subst}
use Rattle.std.proofs.lemmas.List.{take_all}
use Rattle.plane.specs.declared.edge.Edge.{Edge}
use Rattle.offset.specs.Faults.{IsRawFault}
use Rattle.offset.specs.Lines.{shape_at}
use Rattle.offset.specs.Raw.{moved_edge, nowhere}
use Rattle.offset.specs.Shape.{sides}
use Rattle.offset.proofs.RawLemmas.{handed-on, mapped-fails, mapped-more}
use Rattle.offset.proofs.ShapeLemmas.{length-sides}
use Rattle.offset.proofs.lines.append_shape_at.Goals as goal

pub returns-in_err-push_moved-clause-fault : goal.returns-in_err-push_moved-clause-fault
returns-in_err-push_moved-clause-fault g c =
    let corners = c.args.shape.now in
    let size = length-sides corners in
    handed-on c.from_residual.result _ (IsRawFault (shape_at corners c.args.point)) c.from_residual.ensures.1
    (mapped-fails (moved_edge c.args.point) (sides corners) c.loop-index.index nowhere _ (omega (arith, size, c.loop-index-test.true))
    (subst (λ (side : Edge). IsRawFault (moved_edge c.args.point side ∷ []) c.in_err-push_moved.field-0.0) c.side_at.ensures c.in_err-push_moved.ensures.fault))

pub loop-index-preserved : goal.loop-index-preserved
loop-index-preserved g c =
    let corners = c.args.shape.now in
    let size = length-sides corners in
    let inside : c.loop-index.index < length (sides corners) = omega (arith, size, c.loop-index-test.true) in
    c.in_ok-push_moved.ensures.ok
    ∙ ap (λ (side : Edge). c.loop-index.edges.items ++ moved_edge c.args.point side ∷ []) c.side_at.ensures
    ∙ mapped-more (moved_edge c.args.point) (sides corners) c.loop-index.index nowhere c.args.edges.now.items c.loop-index.edges.items inside c.loop-index.invariant

pub returns-clause-ok : goal.returns-clause-ok
returns-clause-ok g c =
    let corners = c.args.shape.now in
    let size = length-sides corners in
    c.loop-index.invariant
    ∙ ap (λ (all : List Edge). c.args.edges.now.items ++ map (moved_edge c.args.point) all) (take_all c.loop-index.index (sides corners) (omega (arith, size, c.loop-index-test.false)))
