use Rattle.std.proofs.Common.{◌∙◌, ◌++◌, ◌≡◌, ap, arith, List, pos}
use Rattle.std.specs.List.{flat_map}
use Rattle.std.proofs.lemmas.List.{take_all}
use Rattle.plane.specs.declared.edge.Edge.{Edge}
use Rattle.plane.specs.declared.point.Point.{Point}
use Rattle.offset.specs.Faults.{IsRawFault}
use Rattle.offset.specs.Lines.{shape_at}
use Rattle.offset.proofs.RawLemmas.{handed-on, made-fails, made-more}
use Rattle.offset.proofs.lines.append_shapes.Goals as goal

pub returns-in_err-append_shape_at-clause-fault : goal.returns-in_err-append_shape_at-clause-fault
returns-in_err-append_shape_at-clause-fault g c =
    let none : Point = record { x = pos 0; y = pos 0 } in
    handed-on c.from_residual.result _ (IsRawFault (flat_map (shape_at c.args.shape.now) c.args.points.now)) c.from_residual.ensures.1
    (made-fails (shape_at c.args.shape.now) c.args.points.now c.loop-index.index none _ c.loop-index-test.true c.in_err-append_shape_at.ensures.fault)

pub loop-index-preserved : goal.loop-index-preserved
loop-index-preserved g c =
    let none : Point = record { x = pos 0; y = pos 0 } in
    c.in_ok-append_shape_at.ensures.ok
    ∙ made-more (shape_at c.args.shape.now) c.args.points.now c.loop-index.index none c.args.edges.now.items c.loop-index.edges.items c.loop-index-test.true c.loop-index.invariant

pub returns-clause-ok : goal.returns-clause-ok
returns-clause-ok g c =
    c.loop-index.invariant
    ∙ ap (λ (all : List Point). c.args.edges.now.items ++ flat_map (shape_at c.args.shape.now) all) (take_all c.loop-index.index c.args.points.now (omega (arith, c.loop-index-test.false)))
