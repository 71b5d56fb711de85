use Rattle.std.proofs.Common.{pos}
use Rattle.plane.specs.declared.point.Point.{Point}
use Rattle.offset.specs.Faults.{IsPointFault}
use Rattle.offset.specs.Shape.{opposite, opposite_shape}
use Rattle.offset.proofs.PointLemmas.{point-fails}
use Rattle.offset.proofs.RawLemmas.{handed-on}
use Rattle.offset.proofs.erosion.turned_shape.Goals as goal

pub returns-in_err-opposite-clause-fault : goal.returns-in_err-opposite-clause-fault
returns-in_err-opposite-clause-fault g c =
    let none : Point = record { x = pos 0; y = pos 0 } in
    handed-on c.from_residual.result _ (IsPointFault (opposite_shape c.args.shape.now)) c.from_residual.ensures.1
    (point-fails opposite c.args.shape.now c.loop-corner.corner-index none _ c.loop-corner-test.true c.in_err-opposite.ensures.fault)
