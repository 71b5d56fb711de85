use Rattle.std.proofs.Common.{pos, arith}
use Rattle.plane.specs.declared.point.Point.{Point}
use Rattle.grid.specs.declared.position.Position.{Position}
use Rattle.grid.specs.Grid.{IsWritten, point_at}
use Rattle.grid.proofs.PlacesLemmas.{set_below}
use Rattle.grid.proofs.points.positions_of.Goals as goal

pub loop-i-preserved : goal.loop-i-preserved
loop-i-preserved c =
    let first : Position = record { x = 0; y = 0 } in
    let none : Point = record { x = pos 0; y = pos 0 } in
    let here : IsWritten c.args.grid.now (point_at c.args.points.now c.loop-i.i) c.position_of.result =
    record { exact = c.position_of.ensures.exact; finite = c.position_of.ensures.finite; zero_x = c.position_of.ensures.zero_x; zero_y = c.position_of.ensures.zero_y } in
    set_below (λ (point : Point) (position : Position). IsWritten c.args.grid.now point position) c.args.points.now c.loop-i.positions c.loop-i.i c.position_of.result none first
    (omega arith) c.loop-i.invariant here
