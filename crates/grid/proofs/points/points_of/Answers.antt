use Rattle.std.proofs.Common.{pos, arith, w32, to_z, of_z, ◌≡◌, rules}
use Rattle.std.proofs.lemmas.Int.{to_z-of_z}
use Rattle.plane.specs.declared.point.Point.{Point}
use Rattle.grid.specs.declared.position.Position.{Position}
use Rattle.grid.specs.Grid.{IsTold, position_at}
use Rattle.grid.proofs.PlacesLemmas.{set_below}
use Rattle.grid.proofs.points.points_of.Goals as goal

pub loop-i-preserved : goal.loop-i-preserved
loop-i-preserved c =
    let first : Position = record { x = 0; y = 0 } in
    let none : Point = record { x = pos 0; y = pos 0 } in
    set_below (λ (position : Position) (point : Point). IsTold c.args.grid.now position point) c.args.positions.now c.loop-i.points c.loop-i.i c.in-Ok.point first none
    (omega arith) c.loop-i.invariant c.in-Ok.ensures.nearest

pub loop-i-preserved-in-Some : goal.loop-i-preserved-in-Some
loop-i-preserved-in-Some c =
    let first : Position = record { x = 0; y = 0 } in
    let none : Point = record { x = pos 0; y = pos 0 } in
    let x = c.in-Some.field-0.x in
    let y = c.in-Some.field-0.y in
    let x_same : to_z w32 (of_z w32 x) ≡ x = to_z-of_z w32 x (search rules) in
    let y_same : to_z w32 (of_z w32 y) ≡ y = to_z-of_z w32 y (search rules) in
    let point : Point = record { x = to_z w32 (of_z w32 x); y = to_z w32 (of_z w32 y) } in
    let told : IsTold c.args.grid.now (position_at c.args.positions.now c.loop-i.i) point = rw (x_same, y_same) c.in-Some.ensures in
    set_below (λ (position : Position) (point : Point). IsTold c.args.grid.now position point) c.args.positions.now c.loop-i.points c.loop-i.i point first none
    (omega arith) c.loop-i.invariant told
