use Rattle.std.proofs.Common.{arith}
use Rattle.std.specs.Vec.{vec_len}
use Rattle.overlay.proofs.Callers.{AreAppended-first}
use Rattle.tiles.proofs.JoinMade.{first-of, none-appended, second-of}
use Rattle.validity.proofs.once.first_inside.Goals as goal

pub returns-then-is_empty-clause-ok : goal.returns-then-is_empty-clause-ok
returns-then-is_empty-clause-ok g c =
    let (polygons, is, appended) = c.in_ok-append_inside.ensures.ok in
    let first = AreAppended-first polygons _ _ _ _ _ _ appended c.new-inside.ensures.points c.new-inside.ensures.ring_ends c.new-inside.ensures.polygon_ends in
    (polygons, is, first-of c.is_empty.result _ _ c.if-is_empty.true (none-appended polygons _ c.is_empty.result first.polygons_are (vec_len c.append_inside.new.out.polygon_ends) (omega arith) c.is_empty.ensures))

pub returns-clause-ok : goal.returns-clause-ok
returns-clause-ok g c =
    let (polygons, is, appended) = c.in_ok-append_inside.ensures.ok in
    let first = AreAppended-first polygons _ _ _ _ _ _ appended c.new-inside.ensures.points c.new-inside.ensures.ring_ends c.new-inside.ensures.polygon_ends in
    (polygons, is, second-of c.is_empty.result _ _ c.if-is_empty.false (none-appended polygons _ c.is_empty.result first.polygons_are (vec_len c.append_inside.new.out.polygon_ends) (omega arith) c.is_empty.ensures))
