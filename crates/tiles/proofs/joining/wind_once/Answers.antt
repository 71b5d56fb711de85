use Rattle.std.proofs.Common.{arith}
use Rattle.std.specs.Vec.{vec_len}
use Rattle.overlay.proofs.Callers.{AreAppended-first}
use Rattle.tiles.proofs.JoinMade.{none-appended}
use Rattle.tiles.proofs.joining.wind_once.Goals as goal

pub returns-clause-ok : goal.returns-clause-ok
returns-clause-ok g c =
    let (polygons, is, appended) = c.in_ok-append_overlay.ensures.ok in
    let first = AreAppended-first polygons _ _ _ _ _ _ appended c.new-both.ensures.points c.new-both.ensures.ring_ends c.new-both.ensures.polygon_ends in
    (polygons, is, none-appended polygons _ c.is_empty.result first.polygons_are (vec_len c.append_overlay.new.out.polygon_ends) (omega arith) c.is_empty.ensures)
