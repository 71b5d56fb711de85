use Rattle.overlay.proofs.Callers.{AreAppended-first}
use Rattle.layers.proofs.EachLemmas.{AreAppended-ends, AreAppended-moved}
use Rattle.layers.proofs.each.append_by_arena.Goals as goal

pub append_polygons-requires-clause-ring_ends : goal.append_polygons-requires-clause-ring_ends
append_polygons-requires-clause-ring_ends g c =
    let (polygons, is, appended) = c.in_ok-append_overlay.ensures.ok in
    (AreAppended-ends polygons _ _ _ (AreAppended-first polygons _ _ _ _ _ _ appended c.new-made.ensures.points c.new-made.ensures.ring_ends c.new-made.ensures.polygon_ends)).0

pub append_polygons-requires-clause-polygon_ends : goal.append_polygons-requires-clause-polygon_ends
append_polygons-requires-clause-polygon_ends g c =
    let (polygons, is, appended) = c.in_ok-append_overlay.ensures.ok in
    (AreAppended-ends polygons _ _ _ (AreAppended-first polygons _ _ _ _ _ _ appended c.new-made.ensures.points c.new-made.ensures.ring_ends c.new-made.ensures.polygon_ends)).1

pub returns-clause-ok : goal.returns-clause-ok
returns-clause-ok g c =
    let (polygons, is, appended) = c.in_ok-append_overlay.ensures.ok in
    let first = AreAppended-first polygons _ _ _ _ _ _ appended c.new-made.ensures.points c.new-made.ensures.ring_ends c.new-made.ensures.polygon_ends in
    let now = c.in_ok-append_polygons.ensures in (
      polygons,
      is,
      AreAppended-moved polygons _ _ _ _ _ _ _ _ _ first now.points now.rings now.polygons,
    )
