use Rattle.std.proofs.Common.{List, map, subst}
use Rattle.overlay.specs.Contours.Outlines.{outline}
use Rattle.overlay.specs.Grouping.{placed_polygons}
use Rattle.overlay.specs.Polygons.{AreAppended}
use Rattle.overlay.specs.declared.grouping.order.PlacedRing.{PlacedRing}
use Rattle.overlay.proofs.grouping.append_polygons.Goals as goal

pub returns-clause-ok : goal.returns-clause-ok
returns-clause-ok g c =
    let points = c.args.points.now in
    let out = c.args.out.now in
    let new = c.append_in_order.new.out in
    let are = c.in_ok-order.ensures in (
      placed_polygons points c.in_ok-order.order.items,
      are.polygons,
      are.contours,
      are.moved,
      are.nested,
      subst (λ (order : List PlacedRing). AreAppended (map (λ polygon. map outline polygon) (placed_polygons points order)) out.points.items new.points.items out.ring_ends.items new.ring_ends.items out.polygon_ends.items new.polygon_ends.items)
          c.deref.ensures.value c.in_ok-append_in_order.ensures.ok,
    )
