use Rattle.std.proofs.Common.{◌++◌, ◌∙◌, ◌<◌, ℕ, List, length, map, take, ap, ap₂, subst, sym, arith}
use Rattle.std.proofs.lemmas.List.{take_all}
use Rattle.std.specs.List.{between}
use Rattle.plane.specs.declared.point.Point.{Point}
use Rattle.noding.specs.Offsets.{AreJoined}
use Rattle.overlay.specs.Polygons.{rings_of}
use Rattle.tiles.proofs.JoinLists.{length-lists_of, lists_of-at}
use Rattle.validity.specs.Given.{directed, polygons_of, rings_at}
use Rattle.validity.proofs.Directing.{polygons-step}
use Rattle.validity.proofs.directed.directed_rings.Goals as goal

pub loop-polygon-preserved : goal.loop-polygon-preserved
loop-polygon-preserved g c =
    let rings = rings_at c.args.set.rings in
    let polygons = polygons_of c.args.set in
    let at = c.loop-polygon.polygon in
    let inside = c.loop-polygon-test.true in
    let size = length-lists_of rings 0 c.args.set.polygon_ends.now in
    let so_far = rings_of (map directed (take at polygons)) in
    subst (λ (list : List (List Point)). AreJoined list c.append_polygon.new.self.points.items c.append_polygon.new.self.ends.items)
    (ap (λ (polygon : List (List Point)). so_far ++ directed polygon)
    (ap₂ (λ (i j : ℕ). between i j rings) c.range_at-first.ensures.start c.range_at-first.ensures.end ∙ sym (lists_of-at rings 0 c.args.set.polygon_ends.now at inside))
    ∙ sym (polygons-step polygons at (let inner : at < length polygons = omega (arith, size, inside) in inner)))
    (c.in_ok-append_polygon.ensures so_far c.loop-polygon.invariant)

pub returns-clause-ok : goal.returns-clause-ok
returns-clause-ok g c =
    let polygons = polygons_of c.args.set in
    let past = c.loop-polygon-test.false in
    let size = length-lists_of (rings_at c.args.set.rings) 0 c.args.set.polygon_ends.now in
    subst (λ (some : List (List (List Point))). AreJoined (rings_of (map directed some)) c.loop-polygon.all.points.items c.loop-polygon.all.ends.items) (take_all c.loop-polygon.polygon polygons (omega (arith, past, size))) c.loop-polygon.invariant
