use Rattle.std.proofs.Common.{◌∙◌, List, All, IsPermutation, arith, map, subst, subst₂, sym}
use Rattle.std.specs.List.{flat_map}
use Rattle.std.proofs.lemmas.Result.{on_ok_weaker}
use Rattle.plane.specs.declared.edge.Edge.{Edge}
use Rattle.plane.specs.declared.point.Point.{Point}
use Rattle.noding.specs.Windings.{IsClosed}
use Rattle.overlay.specs.Boundary.{AreBroken}
use Rattle.overlay.specs.Contours.Outlines.{outline}
use Rattle.overlay.specs.Contours.Rings.{AreContours, IsRing, ring_edges}
use Rattle.overlay.specs.declared.fill.rules.FillRule.TheVariants.{NonZero}
use Rattle.overlay.specs.declared.fill.rules.Operation.TheVariants.{Intersection}
use Rattle.overlay.specs.Polygons.{AreAppended, BoundsSome, IsPolygon, rings_of as all_rings}
use Rattle.overlay.specs.Nesting.{AreNested, NestOnce}
use Rattle.overlay.specs.Rings.{edges_in, rings_of as rings_in}
use Rattle.overlay.proofs.Callers.{AreEnds-joined, AreJoined-first, IsClosed-ring, rings-joined}
use Rattle.tiles.proofs.Cut.{border-behind, border-real, cut-overlay, cut-sloped, kept-first, kept-real, rings-nest, rings-some}
use Rattle.tiles.specs.Tile.{border}
use Rattle.tiles.proofs.tile.cut.Goals as goal

pub bounding_edges-requires-clause-closed : goal.bounding_edges-requires-clause-closed
bounding_edges-requires-clause-closed g c =
    subst IsClosed (sym (kept-first c.args.window c.requires.window.some c.args.kept.items c.deref.result.now c.len-count.result (let told = c.len-count.ensures in let ok = c.args.kept.ok in omega (arith, told, ok)) (c.deref.ensures.value ∙ c.in_ok-append_sides.ensures))) c.requires.closed

pub bounding_edges-requires-clause-clip_closed : goal.bounding_edges-requires-clause-clip_closed
bounding_edges-requires-clause-clip_closed g c =
    subst IsClosed (sym (border-behind c.args.window c.requires.window.some c.args.kept.items c.deref.result.now c.len-count.result (let told = c.len-count.ensures in let ok = c.args.kept.ok in omega (arith, told, ok)) (c.deref.ensures.value ∙ c.in_ok-append_sides.ensures))) (IsClosed-ring (border c.args.window))

pub contours_in_place-requires : goal.contours_in_place-requires
contours_in_place-requires g c =
    let (broken, broken_clip, are, filled) = c.in_ok-bounding.ensures.filled in
    filled.closed

pub append_polygons-requires-clause-ends : goal.append_polygons-requires-clause-ends
append_polygons-requires-clause-ends g c =
    let (rings, contours, points_are, ends_are, _) = c.in_ok-contours_in_place.ensures.ok in
    AreEnds-joined rings c.deref-2.result.now c.deref-3.result.now
    (AreJoined-first rings _ _ _ _ _ _ c.new-points.ensures.items c.new-ends.ensures.items points_are ends_are c.deref-2.ensures.value c.deref-3.ensures.value)

pub append_polygons-requires-clause-each : goal.append_polygons-requires-clause-each
append_polygons-requires-clause-each g c =
    let (rings, contours, points_are, ends_are, _) = c.in_ok-contours_in_place.ensures.ok in
    let same = rings-joined rings c.deref-2.result.now c.deref-3.result.now
    (AreJoined-first rings _ _ _ _ _ _ c.new-points.ensures.items c.new-ends.ensures.items points_are ends_are c.deref-2.ensures.value c.deref-3.ensures.value) in
    subst (λ (all : List (List Point)). All IsRing all) (sym same) contours.each

pub append_polygons-requires-clause-bounding : goal.append_polygons-requires-clause-bounding
append_polygons-requires-clause-bounding g c =
    let window = c.args.window in
    let kept = c.args.kept.items in
    let (broken, broken_clip, are, filled) = c.in_ok-bounding.ensures.filled in
    let (rings, contours, points_are, ends_are, _) = c.in_ok-contours_in_place.ensures.ok in
    let same = rings-joined rings c.deref-2.result.now c.deref-3.result.now
    (AreJoined-first rings _ _ _ _ _ _ c.new-points.ensures.items c.new-ends.ensures.items points_are ends_are c.deref-2.ensures.value c.deref-3.ensures.value) in
    let both_is = c.deref.ensures.value ∙ c.in_ok-append_sides.ensures in
    let broken_real = subst₂ (λ (subject clip : List Edge). AreBroken subject clip broken broken_clip)
    (kept-real window c.requires.window.some kept c.deref.result.now c.len-count.result (let told = c.len-count.ensures in let ok = c.args.kept.ok in omega (arith, told, ok)) both_is c.requires.two_ends)
    (border-real window c.requires.window.some kept c.deref.result.now c.len-count.result (let told = c.len-count.ensures in let ok = c.args.kept.ok in omega (arith, told, ok)) both_is) are in
    subst (λ (all : List (List Point)). BoundsSome (flat_map ring_edges all)) (sym same)
    (rings-some NonZero Intersection kept (ring_edges (border window)) broken broken_clip c.in_ok-bounding.bounding.items rings broken_real filled contours)

pub returns-clause-ok : goal.returns-clause-ok
returns-clause-ok g c =
    let window = c.args.window in
    let kept = c.args.kept.items in
    let edges = c.in_ok-bounding.bounding.items in
    let out = c.args.out.now in
    let new = c.append_polygons.new.out in
    let points = c.deref-2.result.now in
    let ends = c.deref-3.result.now in
    let (broken, broken_clip, are, filled) = c.in_ok-bounding.ensures.filled in
    let (rings, contours, points_are, ends_are, sides) = c.in_ok-contours_in_place.ensures.ok in
    let same = rings-joined rings points ends (AreJoined-first rings _ _ _ _ _ _ c.new-points.ensures.items c.new-ends.ensures.items points_are ends_are c.deref-2.ensures.value c.deref-3.ensures.value) in
    let both_is = c.deref.ensures.value ∙ c.in_ok-append_sides.ensures in
    let broken_real = subst₂ (λ (subject clip : List Edge). AreBroken subject clip broken broken_clip)
    (kept-real window c.requires.window.some kept c.deref.result.now c.len-count.result (let told = c.len-count.ensures in let ok = c.args.kept.ok in omega (arith, told, ok)) both_is c.requires.two_ends)
    (border-real window c.requires.window.some kept c.deref.result.now c.len-count.result (let told = c.len-count.ensures in let ok = c.args.kept.ok in omega (arith, told, ok)) both_is) are in
    on_ok_weaker c.append_polygons.result (λ (found : (whole : List (List (List Point))) × All IsPolygon whole × AreContours (edges_in points ends) (all_rings whole)
    × IsPermutation (all_rings whole) (rings_in points 0 ends) × AreNested whole
    × AreAppended (map (λ polygon. map outline polygon) whole) out.points.items new.points.items out.ring_ends.items new.ring_ends.items out.polygon_ends.items new.polygon_ends.items).
    let (whole, directed, contours_too, moved, nested, appends) = found in
    let nest : NestOnce (rings_in points 0 ends) = subst NestOnce (sym same) (rings-nest NonZero Intersection kept (ring_edges (border window)) broken broken_clip edges rings broken_real filled contours sides) in
    let (each, share) = nest whole moved directed nested in
    let same_edges = subst (λ (all : List (List Point)). AreContours (flat_map ring_edges all) (all_rings whole)) same contours_too in (
      map (λ polygon. map outline polygon) whole,
      cut-overlay NonZero Intersection kept (ring_edges (border window)) broken broken_clip edges rings broken_real filled contours whole directed same_edges each share,
      (edges, cut-sloped NonZero Intersection kept (ring_edges (border window)) broken broken_clip edges rings broken_real filled contours whole directed same_edges each share),
      appends,
    )) c.append_polygons.ensures.ok
