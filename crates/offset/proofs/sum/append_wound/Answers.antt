use Rattle.std.proofs.Common.{[], List, IsPermutation, map, subst, sym}
use Rattle.std.specs.List.{All, flat_map}
use Rattle.std.proofs.lemmas.Result.{on_ok_weaker}
use Rattle.plane.specs.declared.point.Point.{Point}
use Rattle.overlay.specs.Boundary.{BoundsResult}
use Rattle.overlay.specs.Contours.Outlines.{outline}
use Rattle.overlay.specs.Contours.Rings.{AreContours, IsRing, ring_edges}
use Rattle.overlay.specs.Polygons.{AreAppended, BoundsSome, IsPolygon, rings_of as all_rings}
use Rattle.overlay.specs.Nesting.{AreNested, NestOnce}
use Rattle.overlay.specs.Rings.{edges_in, rings_of as rings_in}
use Rattle.overlay.specs.declared.fill.rules.Operation.TheVariants.{Union}
use Rattle.overlay.proofs.Callers.{AreEnds-joined, AreJoined-first, bounds-some, rings-joined}
use Rattle.offset.proofs.WoundLemmas.{polygons-wound}
use Rattle.offset.proofs.sum.append_wound.Goals as goal

pub append_polygons-requires-clause-ends : goal.append_polygons-requires-clause-ends
append_polygons-requires-clause-ends g c =
    let (rings, _, _, _, points_are, ends_are) = c.in_ok-append_boundary_of.ensures.ok in
    AreEnds-joined rings c.deref.result.now c.deref-2.result.now
    (AreJoined-first rings _ _ _ _ _ _ c.new-points.ensures.items c.new-ends.ensures.items points_are ends_are c.deref.ensures.value c.deref-2.ensures.value)

pub append_polygons-requires-clause-each : goal.append_polygons-requires-clause-each
append_polygons-requires-clause-each g c =
    let (rings, is, _, _, points_are, ends_are) = c.in_ok-append_boundary_of.ensures.ok in
    let same = rings-joined rings c.deref.result.now c.deref-2.result.now
    (AreJoined-first rings _ _ _ _ _ _ c.new-points.ensures.items c.new-ends.ensures.items points_are ends_are c.deref.ensures.value c.deref-2.ensures.value) in
    subst (λ (all : List (List Point)). All IsRing all) (sym same) is.each

pub append_polygons-requires-clause-bounding : goal.append_polygons-requires-clause-bounding
append_polygons-requires-clause-bounding g c =
    let (rings, is, sloped, _, points_are, ends_are) = c.in_ok-append_boundary_of.ensures.ok in
    let same = rings-joined rings c.deref.result.now c.deref-2.result.now
    (AreJoined-first rings _ _ _ _ _ _ c.new-points.ensures.items c.new-ends.ensures.items points_are ends_are c.deref.ensures.value c.deref-2.ensures.value) in
    subst (λ (all : List (List Point)). BoundsSome (flat_map ring_edges all)) (sym same)
    (bounds-some c.args.rule Union _ _ (flat_map ring_edges rings) is.bounds sloped)

pub returns-clause-ok : goal.returns-clause-ok
returns-clause-ok g c =
    let raw = c.args.edges.now in
    let points = c.deref.result.now in
    let ends = c.deref-2.result.now in
    let out = c.args.out.now in
    let new = c.append_polygons.new.out in
    let (rings, is, _, nest, points_are, ends_are) = c.in_ok-append_boundary_of.ensures.ok in
    let same = rings-joined rings points ends (AreJoined-first rings _ _ _ _ _ _ c.new-points.ensures.items c.new-ends.ensures.items points_are ends_are c.deref.ensures.value c.deref-2.ensures.value) in
    let bounds : BoundsResult c.args.rule Union raw [] (edges_in points ends) =
    subst (λ (all : List (List Point)). BoundsResult c.args.rule Union raw [] (flat_map ring_edges all)) (sym same) is.bounds in
    let nest' : NestOnce (rings_in points 0 ends) = subst NestOnce (sym same) nest in
    on_ok_weaker c.append_polygons.result (λ (found : (whole : List (List (List Point))) × All IsPolygon whole × AreContours (edges_in points ends) (all_rings whole)
    × IsPermutation (all_rings whole) (rings_in points 0 ends) × AreNested whole
    × AreAppended (map (λ polygon. map outline polygon) whole) out.points.items new.points.items out.ring_ends.items new.ring_ends.items out.polygon_ends.items new.polygon_ends.items).
    let (whole, directed, contours, moved, nested, appends) = found in
    let (each, share) = nest' whole moved directed nested in (
      map (λ polygon. map outline polygon) whole,
      polygons-wound c.args.rule raw (edges_in points ends) whole bounds directed contours each share,
      appends,
    )) c.append_polygons.ensures.ok
