use Rattle.std.proofs.Common.{[], pos, ◌≤ℤ◌, List, ap, get_or, map, subst, sym, arith}
use Rattle.std.specs.List.{flat_map}
use Rattle.std.specs.Option.{MatchOption}
use Rattle.std.proofs.lemmas.Bool.{MatchBool-at_true}
use Rattle.plane.specs.declared.edge.Edge.{Edge}
use Rattle.plane.specs.declared.point.Point.{Point}
use Rattle.plane.specs.Meet.Edges.{RationalPoint}
use Rattle.noding.specs.Windings.{winding}
use Rattle.overlay.specs.Contours.Rings.{ring_edges}
use Rattle.overlay.specs.Overlay.{polygon_edges}
use Rattle.overlay.proofs.Callers.{rings-joined}
use Rattle.tiles.proofs.JoinLists.{length-lists_of}
use Rattle.tiles.proofs.JoinWinds.{AreUncrossed}
use Rattle.validity.specs.Given.{directed, polygons_of, rings_at}
use Rattle.validity.specs.Validity.{WindOnce, WindOtherwise}
use Rattle.validity.proofs.Alone.{alone-once, polygon-simple}
use Rattle.validity.proofs.Bounds.{polygon-most}
use Rattle.validity.proofs.Meetings.{touch-uncrossed}
use Rattle.validity.proofs.Own.{own-uncrossed}
use Rattle.validity.proofs.validity.point_outside.Goals as goal

pub returns-then-has_one_ring-clause-ok : goal.returns-then-has_one_ring-clause-ok
returns-then-has_one_ring-clause-ok g c =
    alone-once (get_or (polygons_of c.args.set) c.args.polygon []) (MatchBool-at_true _ _ c.if-has_one_ring.true c.has_one_ring.ensures)
    (polygon-simple (rings_at c.args.set.rings) c.args.set.polygon_ends.now c.args.polygon c.requires.polygon c.requires.simple)

pub first_below-requires-clause-uncrossed : goal.first_below-requires-clause-uncrossed
first_below-requires-clause-uncrossed g c =
    let polygons = polygons_of c.args.set in
    let size = length-lists_of (rings_at c.args.set.rings) 0 c.args.set.polygon_ends.now in
    let inside = c.requires.polygon in
    let same = ap (λ (rings : List (List Point)). flat_map ring_edges rings) (rings-joined (directed (get_or polygons c.args.polygon [])) _ _ c.in_ok-own.ensures.ok) in
    subst AreUncrossed (sym same) (own-uncrossed polygons c.args.polygon (omega (arith, size, inside)) (touch-uncrossed (polygon_edges (map directed polygons)) c.requires.meet))

pub first_below-requires-clause-most : goal.first_below-requires-clause-most
first_below-requires-clause-most g c =
    let polygon = get_or (polygons_of c.args.set) c.args.polygon [] in
    let same = ap (λ (rings : List (List Point)). flat_map ring_edges rings) (rings-joined (directed polygon) _ _ c.in_ok-own.ensures.ok) in
    subst (λ (edges : List Edge). (point : RationalPoint) → winding edges point ≤ℤ pos 1) (sym same)
    (polygon-most polygon (polygon-simple (rings_at c.args.set.rings) c.args.set.polygon_ends.now c.args.polygon c.requires.polygon c.requires.simple))

pub returns-clause-ok : goal.returns-clause-ok
returns-clause-ok g c =
    let same = ap (λ (rings : List (List Point)). flat_map ring_edges rings) (rings-joined (directed (get_or (polygons_of c.args.set) c.args.polygon [])) _ _ c.in_ok-own.ensures.ok) in
    subst (λ (edges : List Edge). MatchOption c.in_ok-found.found (WindOnce edges) (λ _. WindOtherwise edges)) same c.in_ok-found.ensures.ok
