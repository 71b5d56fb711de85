use Rattle.std.proofs.Common.{pos, ◌≤ℤ◌, List, ap, map, subst, sym, arith}
use Rattle.std.specs.List.{flat_map}
use Rattle.plane.specs.declared.edge.Edge.{Edge}
use Rattle.plane.specs.declared.point.Point.{Point}
use Rattle.plane.specs.Meet.Edges.{RationalPoint}
use Rattle.noding.specs.Windings.{winding}
use Rattle.overlay.specs.Contours.Rings.{ring_edges}
use Rattle.overlay.specs.Overlay.{polygon_edges}
use Rattle.overlay.specs.Polygons.{rings_of}
use Rattle.overlay.proofs.Callers.{rings-joined}
use Rattle.tiles.proofs.JoinLists.{length-lists_of}
use Rattle.tiles.proofs.JoinWinds.{AreUncrossed}
use Rattle.validity.specs.Given.{directed, polygons_of, rings_at}
use Rattle.validity.specs.Validity.{WindOnce, WindOtherwise}
use Rattle.validity.proofs.Alone.{one-once}
use Rattle.validity.proofs.Bounds.{all-least}
use Rattle.validity.proofs.Framed.{none-is, some-is}
use Rattle.validity.proofs.Meetings.{touch-uncrossed}
use Rattle.validity.proofs.validity.fault_of_all.Goals as goal

pub returns-then-set-eq1-clause-ok : goal.returns-then-set-eq1-clause-ok
returns-then-set-eq1-clause-ok g c =
    let size = length-lists_of (rings_at c.args.set.rings) 0 c.args.set.polygon_ends.now in
    let one = c.if-set-eq1.true in
    one-once (polygons_of c.args.set) (omega (arith, size, one)) c.requires.each_once

pub first_above-requires-clause-uncrossed : goal.first_above-requires-clause-uncrossed
first_above-requires-clause-uncrossed g c =
    let same = ap (λ (rings : List (List Point)). flat_map ring_edges rings) (rings-joined (rings_of (map directed (polygons_of c.args.set))) _ _ c.in_ok-all.ensures.ok) in
    subst AreUncrossed (sym same) (touch-uncrossed (polygon_edges (map directed (polygons_of c.args.set))) c.requires.meet)

pub first_above-requires-clause-least : goal.first_above-requires-clause-least
first_above-requires-clause-least g c =
    let polygons = polygons_of c.args.set in
    let same = ap (λ (rings : List (List Point)). flat_map ring_edges rings) (rings-joined (rings_of (map directed polygons)) _ _ c.in_ok-all.ensures.ok) in
    subst (λ (edges : List Edge). (point : RationalPoint) → pos 0 ≤ℤ winding edges point) (sym same) (all-least polygons c.requires.each_once)

pub returns-in_default-clause-ok : goal.returns-in_default-clause-ok
returns-in_default-clause-ok g c =
    let same = ap (λ (rings : List (List Point)). flat_map ring_edges rings) (rings-joined (rings_of (map directed (polygons_of c.args.set))) _ _ c.in_ok-all.ensures.ok) in
    subst WindOnce same (none-is _ _ c.in_ok-point.field-0 c.in_default.is c.in_ok-point.ensures.ok)

pub returns-clause-ok : goal.returns-clause-ok
returns-clause-ok g c =
    let same = ap (λ (rings : List (List Point)). flat_map ring_edges rings) (rings-joined (rings_of (map directed (polygons_of c.args.set))) _ _ c.in_ok-all.ensures.ok) in
    subst WindOtherwise same (some-is _ _ c.in_ok-point.field-0 c.in-Some.point c.in-Some.is c.in_ok-point.ensures.ok)
