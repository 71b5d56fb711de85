-- Whatever polygons are made of rings that keep sides, each winds once around a point or not at all, and its rings share points
-- along no circle, where each hole is of the polygon just below it.
use Rattle.std.proofs.Common.{List, [], ◌∷◌, subst}
use Rattle.std.specs.List.{All, Contains, flat_map}
use Rattle.std.specs.List.Sorted.{IsPermutation}
use Rattle.std.proofs.lemmas.List.Concat.{flat_map-append}
use Rattle.std.proofs.lemmas.List.Elements.{All-cons, All-nil}
use Rattle.std.proofs.lemmas.List.Sorted.{All-permutation, IsPermutation-sym, IsPermutation-trans}
use Rattle.i_tree.proofs.RootLemmas.Joined.{All-behind, All-front, AllPairs-behind, AllPairs-front}
use Rattle.i_tree.proofs.RootLemmas.Lists.{Contains-here, Contains-there}
use Rattle.plane.specs.declared.edge.Edge.{Edge}
use Rattle.plane.specs.declared.point.Point.{Point}
use Rattle.overlay.specs.Contours.Rings.{AreContours, IsRing, ring_edges}
use Rattle.overlay.specs.Fill.Filled.{AreDistinct, HaveSameEnds}
use Rattle.overlay.specs.Nesting.{NestOnce}
use Rattle.overlay.specs.OnePiece.{GoWhole, ShareAlongNoCircle}
use Rattle.overlay.specs.Overlay.{polygon_edges}
use Rattle.overlay.specs.Polygons.{rings_of}
use Rattle.overlay.specs.Sides.{AreBorders, KeepSides}
use Rattle.overlay.proofs.CircleLemmas.Sides.{share-along-no-circle}
use Rattle.overlay.proofs.GroupingLemmas.Bags.{IsPermutation-flat_map}
use Rattle.overlay.proofs.WindsLemmas.Nested.{AreBorders-permuted, KeepSides-permuted, nested-once}
use Rattle.overlay.proofs.WindsLemmas.Whole.{go-whole}

-- They don't have the same ends.
abbrev Differ : Edge → Edge → Type 0
Differ one other = ¬ (HaveSameEnds one other)

-- Where closed edges go around each ring of a polygon as a whole, its rings share points along no circle.
share-each : (polygons : List (List (List Point))) → All IsRing (rings_of polygons) → AreDistinct (polygon_edges polygons) → ((polygon : List (List Point)) → Contains polygons polygon → GoWhole polygon)
    → All ShareAlongNoCircle polygons
share-each [] are distinct go = All-nil ShareAlongNoCircle
share-each (polygon ∷ others) are distinct go =
    let first = flat_map ring_edges polygon in
    let rest = polygon_edges others in
    let distinct_all = subst AreDistinct (flat_map-append ring_edges polygon (rings_of others)) distinct in
    All-cons ShareAlongNoCircle polygon others
    (share-along-no-circle polygon (All-front IsRing polygon (rings_of others) are) (AllPairs-front Differ first rest distinct_all) (go polygon (Contains-here polygon others)))
    (share-each others (All-behind IsRing polygon (rings_of others) are) (AllPairs-behind Differ first rest distinct_all) (λ one held. go one (Contains-there polygon others one held)))

-- Rings that keep sides nest once.
pub nest-once : (edges : List Edge) (rings : List (List Point)) → AreContours edges rings → AreBorders edges → KeepSides edges rings → NestOnce rings
nest-once edges rings contours borders keep polygons moved are nested =
    let back = IsPermutation-sym (rings_of polygons) rings moved in
    let same : IsPermutation edges (polygon_edges polygons) =
    IsPermutation-sym (polygon_edges polygons) edges (IsPermutation-trans (polygon_edges polygons) (flat_map ring_edges rings) edges (IsPermutation-flat_map ring_edges (rings_of polygons) rings moved) contours.all) in
    let are_rings = All-permutation IsRing rings (rings_of polygons) back contours.each in
    let all_borders = AreBorders-permuted edges (polygon_edges polygons) same borders in
    let all_keep = KeepSides-permuted edges (polygon_edges polygons) rings (rings_of polygons) same back keep in
    let each = nested-once polygons are_rings all_borders all_keep nested in
    (each, share-each polygons are_rings all_borders.distinct (λ polygon held. go-whole polygons are_rings all_borders all_keep are each polygon held))
