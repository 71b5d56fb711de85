-- Edges that wind once around a point or not at all have an area above 0, and so has each polygon that does.
use Rattle.std.proofs.Common.{◌≡◌, ◌≢◌, [], ◌∷◌, ◌++◌, ◌+◌, ◌<◌, suc, ℕ, ℤ, pos, ◌+ℤ◌, ◌*ℤ◌, ◌<ℤ◌, cond, List, map, refl, ap, ap₂, sym, subst, ◌∙◌, arith}
use Rattle.std.specs.List.{All, Contains, flat_map}
use Rattle.std.proofs.lemmas.Int.{by_lt_z, ints}
use Rattle.std.proofs.lemmas.List.Concat.{flat_map-append}
use Rattle.std.proofs.lemmas.List.Elements.{All-cons, All-head, All-nil, All-tail, Contains-append_left, Contains-append_right}
use Rattle.i_tree.proofs.RootLemmas.Joined.{All-behind, All-front, AllPairs-behind, AllPairs-front}
use Rattle.plane.specs.declared.edge.Edge.{Edge}
use Rattle.plane.specs.declared.point.Point.{Point}
use Rattle.plane.specs.Ends.{start_of, end_of}
use Rattle.plane.specs.SweepLine.Heights.{rightwards}
use Rattle.plane.proofs.MeetLemmas.Identities.{identity, scaled, times}
use Rattle.plane.proofs.PairsLemmas.Bags.{Contains-map}
use Rattle.noding.specs.Windings.{IsClosed}
use Rattle.noding.proofs.SnapLemmas.Numbers.{n_of}
use Rattle.overlay.specs.Areas.{swept, twice_area, twice_area_of}
use Rattle.overlay.specs.Contours.Outlines.{outline}
use Rattle.overlay.specs.Contours.Rings.{IsRing, ring_edges}
use Rattle.overlay.specs.Fill.Filled.{AreDistinct, AreNoded, HaveSameEnds}
use Rattle.overlay.specs.Fill.Pieces.{total, weight}
use Rattle.overlay.specs.Nesting.{PolygonWindsOnce}
use Rattle.overlay.specs.Polygons.{IsPolygon, rings_of}
use Rattle.overlay.specs.Sides.{AreBorders, along, just_above, just_below, left_of, on_left, sheared_edge}
use Rattle.overlay.proofs.AreaLemmas.Fans.{along-own}
use Rattle.overlay.proofs.AreaLemmas.Sheared.{AreDistinct-sheared, AreNoded-sheared, total-sheared}
use Rattle.overlay.proofs.AreaLemmas.Slanted.{slanted-sloped}
use Rattle.overlay.proofs.AreaLemmas.Slices.{area-above}
use Rattle.overlay.proofs.AreaLemmas.Wide.{all-low}
use Rattle.overlay.proofs.ContourLemmas.Bends.{area-outline}
use Rattle.overlay.proofs.ContourLemmas.Counts.{rings-closed}
use Rattle.overlay.proofs.FillLemmas.Premises.{All-among}
use Rattle.overlay.proofs.FillLemmas.Tests.{lt_false, lt_true}
use Rattle.overlay.proofs.FillLemmas.Totals.{total-append}
use Rattle.overlay.proofs.FillLemmas.Weights.{weight-right}
use Rattle.overlay.proofs.GroupingLemmas.Begins.{has-edge}
use Rattle.overlay.proofs.WindsLemmas.Corners.{left-once}
use Rattle.overlay.proofs.WindsLemmas.Leaning.{sheared-once}
use Rattle.overlay.proofs.WindsLemmas.Moved.{IsClosed-sheared}

-- a number is above 0 where its natural multiple is
above-of : (n : ℕ) (z : ℤ) → pos 0 <ℤ (pos n *ℤ z) → pos 0 <ℤ z
above-of n z above =
    let none = identity (times (n_of n) (n_of 0)) (n_of 0) (omega arith) in
    by_lt_z (pos 0) z (λ is. is) (λ upto. let most = scaled n z (pos 0) upto in absurd (omega (arith, ints, above, most, none)))

-- the two ways to tell what is on the left of an edge of theirs
pub left-is : (edges : List Edge) (edge : Edge) → total (along (rightwards edge)) edges ≡ weight edge → left_of edges edge ≡ on_left edges edge
left-is edges edge own =
    by_lt_z edge.x0 edge.x1
    (λ onwards.
    let told = lt_true edge.x0 edge.x1 onwards in
    ap (λ t. cond t (just_above edges edge) (just_below edges edge)) told
    ∙ ap (λ z. just_below edges edge +ℤ z) (own ∙ weight-right edge onwards)
    ∙ sym (ap (λ t. cond t (just_below edges edge +ℤ pos 1) (just_below edges edge)) told))
    (λ upto.
    let told = lt_false edge.x0 edge.x1 upto in
    ap (λ t. cond t (just_above edges edge) (just_below edges edge)) told
    ∙ sym (ap (λ t. cond t (just_below edges edge +ℤ pos 1) (just_below edges edge)) told))

-- Closed edges that wind once around a point or not at all bound an area above 0, if there are any.
pub borders-area : (edges : List Edge) → IsClosed edges → AreBorders edges → (first : Edge) → Contains edges first → pos 0 <ℤ total swept edges
borders-area edges closed are first among =
    let (b, low) = all-low edges in
    let n = suc (b + b) in
    let wide : b + b < n = omega arith in
    let some : 0 < n = omega arith in
    let slanted = map (sheared_edge n) edges in
    let noded = AreNoded-sheared n some edges are.noded in
    let distinct = AreDistinct-sheared n some edges are.distinct in
    let sloped : All (λ edge. edge.x0 ≢ edge.x1) slanted = All-among (λ (edge : Edge). edge.x0 ≢ edge.x1) slanted (slanted-sloped edges are.two_ends n b wide low) in
    let left : All (λ edge. on_left slanted edge ≡ pos 1) slanted = All-among (λ (edge : Edge). on_left slanted edge ≡ pos 1) slanted
    (λ edge inside. sym (left-is slanted edge (along-own slanted edge distinct inside)) ∙ left-once slanted noded distinct sloped (sheared-once edges are closed n b wide low) edge inside) in
    above-of n (total swept edges)
    (subst (λ z. pos 0 <ℤ z) (total-sheared n edges)
    (area-above slanted (IsClosed-sheared n edges closed) noded distinct sloped (sheared_edge n first) (Contains-map (sheared_edge n) edges first among) left))

-- ---- polygons

-- what all edges of a polygon sweep is its area
pub area-of : (rings : List (List Point)) → total swept (flat_map ring_edges rings) ≡ twice_area_of rings
area-of [] = refl
area-of (ring ∷ rings) = total-append swept (ring_edges ring) (flat_map ring_edges rings) ∙ ap (λ z. twice_area ring +ℤ z) (area-of rings)

-- that of outlines is that of the rings
pub area-outlines : (rings : List (List Point)) → twice_area_of (map outline rings) ≡ twice_area_of rings
area-outlines [] = refl
area-outlines (ring ∷ rings) = ap₂ (λ a b. a +ℤ b) (area-outline ring) (area-outlines rings)

-- a polygon has an edge
some-edge : (polygon : List (List Point)) → IsPolygon polygon → All IsRing polygon → (edge : Edge) × Contains (flat_map ring_edges polygon) edge
some-edge polygon is are =
    subst (λ (p : List (List Point)). (edge : Edge) × Contains (flat_map ring_edges p) edge) (sym is.is)
    (let (edge, among) = has-edge is.outer (let ring = All-head IsRing is.outer is.holes (subst (All IsRing) is.is are) in ring.some) in
    (edge, Contains-append_left (ring_edges is.outer) (flat_map ring_edges is.holes) edge among))

-- The area of each polygon that winds once around a point or not at all is above 0, and that of its outlines is.
pub polygons-area : (whole : List (List (List Point))) → All IsPolygon whole → All IsRing (rings_of whole) → AreNoded (flat_map ring_edges (rings_of whole)) → AreDistinct (flat_map ring_edges (rings_of whole))
    → All (λ edge. start_of edge ≢ end_of edge) (flat_map ring_edges (rings_of whole)) → All PolygonWindsOnce whole → All (λ polygon. pos 0 <ℤ twice_area_of polygon) (map (λ polygon. map outline polygon) whole)
polygons-area [] directed are noded distinct real once = All-nil (λ polygon. pos 0 <ℤ twice_area_of polygon)
polygons-area (polygon ∷ others) directed are noded distinct real once =
    let Differ : Edge → Edge → Type 0 = λ one other. ¬ (HaveSameEnds one other) in
    let IsReal : Edge → Type 0 = λ edge. start_of edge ≢ end_of edge in
    let mine = flat_map ring_edges polygon in
    let rest = flat_map ring_edges (rings_of others) in
    let split : flat_map ring_edges (rings_of (polygon ∷ others)) ≡ mine ++ rest = flat_map-append ring_edges polygon (rings_of others) in
    let noded' = subst AreNoded split noded in
    let distinct' = subst AreDistinct split distinct in
    let real' = subst (All IsReal) split real in
    let rings = All-front IsRing polygon (rings_of others) are in
    let (edge, among) = some-edge polygon (All-head IsPolygon polygon others directed) rings in
    let borders : AreBorders mine = record {
      noded = λ one other point held held_too. noded' one other point (Contains-append_left mine rest one held) (Contains-append_left mine rest other held_too);
      distinct = AllPairs-front Differ mine rest distinct';
      two_ends = All-front IsReal mine rest real';
      once = All-head PolygonWindsOnce polygon others once;
    } in
    All-cons (λ p. pos 0 <ℤ twice_area_of p) (map outline polygon) (map (λ p. map outline p) others)
    (subst (λ z. pos 0 <ℤ z) (area-of polygon ∙ sym (area-outlines polygon)) (borders-area mine (λ test. rings-closed test polygon) borders edge among))
    (polygons-area others (All-tail IsPolygon polygon others directed) (All-behind IsRing polygon (rings_of others) are)
    (λ one other point held held_too. noded' one other point (Contains-append_right mine rest one held) (Contains-append_right mine rest other held_too))
    (AllPairs-behind Differ mine rest distinct') (All-behind IsReal mine rest real') (All-tail PolygonWindsOnce polygon others once))
