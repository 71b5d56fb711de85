-- Polygons of the edges that bound a result are an overlay.
use Rattle.std.proofs.Common.{◌≡◌, inl, inr, ⊎_elim, ◌++◌, [], ◌∷◌, ◌≤◌, ◌<ℤ◌, pos, List, length, ℤ, map, refl, ap₂, sym, subst, ◌∙◌}
use Rattle.std.specs.List.{All, Contains, flat_map}
use Rattle.std.proofs.lemmas.List.Elements.{All-append, All-cons, All-filter, All-head, All-nil, All-tail, All-weaker, Contains-append_cases, Contains-append_left, Contains-append_right}
use Rattle.i_tree.proofs.RootLemmas.Joined.{All-front, All-behind}
use Rattle.i_tree.proofs.RootLemmas.Members.{Contains-from_filter}
use Rattle.plane.specs.declared.edge.Edge.{Edge}
use Rattle.plane.specs.declared.point.Point.{Point}
use Rattle.plane.specs.Meet.Edges.{RationalPoint}
use Rattle.overlay.specs.declared.fill.rules.FillRule.{FillRule}
use Rattle.overlay.specs.declared.fill.rules.Operation.{Operation}
use Rattle.overlay.specs.Areas.{twice_area_of}
use Rattle.overlay.specs.Boundary.{BoundsResult, WindsAsBroken, result_at}
use Rattle.overlay.specs.Polygons.{BoundsSome, HasSignedArea, HasSloped, IsPolygon, WindsOnce, rings_of}
use Rattle.overlay.specs.Contours.Outlines.{AreOutlines, outline}
use Rattle.overlay.specs.Contours.Rings.{AreContours, ring_edges}
use Rattle.overlay.specs.Fill.Rules.{is_result}
use Rattle.noding.specs.Chains.{IsHot}
use Rattle.noding.specs.Local.{IsExactAt}
use Rattle.noding.specs.Windings.{count, winding}
use Rattle.noding.proofs.Callers.{IsMoved-more}
use Rattle.noding.proofs.SnapLemmas.More.{IsHot-more}
use Rattle.overlay.proofs.AreaLemmas.Rings.{boundary-signed, outlines-signed}
use Rattle.overlay.proofs.BoundaryLemmas.Bounding.{rings-bound, winds-exactly, winds-once, winds-same}
use Rattle.overlay.proofs.BoundaryLemmas.Corners.{outlines-hold}
use Rattle.overlay.proofs.ContourLemmas.Callers.{outlines-wind}
use Rattle.overlay.specs.Overlay.{IsOverlay, polygon_edges}
use Rattle.overlay.proofs.NestedLemmas.{nest-once}
use Rattle.overlay.proofs.GroupingLemmas.Corners.{rings-corners}
use Rattle.overlay.proofs.GroupingLemmas.Grouped.{map-joined}
use Rattle.overlay.proofs.GroupingLemmas.Outlined.{outlines-run, polygons-outlined}
use Rattle.overlay.specs.Nesting.{AreNested, NestOnce, PolygonWindsOnce}
use Rattle.overlay.specs.OnePiece.{ShareAlongNoCircle}
use Rattle.overlay.specs.Rings.{has_two_ends, real_edges}
use Rattle.overlay.specs.Sides.{AreBorders, KeepSides}
use Rattle.overlay.proofs.RingLemmas.{winding-real}
use Rattle.overlay.proofs.WindsLemmas.Areas.{polygons-area}
use Rattle.overlay.proofs.WindsLemmas.Nested.{outlined-once}
use Rattle.overlay.proofs.WindsLemmas.Pieced.{pieces-each}
use Rattle.overlay.proofs.WindsLemmas.Rings.{boundary-once, outlines-once}

-- edges that bound a result bound something
pub bounds-some : (rule : FillRule) (operation : Operation) (subject clip edges : List Edge) → BoundsResult rule operation subject clip edges → HasSloped edges → BoundsSome edges
bounds-some rule operation subject clip edges bounds sloped = record {
  noded = bounds.noded;
  distinct = bounds.distinct;
  once = winds-once rule operation subject clip edges bounds.everywhere;
  sloped = sloped;
}

-- and are borders
pub bounds-borders : (rule : FillRule) (operation : Operation) (subject clip edges : List Edge) → BoundsResult rule operation subject clip edges → AreBorders edges
bounds-borders rule operation subject clip edges bounds = record {
  noded = bounds.noded;
  distinct = bounds.distinct;
  two_ends = bounds.two_ends;
  once = winds-once rule operation subject clip edges bounds.everywhere;
}

-- so rings of them that keep sides nest once
pub bounds-nest : (rule : FillRule) (operation : Operation) (subject clip edges : List Edge) → BoundsResult rule operation subject clip edges → (rings : List (List Point)) → AreContours edges rings → (AreBorders edges → KeepSides edges rings) → NestOnce rings
bounds-nest rule operation subject clip edges bounds rings are keep =
    let borders = bounds-borders rule operation subject clip edges bounds in
    nest-once edges rings are borders (keep borders)

-- ---- real edges

module _ (subject clip : List Edge) where
  -- what holds of all holds of the real ones
  both : (P : Edge → Type 0) → All P (subject ++ clip) → All P (real_edges subject ++ real_edges clip)
  both P every =
      All-append P (real_edges subject) (real_edges clip)
      (All-filter has_two_ends P subject (All-front P subject clip every))
      (All-filter has_two_ends P clip (All-behind P subject clip every))

  -- these are among all
  of_all : (edge : Edge) → Contains (real_edges subject ++ real_edges clip) edge → Contains (subject ++ clip) edge
  of_all edge held = ⊎_elim
      (λ first. Contains-append_left subject clip edge (Contains-from_filter has_two_ends subject edge first).0)
      (λ second. Contains-append_right subject clip edge (Contains-from_filter has_two_ends clip edge second).0)
      (Contains-append_cases (real_edges subject) (real_edges clip) edge held)

  -- so one that isn't moved among all isn't moved among them
  among_real : (point : RationalPoint) → All (IsExactAt (subject ++ clip) point) (subject ++ clip) → All (IsExactAt (real_edges subject ++ real_edges clip) point) (real_edges subject ++ real_edges clip)
  among_real point exactly =
      All-weaker (IsExactAt (subject ++ clip) point) (IsExactAt (real_edges subject ++ real_edges clip) point)
      (λ edge told. ⊎_elim inl (λ still. inr (λ moved. still (IsMoved-more (real_edges subject ++ real_edges clip) (subject ++ clip) of_all edge moved))) told)
      (real_edges subject ++ real_edges clip) (both (IsExactAt (subject ++ clip) point) exactly)

  -- what winds as the result of the real edges where these count exactly does so where all edges do
  pub exact-real : (rule : FillRule) (operation : Operation) (edges : List Edge) → WindsAsBroken rule operation (real_edges subject) (real_edges clip) edges → (point : RationalPoint) → All (IsExactAt (subject ++ clip) point) (subject ++ clip)
      → winding edges point ≡ result_at rule operation subject clip point
  exact-real rule operation edges everywhere point exactly =
      winds-exactly rule operation (real_edges subject) (real_edges clip) edges everywhere point (among_real point exactly)
      ∙ ap₂ (λ (a b : ℤ). count (is_result rule operation a b)) (winding-real subject point) (winding-real clip point)

  -- where what bounds the result begins, its outlines have their points
  pub corners-real : (rule : FillRule) (operation : Operation) (rings : List (List Point)) → BoundsResult rule operation (real_edges subject) (real_edges clip) (flat_map ring_edges rings) → All (λ ring. All (λ p. IsHot (subject ++ clip) p.x p.y) ring) (map outline rings)
  corners-real rule operation rings bounds =
      outlines-hold (λ p. IsHot (subject ++ clip) p.x p.y) rings
      (All-weaker (λ edge. IsHot (real_edges subject ++ real_edges clip) edge.x0 edge.y0) (λ edge. IsHot (subject ++ clip) edge.x0 edge.y0)
      (λ edge hot. IsHot-more (real_edges subject ++ real_edges clip) (subject ++ clip) of_all edge.x0 edge.y0 hot)
      (flat_map ring_edges rings) bounds.corners)

-- ---- polygons

-- outlines of polygons wind as these
pub outlines-each : (whole : List (List (List Point))) → All PolygonWindsOnce whole → All PolygonWindsOnce (map (λ polygon. map outline polygon) whole)
outlines-each [] each = All-nil PolygonWindsOnce
outlines-each (polygon ∷ others) each =
    All-cons PolygonWindsOnce (map outline polygon) (map (λ p. map outline p) others) (outlined-once polygon (All-head PolygonWindsOnce polygon others each))
    (outlines-each others (All-tail PolygonWindsOnce polygon others each))

pub polygons-overlay : (rule : FillRule) (operation : Operation) (subject clip edges : List Edge) (whole : List (List (List Point))) → BoundsResult rule operation (real_edges subject) (real_edges clip) edges → All IsPolygon whole → AreContours edges (rings_of whole) → All PolygonWindsOnce whole → All ShareAlongNoCircle whole
    → IsOverlay rule operation subject clip (map (λ polygon. map outline polygon) whole)
polygons-overlay rule operation subject clip edges whole bounds directed are each share =
    let outlines = subst (AreOutlines edges) (sym (map-joined outline whole)) (outlines-wind edges (rings_of whole) are) in
    let polygons = map (λ polygon. map outline polygon) whole in
    let boundary = rings-bound rule operation (real_edges subject) (real_edges clip) edges (rings_of whole) bounds are in
    let alike = outlines-run (rings_of whole) boundary.bounds.noded boundary.bounds.distinct in
    let everywhere = winds-same rule operation (real_edges subject) (real_edges clip) edges (polygon_edges polygons) outlines.winds bounds.everywhere in
    record {
      each = outlines.each;
      three_points = subst (All (λ ring. 3 ≤ length ring)) (sym (map-joined outline whole))
          (rings-corners (flat_map ring_edges (rings_of whole)) boundary.bounds.noded boundary.bounds.two_ends (rings_of whole) are.each (λ edge among. among) boundary.bounds.distinct);
      directed = polygons-outlined whole alike directed;
      areas = subst (All HasSignedArea) (sym (map-joined outline whole)) (outlines-signed (rings_of whole) alike (boundary-signed rule operation (real_edges subject) (real_edges clip) (rings_of whole) boundary));
      winds = subst (All WindsOnce) (sym (map-joined outline whole)) (outlines-once (rings_of whole) alike (boundary-once rule operation (real_edges subject) (real_edges clip) (rings_of whole) boundary));
      each_once = outlines-each whole each;
      each_area = polygons-area whole directed are.each boundary.bounds.noded boundary.bounds.distinct boundary.bounds.two_ends each;
      one_piece = pieces-each whole boundary.bounds.noded boundary.bounds.distinct share;
      everywhere = everywhere;
      once = winds-once rule operation (real_edges subject) (real_edges clip) (polygon_edges polygons) everywhere;
      exact = exact-real subject clip rule operation (polygon_edges polygons) everywhere;
      corners = subst (λ (rings : List (List Point)). All (λ ring. All (λ p. IsHot (subject ++ clip) p.x p.y) ring) rings) (sym (map-joined outline whole)) (corners-real subject clip rule operation (rings_of whole) boundary.bounds);
      whole = whole;
      bounds = boundary;
      outlined = refl;
    }
