-- Polygons of edges that bound what a raw curve winds around.
use Rattle.std.proofs.Common.{◌≡◌, ◌∙◌, ◌⊎◌, inl, inr, ⊎_elim, ◌++◌, ◌≤◌, ◌<ℤ◌, ◌≤ℤ◌, ◌||◌, [], Bool, List, ℤ, pos, negsuc, length, map, ap, append-nil, arith, refl, subst, sym}
use Rattle.std.specs.List.{All, flat_map}
use Rattle.std.specs.Prelude.{Result, Err, Ok, IfErr, int_lt}
use Rattle.std.proofs.lemmas.Int.{by_lt_z, ints}
use Rattle.plane.specs.declared.edge.Edge.{Edge}
use Rattle.plane.specs.declared.point.Point.{Point}
use Rattle.plane.specs.Meet.Edges.{RationalPoint}
use Rattle.noding.specs.Local.{IsExactAt}
use Rattle.noding.specs.Windings.{count, winding}
use Rattle.overlay.specs.declared.fill.rules.FillRule.{FillRule}
use Rattle.overlay.specs.declared.fill.rules.FillRule.TheVariants.{Negative, NonZero}
use Rattle.overlay.specs.declared.fill.rules.Operation.{Operation}
use Rattle.overlay.specs.declared.fill.rules.Operation.TheVariants.{Union}
use Rattle.overlay.specs.Boundary.{BoundsResult, IsBoundary}
use Rattle.overlay.specs.Contours.Outlines.{AreOutlines, outline}
use Rattle.overlay.specs.Contours.Rings.{AreContours, real_edges, ring_edges}
use Rattle.overlay.specs.Fill.Rules.{is_result}
use Rattle.overlay.specs.Nesting.{PolygonWindsOnce}
use Rattle.overlay.specs.OnePiece.{ShareAlongNoCircle}
use Rattle.overlay.specs.Overlay.{polygon_edges}
use Rattle.overlay.specs.Polygons.{HasSignedArea, IsPolygon, rings_of}
use Rattle.overlay.proofs.AreaLemmas.Rings.{boundary-signed, outlines-signed}
use Rattle.overlay.proofs.BoundaryLemmas.Bounding.{rings-bound, winds-exactly, winds-once, winds-same}
use Rattle.overlay.proofs.ContourLemmas.Callers.{outlines-wind}
use Rattle.overlay.proofs.ContourLemmas.Counts.{rings-closed}
use Rattle.overlay.proofs.GroupingLemmas.Corners.{rings-corners}
use Rattle.overlay.proofs.GroupingLemmas.Grouped.{map-joined}
use Rattle.overlay.proofs.GroupingLemmas.Outlined.{outlines-run, polygons-outlined}
use Rattle.overlay.proofs.OverlayLemmas.{exact-real, outlines-each}
use Rattle.overlay.proofs.WindsLemmas.Areas.{polygons-area}
use Rattle.overlay.proofs.WindsLemmas.Pieced.{pieces-each}
use Rattle.offset.specs.Faults.{IsPointFault, IsRawFault}
use Rattle.offset.specs.Minkowski.{IsAround, IsErosion, IsErosionFault, IsGrown, IsMinkowski, IsShrunk, IsSumFault, IsWound}
use Rattle.offset.specs.Lines.{AreGrownLines, IsOfPaths, raw_of_paths}
use Rattle.offset.specs.Cuts.{IsCurve}
use Rattle.offset.specs.Raw.{GoesThrough, backwards, raw_edges, raw_inside}
use Rattle.offset.specs.Shape.{IsConvexAroundOrigin, opposite_shape}
use Rattle.offset.specs.Sum.{IsOfErosion, IsOfSum, IsOfSumWith}
use Rattle.offset.proofs.CutLemmas.Sums.{curve-only}
use Rattle.offset.proofs.ErosionLemmas.{winds-erosion}
use Rattle.offset.proofs.LineLemmas.Lines.{paths-cover, paths-natural, paths-sum}
use Rattle.offset.proofs.RawLemmas.{fails-lt, passes-lt}
use Rattle.offset.proofs.SideLemmas.Inner.{BoundOnce}
use Rattle.offset.specs.declared.fault.MinkowskiFault.{MinkowskiFault}
use Rattle.offset.specs.declared.fault.MinkowskiFault.TheVariants.{Lengths, Shape, Range, OutOfMemory}

-- Polygons of edges that bound what is inside of others.
pub polygons-wound : (rule : FillRule) (raw edges : List Edge) (whole : List (List (List Point))) → BoundsResult rule Union raw [] edges → All IsPolygon whole → AreContours edges (rings_of whole) → All PolygonWindsOnce whole → All ShareAlongNoCircle whole → IsWound rule raw (map (λ polygon. map outline polygon) whole)
polygons-wound rule raw edges whole bounds directed are each share =
    let outlines = subst (AreOutlines edges) (sym (map-joined outline whole)) (outlines-wind edges (rings_of whole) are) in
    let polygons = map (λ polygon. map outline polygon) whole in
    let boundary = rings-bound rule Union raw [] edges (rings_of whole) bounds are in
    let alike = outlines-run (rings_of whole) boundary.bounds.noded boundary.bounds.distinct in
    let everywhere = winds-same rule Union raw [] edges (polygon_edges polygons) outlines.winds bounds.everywhere in
    record {
      each = outlines.each;
      three_points = subst (All (λ ring. 3 ≤ length ring)) (sym (map-joined outline whole))
          (rings-corners (flat_map ring_edges (rings_of whole)) boundary.bounds.noded boundary.bounds.two_ends (rings_of whole) are.each (λ edge among. among) boundary.bounds.distinct);
      directed = polygons-outlined whole alike directed;
      areas = subst (All HasSignedArea) (sym (map-joined outline whole)) (outlines-signed (rings_of whole) alike (boundary-signed rule Union raw [] (rings_of whole) boundary));
      each_once = outlines-each whole each;
      each_area = polygons-area whole directed are.each boundary.bounds.noded boundary.bounds.distinct boundary.bounds.two_ends each;
      one_piece = pieces-each whole boundary.bounds.noded boundary.bounds.distinct share;
      everywhere = everywhere;
      once = winds-once rule Union raw [] (polygon_edges polygons) everywhere;
      exact = λ point exactly. winds-exactly rule Union raw [] (polygon_edges polygons) everywhere point (subst (λ (edges : List Edge). All (IsExactAt edges point) edges) (sym (append-nil raw)) exactly);
    }

-- The raw curve of rings that bound the inside wasn't made.
pub fails-so : (rule : FillRule) (edges : List Edge) (corners : List Point) (rings : List (List Point)) → IsBoundary rule Union (real_edges edges) [] rings → (fault : MinkowskiFault) → IsRawFault (raw_edges corners rings) fault → IsSumFault rule edges corners fault
fails-so rule edges corners rings bounds Lengths is = is
fails-so rule edges corners rings bounds Shape is = is
fails-so rule edges corners rings bounds Range is = (rings, bounds, is)
fails-so rule edges corners rings bounds OutOfMemory is = is

-- Nor was that within them.
pub fails-within : (rule : FillRule) (edges : List Edge) (corners : List Point) (rings : List (List Point)) → IsBoundary rule Union (real_edges edges) [] rings → (fault : MinkowskiFault) → IsRawFault (raw_inside corners rings) fault → IsErosionFault rule edges corners fault
fails-within rule edges corners rings bounds Lengths is = is
fails-within rule edges corners rings bounds Shape is = is
fails-within rule edges corners rings bounds Range is = inr (rings, bounds, is)
fails-within rule edges corners rings bounds OutOfMemory is = is

-- The shape wasn't turned.
pub fails-turned : (rule : FillRule) (edges : List Edge) (corners : List Point) (fault : MinkowskiFault) → IsPointFault (opposite_shape corners) fault → IsErosionFault rule edges corners fault
fails-turned rule edges corners Lengths is = is
fails-turned rule edges corners Shape is = is
fails-turned rule edges corners Range is = inl is
fails-turned rule edges corners OutOfMemory is = is

-- Rings that bound a result bound it once, and wind around nothing outside.
abbrev pub bound-once : (rule : FillRule) (operation : Operation) (subject clip : List Edge) (rings : List (List Point)) → IsBoundary rule operation subject clip rings → BoundOnce (flat_map ring_edges rings)
bound-once rule operation subject clip rings is = record {
  closed = λ test. rings-closed test rings;
  noded = is.bounds.noded;
  distinct = is.bounds.distinct;
  two_ends = is.bounds.two_ends;
  outer = pos 0;
  once = winds-once rule operation subject clip (flat_map ring_edges rings) is.bounds.everywhere;
}

-- Polygons around what a curve winds around are around a region, where the curve winds around its points, and around no others.
pub around-of : (region : RationalPoint → Type 0) (raw : List Edge) (polygons : List (List (List Point))) → IsWound NonZero raw polygons
    → ((point : RationalPoint) → All (λ edge. ¬ (GoesThrough edge point)) raw → (region point × (pos 0 <ℤ winding raw point)) ⊎ ((¬ (region point)) × (winding raw point ≡ pos 0)))
    → IsAround region raw polygons
around-of region raw polygons wound winds = record {
  each = wound.each;
  three_points = wound.three_points;
  directed = wound.directed;
  areas = wound.areas;
  each_once = wound.each_once;
  each_area = wound.each_area;
  one_piece = wound.one_piece;
  once = wound.once;
  exact = λ point off exactly. ⊎_elim
      (λ (found : region point × (pos 0 <ℤ winding raw point)). inl (found.0, wound.exact point exactly ∙ one (winding raw point) found.1))
      (λ (left : (¬ (region point)) × (winding raw point ≡ pos 0)). inr (left.0, wound.exact point exactly ∙ none (winding raw point) left.1))
      (winds point off);
}
  where
    one : (w : ℤ) → pos 0 <ℤ w → count (is_result NonZero Union w (pos 0)) ≡ pos 1
    one w above = ap (λ (t : Bool). count ((t || int_lt w (pos 0)) || (int_lt (pos 0) (pos 0) || int_lt (pos 0) (pos 0)))) (passes-lt (pos 0) w above)

    none : (w : ℤ) → w ≡ pos 0 → count (is_result NonZero Union w (pos 0)) ≡ pos 0
    none w is = ap (λ z. count (is_result NonZero Union z (pos 0))) is

-- What a raw curve winds around is the sum.
sum-of : (corners : List Point) → IsConvexAroundOrigin corners → (rings : List (List Point)) (bounds : BoundOnce (flat_map ring_edges rings)) → bounds.outer ≡ pos 0 → (raw : List Edge) → IsCurve corners rings raw → (polygons : List (List (List Point))) → IsWound NonZero raw polygons
    → IsMinkowski corners (flat_map ring_edges rings) raw polygons
sum-of corners convex rings bounds outside raw curve polygons wound =
    around-of (λ (point : RationalPoint). IsOfSum (flat_map ring_edges rings) corners point) raw polygons wound (λ point off. curve-only corners convex rings bounds outside raw curve point off)

-- What the inside grows to, from a raw curve of rings that bound it.
pub grown : (rule : FillRule) (edges : List Edge) (corners : List Point) → IsConvexAroundOrigin corners → (rings : List (List Point)) (raw : List Edge) (polygons : List (List (List Point))) → IsBoundary rule Union (real_edges edges) [] rings → IsCurve corners rings raw → IsWound NonZero raw polygons → IsGrown rule edges corners polygons
grown rule edges corners convex rings raw polygons bounds curve wound = record {
  rings = rings;
  bounds = bounds;
  inside = λ point exactly. exact-real edges [] rule Union (flat_map ring_edges rings) bounds.bounds.everywhere point (subst (λ (all : List Edge). All (IsExactAt all point) all) (sym (append-nil edges)) exactly);
  raw = raw;
  curve = curve;
  wound = wound;
  sum = sum-of corners convex rings (bound-once rule Union (real_edges edges) [] rings bounds) refl raw curve polygons wound;
}

-- What a raw curve within rings winds around below 0 is the erosion.
erosion-of : (corners : List Point) → IsConvexAroundOrigin corners → (rings : List (List Point)) (bounds : BoundOnce (flat_map ring_edges rings)) → bounds.outer ≡ pos 0 → (raw : List Edge) → IsCurve (opposite_shape corners) (map backwards rings) raw
    → (polygons : List (List (List Point))) → IsWound Negative raw polygons → IsErosion corners (flat_map ring_edges rings) raw polygons
erosion-of corners convex rings bounds outside raw curve polygons wound = record {
  each = wound.each;
  three_points = wound.three_points;
  directed = wound.directed;
  areas = wound.areas;
  each_once = wound.each_once;
  each_area = wound.each_area;
  one_piece = wound.one_piece;
  once = wound.once;
  exact = λ point off exactly. ⊎_elim
      (λ (found : IsOfErosion (flat_map ring_edges rings) corners point × (winding raw point ≡ negsuc 0)). inl (found.0, wound.exact point exactly ∙ one (winding raw point) found.1))
      (λ (left : (¬ (IsOfErosion (flat_map ring_edges rings) corners point)) × (pos 0 ≤ℤ winding raw point)). inr (left.0, wound.exact point exactly ∙ none (winding raw point) left.1))
      (winds-erosion corners convex rings bounds outside raw curve point off);
}
  where
    one : (w : ℤ) → w ≡ negsuc 0 → count (is_result Negative Union w (pos 0)) ≡ pos 1
    one w is = ap (λ z. count (is_result Negative Union z (pos 0))) is

    none : (w : ℤ) → pos 0 ≤ℤ w → count (is_result Negative Union w (pos 0)) ≡ pos 0
    none w from = ap (λ (t : Bool). count (t || int_lt (pos 0) (pos 0))) (fails-lt w (pos 0) from)

-- What is left of the inside, from a raw curve within rings that bound it.
pub shrunk : (rule : FillRule) (edges : List Edge) (corners : List Point) → IsConvexAroundOrigin corners → (rings : List (List Point)) (raw : List Edge) (polygons : List (List (List Point))) → IsBoundary rule Union (real_edges edges) [] rings → IsCurve (opposite_shape corners) (map backwards rings) raw → IsWound Negative raw polygons → IsShrunk rule edges corners polygons
shrunk rule edges corners convex rings raw polygons bounds curve wound = record {
  rings = rings;
  bounds = bounds;
  inside = λ point exactly. exact-real edges [] rule Union (flat_map ring_edges rings) bounds.bounds.everywhere point (subst (λ (all : List Edge). All (IsExactAt all point) all) (sym (append-nil edges)) exactly);
  raw = raw;
  curve = curve;
  wound = wound;
  erosion = erosion-of corners convex rings (bound-once rule Union (real_edges edges) [] rings bounds) refl raw curve polygons wound;
}

-- What paths grow to, from the shapes and parallelograms along them.
pub grown-lines : (corners : List Point) → IsConvexAroundOrigin corners → (paths : List (List Point)) (raw : List Edge) (polygons : List (List (List Point))) → raw ≡ raw_of_paths corners paths → IsWound NonZero raw polygons → AreGrownLines paths corners polygons
grown-lines corners convex paths raw polygons is wound = record {
  wound = there;
  sum = around-of (λ (point : RationalPoint). IsOfSumWith (λ from. IsOfPaths paths from) corners point) (raw_of_paths corners paths) polygons there
      (λ point off. by_lt_z (pos 0) (winding (raw_of_paths corners paths) point)
      (λ above. inl (paths-sum corners convex point paths (λ none. omega (arith, ints, above, none)), above))
      (λ upto. let from = paths-natural corners convex point paths in inr ((λ sum. let above = paths-cover corners convex point paths off sum in omega (arith, ints, above, upto)), omega (arith, ints, from, upto))));
}
  where
    there : IsWound NonZero (raw_of_paths corners paths) polygons
    there = subst (λ (all : List Edge). IsWound NonZero all polygons) is wound

-- What holds of a fault that came, of this one.
pub of-fault : {A : Type 0} (outcome : Result A MinkowskiFault) (fault : MinkowskiFault) (P : MinkowskiFault → Type 0) → IfErr outcome P → outcome ≡ Err fault → P fault
of-fault outcome fault P holds is = subst (λ (told : Result _ MinkowskiFault). IfErr told P) is holds
