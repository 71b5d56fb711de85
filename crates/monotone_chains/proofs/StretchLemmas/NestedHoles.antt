-- Polygons of rings and of the widened rings: they run the same way, holes belong to the same, and they wind as often.
use Rattle.std.proofs.Common.{◌≡◌, ◌≢◌, ◌⊎◌, inl, inr, ℤ, pos, false, List, [], ◌∷◌, None, refl, sym, ap, ◌∙◌, subst, subst₂}
use Rattle.std.specs.List.{All, AllPairs, AllZip, Contains, flat_map}
use Rattle.std.proofs.lemmas.List.Elements.{All-cons, All-contains, All-head, All-nil, All-tail, Contains-append_left, Contains-append_right}
use Rattle.i_tree.proofs.RootLemmas.Lists.{Contains-here, Contains-there}
use Rattle.plane.specs.declared.edge.Edge.{Edge}
use Rattle.plane.specs.declared.point.Point.{Point}
use Rattle.plane.specs.SweepLine.Heights.{rightwards}
use Rattle.noding.specs.Windings.{pieces, winding}
use Rattle.overlay.specs.Contours.Rings.{ring_edges}
use Rattle.overlay.specs.Fill.Filled.{AreDistinct, AreNoded, HaveSameEnds}
use Rattle.overlay.specs.Nesting.{IsHoleIn, IsNextBelow, PolygonWindsOnce}
use Rattle.overlay.specs.Polygons.{IsPolygon, first_sloped, is_counterclockwise, rings_of, runs_rightwards}
use Rattle.overlay.proofs.FillLemmas.Kept.{same-exchanged}
use Rattle.overlay.proofs.FillLemmas.Premises.{All-among}
use Rattle.overlay.proofs.GroupingLemmas.Bags.{Contains-flat_map}
use Rattle.overlay.proofs.GroupingLemmas.Begins.{IsFirst, Told, told-all}
use Rattle.monotone_chains.specs.Stretches.{GoesAlong, IsStretch, IsWidened}
use Rattle.monotone_chains.proofs.StretchLemmas.Boxes.{AllPairs-any, ClearIfLong}
use Rattle.monotone_chains.proofs.StretchLemmas.Distinct.{pieces-apart}
use Rattle.monotone_chains.proofs.StretchLemmas.NestedFirst.{first-piece, piece-among, piece-across, runs-widened}
use Rattle.monotone_chains.proofs.StretchLemmas.NestedOrder.{IsLower, lower-edges, lower-pieces}
use Rattle.monotone_chains.proofs.StretchLemmas.NestedAcross.{edge-across}
use Rattle.monotone_chains.proofs.StretchLemmas.Noded.{PieceOf, piece-of}
use Rattle.monotone_chains.proofs.StretchLemmas.Placed.{IsPlaced}
use Rattle.monotone_chains.proofs.StretchLemmas.Rings.{widened-edges, widened-ways}
use Rattle.monotone_chains.proofs.StretchLemmas.Shifts.{shift-of}
use Rattle.monotone_chains.proofs.StretchLemmas.Wound.{ways-winding}

-- The edges of the rings are among these.
abbrev pub AreEdgesOf : List Edge → List (List Point) → Type 0
AreEdgesOf edges rings = (ring : List Point) → Contains rings ring → (edge : Edge) → Contains (ring_edges ring) edge → Contains edges edge

edges-first : (edges : List Edge) (ring : List Point) (rings : List (List Point)) → AreEdgesOf edges (ring ∷ rings) → (edge : Edge) → Contains (ring_edges ring) edge → Contains edges edge
edges-first edges ring rings there = there ring (Contains-here ring rings)

edges-others : (edges : List Edge) (ring : List Point) (rings : List (List Point)) → AreEdgesOf edges (ring ∷ rings) → AreEdgesOf edges rings
edges-others edges ring rings there other held = there other (Contains-there ring rings other held)

edges-all : (edges : List Edge) (rings : List (List Point)) → AreEdgesOf edges rings → (edge : Edge) → Contains (flat_map ring_edges rings) edge → Contains edges edge
edges-all edges rings there edge held = let (ring, among, inside) = Contains-flat_map ring_edges rings edge held in there ring among edge inside

-- Each of the rings that runs clockwise is a hole of the polygon.
abbrev pub HaveHoles : List Edge → List (List Point) → List (List Point) → Type 0
HaveHoles among polygon rings = All (λ ring. is_counterclockwise ring ≡ false → IsHoleIn among polygon ring) rings

-- ---- rings that run the same way

abbrev RunSame : List Point → List Point → Type 0
RunSame ring wide = is_counterclockwise ring ≡ is_counterclockwise wide

holes-narrowed : (rings wides : List (List Point)) → AllZip RunSame rings wides → All (λ hole. is_counterclockwise hole ≡ false) wides → All (λ hole. is_counterclockwise hole ≡ false) rings
holes-narrowed [] [] same are = All-nil (λ hole. is_counterclockwise hole ≡ false)
holes-narrowed [] (wide ∷ wides) same are = absurd same
holes-narrowed (ring ∷ rings) [] same are = absurd same
holes-narrowed (ring ∷ rings) (wide ∷ wides) (same, rest) are =
    let IsHole : List Point → Type 0 = λ hole. is_counterclockwise hole ≡ false in
    All-cons IsHole ring rings (same ∙ All-head IsHole wide wides are) (holes-narrowed rings wides rest (All-tail IsHole wide wides are))

polygon-narrowed : (rings wides : List (List Point)) → AllZip RunSame rings wides → IsPolygon wides → IsPolygon rings
polygon-narrowed [] [] same is = is
polygon-narrowed [] (wide ∷ wides) same is = absurd same
polygon-narrowed (ring ∷ rings) [] same is = absurd same
polygon-narrowed (ring ∷ rings) (wide ∷ wides) (same, rest) is =
    let whole = is.is in
    let first : wide ≡ is.outer = cc in
    let others : is.holes ≡ wides = cc in record {
      outer = ring;
      holes = rings;
      is = refl;
      outwards = same ∙ ap is_counterclockwise first ∙ is.outwards;
      inwards = holes-narrowed rings wides rest (subst (All (λ hole. is_counterclockwise hole ≡ false)) others is.inwards);
    }

-- The edges of the widened rings are the pieces of all ways.
module _ (all : List (List Point)) (each : All IsStretch all) (clear : AllPairs ClearIfLong all) (edges : List Edge) (placed : All (λ edge. edge.x1 ≢ edge.x0 → IsPlaced all edge) edges)
    (noded : AreNoded edges) (distinct : AreDistinct edges) (ways : List (List Point)) (go : AllZip (GoesAlong all) edges ways) (wide_noded : AreNoded (flat_map pieces ways)) where
  abbrev wide_edges : List Edge
  wide_edges = flat_map pieces ways

  placed-at : (edge : Edge) → Contains edges edge → edge.x1 ≢ edge.x0 → IsPlaced all edge
  placed-at edge among = All-contains (λ (e : Edge). e.x1 ≢ e.x0 → IsPlaced all e) edges edge placed among

  -- a ring runs the way that the widened ring runs
  module _ (ring wide : List Point) (there : (edge : Edge) → Contains (ring_edges ring) edge → Contains edges edge) (wide_there : (piece : Edge) → Contains (ring_edges wide) piece → Contains wide_edges piece) where
    runs-same : IsWidened all ring wide → RunSame ring wide
    runs-same (ring_ways, goes, is) =
        let are = widened-edges all ring ring_ways wide each goes is in
        runs-widened all each clear edges placed noded distinct wide_edges wide_noded (ring_edges ring) ring_ways goes there
        (λ piece held. wide_there piece (subst (λ (list : List Edge). Contains list piece) (sym are) held))
        ∙ ap (λ (list : List Edge). runs_rightwards (first_sloped None list)) (sym are)

    -- a hole in the widened polygon is one in the polygon
    module _ (polygon wides : List (List Point)) (of_edges : AreEdgesOf edges polygon) (zip : AllZip (IsWidened all) polygon wides) where
      -- a piece is of the widened polygon only where its edge is of the polygon
      of-polygon : (piece : Edge) (of : PieceOf all edges piece) → Contains (flat_map ring_edges wides) piece → Contains (flat_map ring_edges polygon) of.edge
      of-polygon piece of held =
          let (some_ways, goes, are) = widened-ways all polygon wides each zip in
          let found = piece-of all (flat_map ring_edges polygon) some_ways piece goes (subst (λ (list : List Edge). Contains list piece) are held) in
          let among = edges-all edges polygon of_edges found.edge found.among in
          elim (AllPairs-any (λ one other. ¬ (HaveSameEnds one other)) (λ one other apart back. apart (same-exchanged other one back)) edges distinct of.edge found.edge of.among among) [
            | inl same ↦ subst (Contains (flat_map ring_edges polygon)) (sym same) found.among
            | inr apart ↦ absurd (pieces-apart all each clear piece piece of.edge found.edge of.way found.way of.goes found.goes of.is found.is (placed-at of.edge of.among) (placed-at found.edge among) apart (inl refl))
          ]

      hole-narrowed : IsWidened all ring wide → IsHoleIn wide_edges wides wide → IsHoleIn edges polygon ring
      hole-narrowed (ring_ways, goes, is) hole first below told next =
          let are = widened-edges all ring ring_ways wide each goes is in
          let begins : IsFirst (ring_edges ring) first = subst (Told (ring_edges ring)) told (told-all (ring_edges ring)) in
          let starts = first-piece all each clear edges placed noded distinct wide_edges wide_noded (ring_edges ring) ring_ways goes there
          (λ piece held. wide_there piece (subst (λ (list : List Edge). Contains list piece) (sym are) held)) first begins in
          let x = (rightwards first).x0 in
          let lies = piece-across all each clear edges placed noded distinct wide_edges wide_noded edges ways go (λ edge held. held) (λ piece held. held) below next.among x next.over in
          let of : PieceOf all edges starts.piece = piece-among all (ring_edges ring) edges starts.piece there starts.of in
          let among_too = wide_there starts.piece (subst (λ (list : List Edge). Contains list starts.piece) (sym are) starts.among) in
          let wide_next : IsNextBelow wide_edges x lies.piece starts.piece = record {
            among = lies.among;
            among_too = among_too;
            over = lies.over;
            over_too = starts.over;
            less = lower-pieces all each clear edges placed noded lies.piece starts.piece lies.of of x lies.over starts.over wide_edges wide_noded lies.among among_too
                (subst₂ (IsLower x) (sym lies.is) (sym starts.same) next.less);
            none = λ between held over from upto.
                (let amid = piece-of all edges ways between go held in
                next.none amid.edge amid.among (edge-across all each clear amid.edge amid.way amid.goes x between amid.is over)
                (subst (λ (e : Edge). IsLower x e amid.edge) lies.is (lower-edges all each clear edges placed noded lies.piece between lies.of amid x lies.over over from))
                (subst (λ (e : Edge). IsLower x amid.edge e) starts.same (lower-edges all each clear edges placed noded between starts.piece amid of x over starts.over upto)));
          } in
          let held = hole starts.piece lies.piece (ap (λ (list : List Edge). first_sloped None list) are ∙ starts.is) (subst (λ z. IsNextBelow wide_edges z lies.piece starts.piece) (sym starts.at) wide_next) in
          subst (Contains (flat_map ring_edges polygon)) lies.is (of-polygon lies.piece lies.of held)

  rings-same : (rings wides : List (List Point)) → AreEdgesOf edges rings → AreEdgesOf wide_edges wides → AllZip (IsWidened all) rings wides → AllZip RunSame rings wides
  rings-same [] [] there wide_there zip = tt
  rings-same [] (wide ∷ wides) there wide_there zip = absurd zip
  rings-same (ring ∷ rings) [] there wide_there zip = absurd zip
  rings-same (ring ∷ rings) (wide ∷ wides) there wide_there (is, zip) = (
    runs-same ring wide (edges-first edges ring rings there) (edges-first wide_edges wide wides wide_there) is,
    rings-same rings wides (edges-others edges ring rings there) (edges-others wide_edges wide wides wide_there) zip,
  )

  -- ---- holes

  module _ (polygon wides : List (List Point)) (of_edges : AreEdgesOf edges polygon) (zip : AllZip (IsWidened all) polygon wides) where
    holes-of : (rings others : List (List Point)) → AreEdgesOf edges rings → AreEdgesOf wide_edges others → AllZip (IsWidened all) rings others → HaveHoles wide_edges wides others → HaveHoles edges polygon rings
    holes-of [] [] there wide_there each_is holes = All-nil (λ ring. is_counterclockwise ring ≡ false → IsHoleIn edges polygon ring)
    holes-of [] (wide ∷ others) there wide_there each_is holes = absurd each_is
    holes-of (ring ∷ rings) [] there wide_there each_is holes = absurd each_is
    holes-of (ring ∷ rings) (wide ∷ others) there wide_there (is, each_is) holes =
        let first = edges-first edges ring rings there in
        let wide_first = edges-first wide_edges wide others wide_there in
        let WideHole : List Point → Type 0 = λ r. is_counterclockwise r ≡ false → IsHoleIn wide_edges wides r in
        All-cons (λ r. is_counterclockwise r ≡ false → IsHoleIn edges polygon r) ring rings
        (λ clockwise. hole-narrowed ring wide first wide_first polygon wides of_edges zip is (All-head WideHole wide others holes (sym (runs-same ring wide first wide_first is) ∙ clockwise)))
        (holes-of rings others (edges-others edges ring rings there) (edges-others wide_edges wide others wide_there) each_is (All-tail WideHole wide others holes))

    -- ---- windings

    -- the widened polygon winds around a point as the polygon does around what stands for the point
    polygon-winds : PolygonWindsOnce polygon → PolygonWindsOnce wides
    polygon-winds once point =
        let (other, shift) = shift-of all each clear point in
        let (some_ways, goes, are) = widened-ways all polygon wides each zip in
        let same : winding (flat_map ring_edges wides) point ≡ winding (flat_map ring_edges polygon) other = ap (λ (list : List Edge). winding list point) are
        ∙ ways-winding all each point other shift (flat_map ring_edges polygon) some_ways goes
        (All-among (λ e. e.x1 ≢ e.x0 → IsPlaced all e) (flat_map ring_edges polygon) (λ e held. placed-at e (edges-all edges polygon of_edges e held))) in
        subst (λ (w : ℤ). (w ≡ pos 0) ⊎ (w ≡ pos 1)) (sym same) (once other)

  -- ---- all polygons

  edges-polygon : (among : List Edge) (polygon : List (List Point)) (polygons : List (List (List Point))) → AreEdgesOf among (rings_of (polygon ∷ polygons)) → AreEdgesOf among polygon
  edges-polygon among polygon polygons there ring held = there ring (Contains-append_left polygon (rings_of polygons) ring held)

  edges-polygons : (among : List Edge) (polygon : List (List Point)) (polygons : List (List (List Point))) → AreEdgesOf among (rings_of (polygon ∷ polygons)) → AreEdgesOf among (rings_of polygons)
  edges-polygons among polygon polygons there ring held = there ring (Contains-append_right polygon (rings_of polygons) ring held)

  pub polygons-narrowed : (polygons wides : List (List (List Point))) → AreEdgesOf edges (rings_of polygons) → AreEdgesOf wide_edges (rings_of wides) → AllZip (AllZip (IsWidened all)) polygons wides
      → All IsPolygon wides → All IsPolygon polygons
  polygons-narrowed [] [] there wide_there zip are = All-nil IsPolygon
  polygons-narrowed [] (wide ∷ wides) there wide_there zip are = absurd zip
  polygons-narrowed (polygon ∷ polygons) [] there wide_there zip are = absurd zip
  polygons-narrowed (polygon ∷ polygons) (wide ∷ wides) there wide_there (is, zip) are =
      All-cons IsPolygon polygon polygons
      (polygon-narrowed polygon wide (rings-same polygon wide (edges-polygon edges polygon polygons there) (edges-polygon wide_edges wide wides wide_there) is) (All-head IsPolygon wide wides are))
      (polygons-narrowed polygons wides (edges-polygons edges polygon polygons there) (edges-polygons wide_edges wide wides wide_there) zip (All-tail IsPolygon wide wides are))

  pub nested-narrowed : (polygons wides : List (List (List Point))) → AreEdgesOf edges (rings_of polygons) → AreEdgesOf wide_edges (rings_of wides) → AllZip (AllZip (IsWidened all)) polygons wides
      → All (λ wide. HaveHoles wide_edges wide wide) wides → All (λ polygon. HaveHoles edges polygon polygon) polygons
  nested-narrowed [] [] there wide_there zip nested = All-nil (λ polygon. HaveHoles edges polygon polygon)
  nested-narrowed [] (wide ∷ wides) there wide_there zip nested = absurd zip
  nested-narrowed (polygon ∷ polygons) [] there wide_there zip nested = absurd zip
  nested-narrowed (polygon ∷ polygons) (wide ∷ wides) there wide_there (is, zip) nested =
      let own = edges-polygon edges polygon polygons there in
      let WideNested : List (List Point) → Type 0 = λ p. HaveHoles wide_edges p p in
      All-cons (λ p. HaveHoles edges p p) polygon polygons
      (holes-of polygon wide own is polygon wide own (edges-polygon wide_edges wide wides wide_there) is (All-head WideNested wide wides nested))
      (nested-narrowed polygons wides (edges-polygons edges polygon polygons there) (edges-polygons wide_edges wide wides wide_there) zip (All-tail WideNested wide wides nested))

  pub polygons-wind : (polygons wides : List (List (List Point))) → AreEdgesOf edges (rings_of polygons) → AllZip (AllZip (IsWidened all)) polygons wides → All PolygonWindsOnce polygons → All PolygonWindsOnce wides
  polygons-wind [] [] there zip once = All-nil PolygonWindsOnce
  polygons-wind [] (wide ∷ wides) there zip once = absurd zip
  polygons-wind (polygon ∷ polygons) [] there zip once = absurd zip
  polygons-wind (polygon ∷ polygons) (wide ∷ wides) there (is, zip) once =
      All-cons PolygonWindsOnce wide wides
      (polygon-winds polygon wide (edges-polygon edges polygon polygons there) is (All-head PolygonWindsOnce polygon polygons once))
      (polygons-wind polygons wides (edges-polygons edges polygon polygons there) zip (All-tail PolygonWindsOnce polygon polygons once))
