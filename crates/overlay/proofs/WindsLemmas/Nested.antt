-- Polygons made of rings that keep sides wind once around a point or not at all, each by itself, where each hole is of the polygon
-- just below it.
use Rattle.std.proofs.Common.{◌≡◌, ◌≢◌, ◌++◌, List, [], ◌∷◌, map, refl, sym, subst, ◌∙◌, append_assoc}
use Rattle.std.specs.List.{All}
use Rattle.std.specs.List.Sorted.{IsPermutation}
use Rattle.std.proofs.lemmas.List.Elements.{All-cons, All-nil, All-weaker}
use Rattle.std.proofs.lemmas.List.Sorted.{All-permutation, Contains-permutation, IsPermutation-sym}
use Rattle.plane.specs.declared.edge.Edge.{Edge}
use Rattle.plane.specs.declared.point.Point.{Point}
use Rattle.plane.specs.Ends.{end_of, start_of}
use Rattle.plane.proofs.PairsLemmas.Bags.{AllPairs-permutation}
use Rattle.noding.proofs.SnapLemmas.Windings.{winding-permutation}
use Rattle.overlay.specs.Contours.Outlines.{outline}
use Rattle.overlay.specs.Contours.Rings.{IsRing, ring_edges}
use Rattle.overlay.specs.Fill.Filled.{HaveSameEnds}
use Rattle.overlay.specs.Nesting.{AreNested, PolygonWindsOnce}
use Rattle.overlay.specs.Overlay.{polygon_edges}
use Rattle.overlay.specs.Polygons.{rings_of}
use Rattle.overlay.specs.Sides.{AreBorders, HaveOneLeft, IsLow, KeepSides}
use Rattle.overlay.proofs.ContourLemmas.Bends.{winding-outlines}
use Rattle.overlay.proofs.FillLemmas.Kept.{same-exchanged}
use Rattle.overlay.proofs.WindsLemmas.Paired.{IsOneOrNone}
use Rattle.overlay.proofs.WindsLemmas.OwnPolygon.{mine-once}

abbrev Differ : Edge → Edge → Type 0
Differ one other = ¬ (HaveSameEnds one other)

-- ---- all of them

module _ (polygons : List (List (List Point))) (are_rings : All IsRing (rings_of polygons)) (borders : AreBorders (polygon_edges polygons)) (keep : KeepSides (polygon_edges polygons) (rings_of polygons)) (nested : AreNested polygons) where
  -- one polygon after another
  each-after : (before rest : List (List (List Point))) → polygons ≡ before ++ rest → All PolygonWindsOnce rest
  each-after before [] parts = All-nil PolygonWindsOnce
  each-after before (polygon ∷ after) parts =
      All-cons PolygonWindsOnce polygon after
      (mine-once polygons are_rings borders keep nested before polygon after parts)
      (each-after (before ++ polygon ∷ []) after (parts ∙ sym (append_assoc before (polygon ∷ []) after)))

-- Polygons of rings that keep sides wind once around a point or not at all, where each hole is of the polygon just below it.
pub nested-once : (polygons : List (List (List Point))) → All IsRing (rings_of polygons) → AreBorders (polygon_edges polygons) → KeepSides (polygon_edges polygons) (rings_of polygons) → AreNested polygons → All PolygonWindsOnce polygons
nested-once polygons are_rings borders keep nested = each-after polygons are_rings borders keep nested [] polygons refl

-- ---- in any order

-- Borders are such in any order.
pub AreBorders-permuted : (edges others : List Edge) → IsPermutation edges others → AreBorders edges → AreBorders others
AreBorders-permuted edges others moved are =
    let back = IsPermutation-sym edges others moved in record {
      noded = λ one other point first second of_one of_other. are.noded one other point (Contains-permutation others edges one back first) (Contains-permutation others edges other back second) of_one of_other;
      distinct = AllPairs-permutation Differ (λ one other differ same. differ (same-exchanged other one same)) edges others moved are.distinct;
      two_ends = All-permutation (λ edge. start_of edge ≢ end_of edge) edges others moved are.two_ends;
      once = λ point. subst IsOneOrNone (sym (winding-permutation edges others point moved)) (are.once point);
    }

-- And their rings keep sides in any order.
pub KeepSides-permuted : (edges others : List Edge) (rings moved_rings : List (List Point)) → IsPermutation edges others → IsPermutation rings moved_rings → KeepSides edges rings → KeepSides others moved_rings
KeepSides-permuted edges others rings moved_rings moved rings_moved keep n b wide low =
    let back = IsPermutation-sym edges others moved in
    All-permutation (λ ring. HaveOneLeft n others (ring_edges ring)) rings moved_rings rings_moved
    (All-weaker (λ ring. HaveOneLeft n edges (ring_edges ring)) (λ ring. HaveOneLeft n others (ring_edges ring))
    (λ ring is mine mine_closed into one other first second. is mine mine_closed (λ edge held. Contains-permutation others edges edge back (into edge held)) one other first second) rings
    (keep n b wide (All-permutation (IsLow b) others edges back low)))

-- ---- outlines

-- The outlines of a polygon's rings do so too.
pub outlined-once : (polygon : List (List Point)) → PolygonWindsOnce polygon → PolygonWindsOnce (map outline polygon)
outlined-once polygon once point = subst IsOneOrNone (sym (winding-outlines polygon point)) (once point)
