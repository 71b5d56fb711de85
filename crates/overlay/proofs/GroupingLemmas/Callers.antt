-- From rings to polygons.
use Rattle.std.proofs.Common.{◌≡◌, ◌≤◌, [], ℕ, Bool, true, not, List, Option, Some, None, length, map, refl, ap, sym, subst, subst₂, ◌∙◌}
use Rattle.std.specs.List.{All, flat_map, position}
use Rattle.std.specs.List.Sorted.{IsNonDecreasingBy, IsPermutation}
use Rattle.std.proofs.lemmas.List.{length-map}
use Rattle.std.proofs.lemmas.List.Quantifiers.{position-Some}
use Rattle.std.proofs.lemmas.List.Sorted.{All-permutation, IsPermutation-map, IsPermutation-refl, IsPermutation-sym}
use Rattle.plane.specs.declared.point.Point.{Point}
use Rattle.overlay.specs.Contours.Rings.{AreContours, IsRing, ring_edges}
use Rattle.overlay.specs.Grouping.{AreHomes, AreWithin, ShareHomes, is_outer, placed_from, placed_polygons, rank, ring_in}
use Rattle.overlay.specs.Nesting.{AreNested}
use Rattle.overlay.specs.Polygons.{BoundsSome, IsPolygon, is_counterclockwise, rings_of as rings_of_all}
use Rattle.overlay.specs.Rings.{AreEnds, edges_in, rings_of}
use Rattle.overlay.specs.declared.grouping.order.PlacedRing.{PlacedRing}
use Rattle.overlay.proofs.EachRing.{rings-size}
use Rattle.overlay.proofs.GroupingLemmas.Bags.{IsPermutation-flat_map}
use Rattle.overlay.proofs.GroupingLemmas.Begins.{no-rings}
use Rattle.overlay.proofs.GroupingLemmas.Grouped.{are-polygons, rings-are}
use Rattle.overlay.proofs.GroupingLemmas.Nested.{order-nested}
use Rattle.overlay.proofs.GroupingLemmas.Placed.{begin-outside, placed-marks, placed-rings, placed-within}

-- ---- marks

-- each ring has a mark
pub marks-size : (points : List Point) (ends : List ℕ) (are_outer : List Bool) → are_outer ≡ map is_counterclockwise (rings_of points 0 ends) → length are_outer ≡ length ends
marks-size points ends are_outer is = ap (λ (list : List Bool). length list) is ∙ length-map (rings_of points 0 ends) is_counterclockwise ∙ rings-size points 0 ends

pub found-outer : (are_outer : List Bool) (found : Option ℕ) (outer : ℕ) → found ≡ position (λ is. is) are_outer → found ≡ Some outer → is_outer are_outer outer ≡ true
found-outer are_outer found outer told is = (position-Some (λ is. is) are_outer outer _ (sym told ∙ is)).1

-- ---- no rings

none-found : (found : Option ℕ) → ((place : ℕ) → found ≡ Some place → ⊥) → found ≡ None
none-found None never = refl
none-found (Some place) never = absurd (never place refl)

module _ (rings : List (List Point)) (each : All IsRing rings) (bounds : BoundsSome (flat_map ring_edges rings)) (are_outer : List Bool) (marks : are_outer ≡ map is_counterclockwise rings) (found : Option ℕ) (told : found ≡ position (λ is. is) are_outer)
    (never : (place : ℕ) → found ≡ Some place → ⊥) where
  none-there : rings ≡ []
  none-there = no-rings rings each bounds (sym (ap (λ (list : List Bool). position (λ is. is) list) marks) ∙ sym told ∙ none-found found never)

  pub no-contours : AreContours (flat_map ring_edges rings) []
  no-contours = subst (AreContours (flat_map ring_edges rings)) none-there (record { each = each; all = IsPermutation-refl (flat_map ring_edges rings) })

  pub none-moved : IsPermutation [] rings
  none-moved = subst (λ (list : List (List Point)). IsPermutation list rings) none-there (IsPermutation-refl rings)

-- ---- rings in order

module _ (points : List Point) (ends : List ℕ) (are_outer : List Bool) (homes : List ℕ) (order : List PlacedRing) (moved : IsPermutation (placed_from are_outer homes 0 0 ends) order) where
  pub order-within : AreEnds 0 ends (length points) → AreWithin points order
  order-within right = All-permutation (λ (ring : PlacedRing). (ring.start ≤ ring.end) × (ring.end ≤ length points)) (placed_from are_outer homes 0 0 ends) order moved (placed-within are_outer homes points 0 0 ends right)

  pub order-polygons : are_outer ≡ map is_counterclockwise (rings_of points 0 ends) → AreHomes are_outer homes → IsNonDecreasingBy rank order → All IsPolygon (placed_polygons points order)
  order-polygons marks have rising =
      are-polygons points order (begin-outside are_outer homes have ends (marks-size points ends are_outer marks) order moved rising)
      (All-permutation (λ (ring : PlacedRing). ring.is_hole ≡ not (is_counterclockwise (ring_in points ring))) (placed_from are_outer homes 0 0 ends) order moved (placed-marks are_outer homes points [] 0 0 ends refl marks))

  pub rings-moved : IsPermutation (rings_of points 0 ends) (rings_of_all (placed_polygons points order))
  rings-moved =
      subst₂ (λ (one other : List (List Point)). IsPermutation one other) (placed-rings are_outer homes points 0 0 ends) (sym (rings-are points order))
      (IsPermutation-map (ring_in points) (placed_from are_outer homes 0 0 ends) order moved)

  -- the polygons have all rings, each once
  pub order-moved : IsPermutation (rings_of_all (placed_polygons points order)) (rings_of points 0 ends)
  order-moved = IsPermutation-sym (rings_of points 0 ends) (rings_of_all (placed_polygons points order)) rings-moved

  -- and each hole is of the polygon just below it
  pub all-nested : are_outer ≡ map is_counterclockwise (rings_of points 0 ends) → AreHomes are_outer homes → IsNonDecreasingBy rank order → ShareHomes (rings_of points 0 ends) are_outer homes → AreNested (placed_polygons points order)
  all-nested marks have rising share =
      let size = marks-size points ends are_outer marks in
      order-nested points ends are_outer homes order moved size have rising (begin-outside are_outer homes have ends size order moved rising) share rings-moved

  pub order-contours : All IsRing (rings_of points 0 ends) → AreContours (edges_in points ends) (rings_of_all (placed_polygons points order))
  order-contours each =
      let rings = rings_of points 0 ends in
      let all = rings_of_all (placed_polygons points order) in
      record {
        each = All-permutation IsRing rings all rings-moved each;
        all = IsPermutation-sym (flat_map ring_edges rings) (flat_map ring_edges all) (IsPermutation-flat_map ring_edges rings all rings-moved);
      }
