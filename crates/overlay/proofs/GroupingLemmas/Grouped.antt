-- Placed rings as polygons.
use Rattle.std.proofs.Common.{◌≡◌, ◌<◌, ◌+◌, ◌++◌, [], ◌∷◌, ℕ, Bool, true, false, not, cond, List, drop, take, ◌-◌, length, map, refl, ap, ap₂, sym, subst, ◌∙◌, append_assoc, arith}
use Rattle.std.specs.List.{All, flat_map}
use Rattle.std.proofs.lemmas.List.{length-append, length-map, map-append, take_all}
use Rattle.std.proofs.lemmas.List.Folds.{flat_map-map}
use Rattle.std.proofs.lemmas.List.Elements.{All-append, All-cons, All-head, All-nil, All-tail}
use Rattle.plane.specs.declared.point.Point.{Point}
use Rattle.overlay.specs.Contours.Outlines.{outline}
use Rattle.noding.specs.Offsets.{offsets}
use Rattle.overlay.specs.Grouping.{BeginOutside, ends_from, placed_polygons, polygons_from, polygons_of, ring_in}
use Rattle.overlay.specs.Polygons.{AreAppended, IsPolygon, is_counterclockwise, rings_of}
use Rattle.overlay.specs.declared.grouping.order.PlacedRing.{PlacedRing}

-- ---- where polygons stop

ends-from : (start end : ℕ) (polygon rings : List PlacedRing) → end ≡ start + length polygon → ends_from end rings ≡ offsets start (polygons_from polygon rings)
ends-from start end polygon [] is = ap (λ (n : ℕ). n ∷ []) is
ends-from start end polygon (ring ∷ rings) is =
    by (ends-from start (end + 1) (polygon ++ ring ∷ []) rings (let sum = length-append polygon (ring ∷ []) in omega (arith, sum, is))) (ends-from (start + length polygon) (end + 1) (ring ∷ []) rings (omega (arith, is))) ring.is_hole
  where
    by : ends_from (end + 1) rings ≡ offsets start (polygons_from (polygon ++ ring ∷ []) rings) → ends_from (end + 1) rings ≡ offsets (start + length polygon) (polygons_from (ring ∷ []) rings)
        → (t : Bool) → cond t (ends_from (end + 1) rings) (end ∷ ends_from (end + 1) rings) ≡ offsets start (cond t (polygons_from (polygon ++ ring ∷ []) rings) (polygon ∷ polygons_from (ring ∷ []) rings))
    by joins begins true = joins
    by joins begins false = ap₂ (λ (n : ℕ) (ns : List ℕ). n ∷ ns) is begins

pub ends-polygons : (first : ℕ) (rings : List PlacedRing) → 0 < length rings → ends_from (first + 1) (take (length rings - 1) (drop 1 rings)) ≡ offsets first (polygons_of rings)
ends-polygons first [] some = absurd (omega (arith, some))
ends-polygons first (ring ∷ rings) some =
    ap (λ (others : List PlacedRing). ends_from (first + 1) others) (take_all (length (ring ∷ rings) - 1) rings (omega arith)) ∙ ends-from first (first + 1) (ring ∷ []) rings (omega arith)

offsets-map : {X Y : Type 0} (f : X → Y) (start : ℕ) (lists : List (List X)) → offsets start (map (λ list. map f list) lists) ≡ offsets start lists
offsets-map f start [] = refl
offsets-map f start (list ∷ lists) =
    ap (λ (n : ℕ). (start + n) ∷ offsets (start + n) (map (λ one. map f one) lists)) (length-map list f) ∙ ap (λ (ends : List ℕ). (start + length list) ∷ ends) (offsets-map f (start + length list) lists)

-- ---- which rings they have

pub joined-from : (polygon rings : List PlacedRing) → flat_map (λ list. list) (polygons_from polygon rings) ≡ polygon ++ rings
joined-from polygon [] = refl
joined-from polygon (ring ∷ rings) = by (joined-from (polygon ++ ring ∷ []) rings) (joined-from (ring ∷ []) rings) ring.is_hole
  where
    by : flat_map (λ list. list) (polygons_from (polygon ++ ring ∷ []) rings) ≡ (polygon ++ ring ∷ []) ++ rings → flat_map (λ list. list) (polygons_from (ring ∷ []) rings) ≡ ring ∷ rings
        → (t : Bool) → flat_map (λ list. list) (cond t (polygons_from (polygon ++ ring ∷ []) rings) (polygon ∷ polygons_from (ring ∷ []) rings)) ≡ polygon ++ ring ∷ rings
    by joins begins true = joins ∙ append_assoc polygon (ring ∷ []) rings
    by joins begins false = ap (λ (list : List PlacedRing). polygon ++ list) begins

pub joined-polygons : (rings : List PlacedRing) → flat_map (λ list. list) (polygons_of rings) ≡ rings
joined-polygons [] = refl
joined-polygons (ring ∷ rings) = joined-from (ring ∷ []) rings

-- lists that are mapped one by one
pub map-joined : {X Y : Type 0} (f : X → Y) (lists : List (List X)) → flat_map (λ list. list) (map (λ list. map f list) lists) ≡ map f (flat_map (λ list. list) lists)
map-joined f [] = refl
map-joined f (list ∷ lists) = ap (λ rest. map f list ++ rest) (map-joined f lists) ∙ sym (map-append f list (flat_map (λ one. one) lists))

module _ (points : List Point) (order : List PlacedRing) where
  -- the rings of the polygons are those in order
  pub rings-are : rings_of (placed_polygons points order) ≡ map (ring_in points) order
  rings-are = map-joined (ring_in points) (polygons_of order) ∙ ap (λ (rings : List PlacedRing). map (ring_in points) rings) (joined-polygons order)

  abbrev appended : List (List (List Point))
  appended = map (λ polygon. map outline polygon) (placed_polygons points order)

  outlines-are : rings_of appended ≡ map outline (map (ring_in points) order)
  outlines-are = map-joined outline (placed_polygons points order) ∙ ap (λ (rings : List (List Point)). map outline rings) rings-are

  pub AreAppended-all : (old new : List Point) (ends_old ends_new polygons_old polygons_new : List ℕ) → new ≡ old ++ flat_map outline (map (ring_in points) order)
      → ends_new ≡ ends_old ++ offsets (length old) (map outline (map (ring_in points) order)) → polygons_new ≡ polygons_old ++ offsets (length ends_old) (polygons_of order)
      → AreAppended appended old new ends_old ends_new polygons_old polygons_new
  AreAppended-all old new ends_old ends_new polygons_old polygons_new points_are ends_are polygons_are = record {
    points_are = points_are ∙ ap (λ (list : List Point). old ++ list) (sym (flat_map-map (λ (list : List Point). list) outline (map (ring_in points) order)) ∙ ap (λ (rings : List (List Point)). flat_map (λ ring. ring) rings) (sym outlines-are));
    rings_are = ends_are ∙ ap (λ (rings : List (List Point)). ends_old ++ offsets (length old) rings) (sym outlines-are);
    polygons_are = polygons_are ∙ ap (λ (list : List ℕ). polygons_old ++ list)
        (sym (offsets-map outline (length ends_old) (placed_polygons points order) ∙ offsets-map (ring_in points) (length ends_old) (polygons_of order)));
  }

-- ---- that they are polygons

alone : (ring : List Point) → is_counterclockwise ring ≡ true → IsPolygon (ring ∷ [])
alone ring runs = record { outer = ring; holes = []; is = refl; outwards = runs; inwards = All-nil _ }

one-more : (rings : List (List Point)) (hole : List Point) → IsPolygon rings → is_counterclockwise hole ≡ false → IsPolygon (rings ++ hole ∷ [])
one-more rings hole is runs = record {
  outer = is.outer;
  holes = is.holes ++ hole ∷ [];
  is = ap (λ (list : List (List Point)). list ++ hole ∷ []) is.is;
  outwards = is.outwards;
  inwards = All-append (λ (ring : List Point). is_counterclockwise ring ≡ false) is.holes (hole ∷ []) is.inwards (All-cons (λ (ring : List Point). is_counterclockwise ring ≡ false) hole [] runs (All-nil _));
}

turned-round : (s t : Bool) → s ≡ not t → t ≡ not s
turned-round s true is = ap not (sym is)
turned-round s false is = ap not (sym is)

module _ (points : List Point) where
  abbrev Marked : PlacedRing → Type 0
  Marked ring = ring.is_hole ≡ not (is_counterclockwise (ring_in points ring))

  abbrev as_rings : List PlacedRing → List (List Point)
  as_rings rings = map (ring_in points) rings

  runs-as : (ring : PlacedRing) (hole : Bool) → Marked ring → ring.is_hole ≡ hole → is_counterclockwise (ring_in points ring) ≡ not hole
  runs-as ring hole marked is = turned-round ring.is_hole (is_counterclockwise (ring_in points ring)) marked ∙ ap not is

  are-from : (polygon rings : List PlacedRing) → IsPolygon (as_rings polygon) → All Marked rings → All IsPolygon (map (λ one. map (ring_in points) one) (polygons_from polygon rings))
  are-from polygon [] is marked = All-cons IsPolygon (as_rings polygon) [] is (All-nil IsPolygon)
  are-from polygon (ring ∷ rings) is marked =
      by ring.is_hole refl
      (λ runs. are-from (polygon ++ ring ∷ []) rings (subst IsPolygon (sym (map-append (ring_in points) polygon (ring ∷ []))) (one-more (as_rings polygon) (ring_in points ring) is runs)) (All-tail Marked ring rings marked))
      (λ runs. are-from (ring ∷ []) rings (alone (ring_in points ring) runs) (All-tail Marked ring rings marked))
    where
      by : (hole : Bool) → ring.is_hole ≡ hole
          → (is_counterclockwise (ring_in points ring) ≡ false → All IsPolygon (map (λ one. map (ring_in points) one) (polygons_from (polygon ++ ring ∷ []) rings)))
          → (is_counterclockwise (ring_in points ring) ≡ true → All IsPolygon (map (λ one. map (ring_in points) one) (polygons_from (ring ∷ []) rings)))
          → All IsPolygon (map (λ one. map (ring_in points) one) (cond hole (polygons_from (polygon ++ ring ∷ []) rings) (polygon ∷ polygons_from (ring ∷ []) rings)))
      by true e joins begins = joins (runs-as ring true (All-head Marked ring rings marked) e)
      by false e joins begins = All-cons IsPolygon (as_rings polygon) _ is (begins (runs-as ring false (All-head Marked ring rings marked) e))

  pub are-polygons : (order : List PlacedRing) → BeginOutside order → All (λ ring. ring.is_hole ≡ not (is_counterclockwise (ring_in points ring))) order → All IsPolygon (placed_polygons points order)
  are-polygons [] outside marked = All-nil IsPolygon
  are-polygons (ring ∷ rings) outside marked = are-from (ring ∷ []) rings (alone (ring_in points ring) (runs-as ring false (All-head Marked ring rings marked) outside)) (All-tail Marked ring rings marked)
