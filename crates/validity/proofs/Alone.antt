-- A polygon of one ring alone, which is simple: once the ring runs counterclockwise, it winds once around each point or not at all.
use Rattle.std.proofs.Common.{◌≡◌, ◌≢◌, ◌⊎◌, inl, inr, ℕ, ◌-◌, ◌<◌, ◌≤◌, Bool, true, false, cond, ℤ, pos, negsuc, ◌-ℤ◌, List, [], ◌∷◌, drop, get_or, length, map, reverse, refl, ap, sym, subst, ◌∙◌, append-nil, arith}
use Rattle.std.specs.List.{All, flat_map}
use Rattle.std.specs.Prelude.{int_lt}
use Rattle.std.proofs.lemmas.Int.{ints}
use Rattle.std.proofs.lemmas.List.{length-map, length-reverse}
use Rattle.std.proofs.lemmas.List.Edits.{length-between}
use Rattle.std.proofs.lemmas.List.Elements.{All-drop, All-head, All-take}
use Rattle.plane.specs.declared.edge.Edge.{Edge}
use Rattle.plane.specs.declared.point.Point.{Point}
use Rattle.plane.specs.Ends.{end_of, start_of}
use Rattle.plane.specs.Meet.Edges.{RationalPoint}
use Rattle.noding.specs.Windings.{winding}
use Rattle.overlay.specs.Areas.{twice_area}
use Rattle.overlay.specs.Contours.Rings.{ring_edges}
use Rattle.overlay.specs.Fill.Filled.{AreDistinct, AreNoded}
use Rattle.overlay.specs.Nesting.{PolygonWindsOnce}
use Rattle.overlay.specs.OnePiece.{TouchAlongNoCircle}
use Rattle.overlay.specs.Overlay.{polygon_edges}
use Rattle.overlay.specs.Polygons.{HasSignedArea, WindsOnce, is_counterclockwise}
use Rattle.overlay.specs.Rings.{AreEnds}
use Rattle.overlay.proofs.Callers.{area-directed, winds-directed}
use Rattle.tiles.specs.Join.{lists_of, start_at}
use Rattle.tiles.proofs.JoinLists.{AreEnds-at, lists_of-at}
use Rattle.validity.specs.Given.{corners_of, directed, turned}
use Rattle.validity.specs.Meeting.{AllMayMeet}
use Rattle.validity.specs.Validity.{IsSimple, WindOnce}
use Rattle.validity.proofs.Apart.{ring-distinct, ring-real}
use Rattle.validity.proofs.Backwards.{noded-backwards, once-backwards, winding-backwards}
use Rattle.validity.proofs.Corners.{corners-edges, corners-once, corners-ring, corners-three}
use Rattle.validity.proofs.Touching.{all-touch}

module _ (ring : List Point) (is : IsSimple ring) where
  abbrev corners : List Point
  corners = corners_of ring

  noded : AreNoded (ring_edges corners)
  noded = subst AreNoded (sym (corners-edges ring)) is.noded

  distinct : AreDistinct (ring_edges corners)
  distinct = ring-distinct corners (corners-three ring is) (corners-once ring is)

  real : All (λ edge. start_of edge ≢ end_of edge) (ring_edges corners)
  real = ring-real corners (corners-three ring is) (corners-once ring is)

  -- its corners wind once around each point or not at all, the way that they run
  pub corners-wind : WindsOnce corners
  corners-wind = winds-directed corners (corners-ring ring is) noded distinct real

  pub corners-signed : HasSignedArea corners
  corners-signed = area-directed corners (corners-ring ring is) noded distinct real

  -- so those that are directed wind to the left
  pub turned-once : (point : RationalPoint) → (winding (ring_edges (turned true ring)) point ≡ pos 0) ⊎ (winding (ring_edges (turned true ring)) point ≡ pos 1)
  turned-once point = by (is_counterclockwise corners) (int_lt (twice_area corners) (pos 0)) refl refl
    where
      some : 0 < length corners
      some = let enough = corners-three ring is in omega (arith, enough)

      back : (w z : ℤ) → z ≡ (pos 0 -ℤ w) → (w ≡ pos 0) ⊎ (w ≡ negsuc 0) → (z ≡ pos 0) ⊎ (z ≡ pos 1)
      back w z turns (inl none) = inl (omega (arith, ints, turns, none))
      back w z turns (inr once) = inr (omega (arith, ints, turns, once))

      by : (s t : Bool) → is_counterclockwise corners ≡ s → int_lt (twice_area corners) (pos 0) ≡ t
          → (winding (ring_edges (cond t (reverse corners) corners)) point ≡ pos 0) ⊎ (winding (ring_edges (cond t (reverse corners) corners)) point ≡ pos 1)
      by true false runs tests = (corners-wind point).0 runs
      by true true runs tests = absurd (let above = corners-signed.0 runs in omega (arith, ints, above, tests))
      by false true runs tests = back (winding (ring_edges corners) point) (winding (ring_edges (reverse corners)) point) (winding-backwards corners some point) ((corners-wind point).1 runs)
      by false false runs tests = absurd (let below = corners-signed.1 runs in omega (arith, ints, below, tests))

  pub ring-once : PolygonWindsOnce (directed (ring ∷ []))
  ring-once = subst (λ (edges : List Edge). (point : RationalPoint) → (winding edges point ≡ pos 0) ⊎ (winding edges point ≡ pos 1)) (sym (append-nil (ring_edges (turned true ring)))) turned-once

  -- and they touch wherever they meet
  pub ring-touches : AllMayMeet false (ring_edges (turned true ring))
  ring-touches = by (int_lt (twice_area corners) (pos 0))
    where
      some : 0 < length corners
      some = let enough = corners-three ring is in omega (arith, enough)

      enough-back : 3 ≤ length (reverse corners)
      enough-back = let enough = corners-three ring is in let same = length-reverse corners in omega (arith, enough, same)

      by : (t : Bool) → AllMayMeet false (ring_edges (cond t (reverse corners) corners))
      by false = all-touch (ring_edges corners) noded distinct
      by true = all-touch (ring_edges (reverse corners)) (noded-backwards corners some noded) (ring-distinct (reverse corners) enough-back (once-backwards corners (corners-once ring is)))

-- ---- one ring alone

-- The only item of a list.
pub only : {X : Type 0} {P : X → Type 0} (items : List X) → length items ≡ 1 → All P items → (item : X) × (items ≡ item ∷ []) × P item
only [] one all = absurd (omega (arith, one))
only {P} (item ∷ []) one all = (item, refl, All-head P item [] all)
only (item ∷ other ∷ items) one all = absurd (omega (arith, one))

-- A polygon of one ring winds once around each point or not at all.
pub alone-once : (polygon : List (List Point)) → length polygon ≡ 1 → All IsSimple polygon → PolygonWindsOnce (directed polygon)
alone-once polygon one all =
    let (ring, is, simple) = only {P = IsSimple} polygon one all in
    subst (λ (rings : List (List Point)). PolygonWindsOnce (directed rings)) (sym is) (ring-once ring simple)

-- its edges touch wherever they meet
pub alone-touches : (polygon : List (List Point)) → length polygon ≡ 1 → All IsSimple polygon → AllMayMeet false (flat_map ring_edges (directed polygon))
alone-touches polygon one all =
    let (ring, is, simple) = only {P = IsSimple} polygon one all in
    subst (λ (rings : List (List Point)). AllMayMeet false (flat_map ring_edges (directed rings))) (sym is)
    (subst (λ (edges : List Edge). AllMayMeet false edges) (sym (append-nil (ring_edges (turned true ring)))) (ring-touches ring simple))

-- and no other ring touches it
pub alone-free : (polygon : List (List Point)) → length polygon ≡ 1 → TouchAlongNoCircle (directed polygon)
alone-free polygon one place point touch = absurd (
    let within = touch.within in
    let other_within = touch.other_within in
    let apart = touch.apart in
    let size = length-directed polygon in
    omega (arith, one, size, within, other_within, apart))
  where
    length-directed : (rings : List (List Point)) → length (directed rings) ≡ length rings
    length-directed [] = refl
    length-directed (outer ∷ holes) = let same = length-map holes (turned false) in omega (arith, same)

-- ---- one polygon alone

-- all edges are those of the only polygon
one-polygon : (polygon : List (List Point)) → polygon_edges (map directed (polygon ∷ [])) ≡ flat_map ring_edges (directed polygon)
one-polygon polygon = ap (λ (rings : List (List Point)). flat_map ring_edges rings) (append-nil (directed polygon))

pub one-once : (polygons : List (List (List Point))) → length polygons ≡ 1 → All (λ polygon. PolygonWindsOnce (directed polygon)) polygons → WindOnce (polygon_edges (map directed polygons))
one-once polygons one all =
    let (polygon, is, once) = only {P = λ polygon. PolygonWindsOnce (directed polygon)} polygons one all in
    subst (λ (list : List (List (List Point))). WindOnce (polygon_edges (map directed list))) (sym is) (subst WindOnce (sym (one-polygon polygon)) once)

pub one-touches : (polygons : List (List (List Point))) → length polygons ≡ 1 → AllMayMeet false (flat_map ring_edges (directed (get_or polygons 0 []))) → AllMayMeet false (polygon_edges (map directed polygons))
one-touches [] one touch = absurd (omega (arith, one))
one-touches (polygon ∷ []) one touch = subst (λ (edges : List Edge). AllMayMeet false edges) (sym (one-polygon polygon)) touch
one-touches (polygon ∷ other ∷ polygons) one touch = absurd (omega (arith, one))

-- ---- the rings of a polygon

module _ (rings : List (List Point)) (ends : List ℕ) (k : ℕ) (within : k < length ends) where
  pub polygon-size : AreEnds 0 ends (length rings) → length (get_or (lists_of rings 0 ends) k []) ≡ get_or ends k 0 - start_at ends k
  polygon-size right =
      ap (λ (polygon : List (List Point)). length polygon) (lists_of-at rings 0 ends k within)
      ∙ length-between rings (start_at ends k) (get_or ends k 0) (AreEnds-at 0 ends (length rings) k right within).1

  pub polygon-simple : All IsSimple rings → All IsSimple (get_or (lists_of rings 0 ends) k [])
  polygon-simple simple =
      subst (All IsSimple) (sym (lists_of-at rings 0 ends k within))
      (All-take IsSimple (get_or ends k 0 - start_at ends k) (drop (start_at ends k) rings) (All-drop IsSimple (start_at ends k) rings simple))
