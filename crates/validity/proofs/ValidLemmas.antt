-- The polygons of an overlay are valid.
use Rattle.std.proofs.Common.{◌≡◌, ◌≢◌, ◌<◌, ◌≤◌, ◌++◌, zero, suc, ℕ, false, List, [], ◌∷◌, get_or, length, map, refl, ap, sym, subst, ◌∙◌, arith}
use Rattle.std.specs.List.{All, AllPairs, Contains, flat_map}
use Rattle.std.proofs.lemmas.List.{get_or_default}
use Rattle.std.proofs.lemmas.List.Elements.{All-contains, All-head, All-tail, Contains-get_or}
use Rattle.std.proofs.lemmas.Option.{get_or_from_slice_get, slice_get_within}
use Rattle.i_tree.proofs.RootLemmas.Joined.{AllPairs-append, AllPairs-behind, AllPairs-front}
use Rattle.plane.specs.declared.edge.Edge.{Edge}
use Rattle.plane.specs.declared.meet.kinds.Meeting.TheVariants.{Touch}
use Rattle.plane.specs.declared.point.Point.{Point}
use Rattle.plane.specs.Ends.{start_of}
use Rattle.plane.specs.Meet.Edges.{Meet}
use Rattle.plane.specs.Meet.Kinds.{MeetSo}
use Rattle.plane.specs.Pairs.Pairs.{PairAt}
use Rattle.plane.proofs.PairsLemmas.Bags.{Contains-from_map, Contains-map}
use Rattle.overlay.specs.Contours.Outlines.{outline}
use Rattle.overlay.specs.Contours.Rings.{IsRing, real_edges, ring_edges}
use Rattle.overlay.specs.Fill.Filled.{AreDistinct, AreNoded, HaveSameEnds}
use Rattle.overlay.specs.Nesting.{PolygonWindsOnce}
use Rattle.overlay.specs.OnePiece.{TouchAlongNoCircle}
use Rattle.overlay.specs.Overlay.{IsOverlay, polygon_edges}
use Rattle.overlay.specs.Polygons.{IsPolygon, is_counterclockwise, rings_of}
use Rattle.overlay.specs.Sides.{AreBorders}
use Rattle.overlay.specs.declared.fill.rules.FillRule.{FillRule}
use Rattle.overlay.specs.declared.fill.rules.Operation.{Operation}
use Rattle.overlay.proofs.ContourLemmas.Bends.{winding-outlines}
use Rattle.overlay.proofs.FillLemmas.Premises.{All-among}
use Rattle.overlay.proofs.GroupingLemmas.Bags.{Contains-flat_map, Contains-in_flat_map}
use Rattle.overlay.proofs.GroupingLemmas.Grouped.{map-joined}
use Rattle.overlay.proofs.GroupingLemmas.Outlined.{outlines-run}
use Rattle.overlay.proofs.OverlayLemmas.{bounds-borders}
use Rattle.overlay.proofs.TouchLemmas.AllTouch.{all-touch}
use Rattle.overlay.proofs.TouchLemmas.OwnNoded.{outline-noded}
use Rattle.overlay.proofs.WindsLemmas.Paired.{IsOneOrNone}
use Rattle.validity.specs.Meeting.{AllMayMeet}
use Rattle.validity.specs.Validity.{IsValid}
use Rattle.validity.proofs.AnswerLemmas.{real-once, real-ring, valid-but}

-- ---- pairs of items of joined lists

-- Items of joined lists stand in a relation, each to all behind it, where those of each list do, and those of a list to those of
-- another one behind it.
pairs-joined : {X Y : Type 0} (R : Y → Y → Type 0) (f : X → List Y) (xs : List X) (d : X) → ((k : ℕ) → k < length xs → AllPairs R (f (get_or xs k d)))
    → ((k l : ℕ) → k < l → l < length xs → (a b : Y) → Contains (f (get_or xs k d)) a → Contains (f (get_or xs l d)) b → R a b) → AllPairs R (flat_map f xs)
pairs-joined R f [] d each across = λ i j e rising within. absurd (omega (arith, within))
pairs-joined {X = X} {Y = Y} R f (x ∷ xs) d each across =
    AllPairs-append R (f x) (flat_map f xs) (each 0 (omega arith))
    (pairs-joined R f xs d (λ k within. each (suc k) (omega (arith, within))) (λ k l rising within a b held held_too. across (suc k) (suc l) (omega (arith, rising)) (omega (arith, within)) a b held held_too))
    (All-among (λ a. All (R a) (flat_map f xs)) (f x) (λ a held. All-among (R a) (flat_map f xs) (λ b held_too. behind a held b held_too)))
  where
    behind : (a : Y) → Contains (f x) a → (b : Y) → Contains (flat_map f xs) b → R a b
    behind a held b held_too =
        let (list, (k, within, is), on) = Contains-flat_map f xs b held_too in
        across 0 (suc k) (omega arith) (omega (arith, within)) a b held (subst (λ (y : X). Contains (f y) b) (sym (sym (get_or_default xs k list d within) ∙ is)) on)

-- two at two places of a list do
pair-at : {X : Type 0} (R M : X → X → Type 0) (xs : List X) → AllPairs R xs → (i j : ℕ) → (pair : PairAt M xs i j) → R pair.one pair.other
pair-at {X = X} R M xs pairs i j pair =
    subst (λ (x : X). R pair.one x) (get_or_from_slice_get xs j pair.other pair.one pair.second)
    (subst (λ (x : X). R x (get_or xs j pair.one)) (get_or_from_slice_get xs i pair.one pair.one pair.first) (pairs i j pair.one pair.rising (slice_get_within xs j pair.other pair.second)))

-- ---- outlines

-- the rings of a polygon run as their outlines do, so they make up a polygon where those do
from-outlines : (polygon : List (List Point)) → All (λ ring. is_counterclockwise (outline ring) ≡ is_counterclockwise ring) polygon → IsPolygon (map outline polygon) → IsPolygon polygon
from-outlines [] runs is = absurd (never is.is)
  where
    never : {X : Type 0} {x : X} {xs : List X} → [] ≡ x ∷ xs → ⊥
    never h = cc
from-outlines (first ∷ others) runs is =
    let same = cons-same (outline first) is.outer (map outline others) is.holes is.is in record {
      outer = first;
      holes = others;
      is = refl;
      outwards = sym (All-head (λ ring. is_counterclockwise (outline ring) ≡ is_counterclockwise ring) first others runs) ∙ ap is_counterclockwise same.0 ∙ is.outwards;
      inwards = All-among (λ ring. is_counterclockwise ring ≡ false) others (λ ring held.
          sym (All-contains (λ r. is_counterclockwise (outline r) ≡ is_counterclockwise r) others ring (All-tail (λ r. is_counterclockwise (outline r) ≡ is_counterclockwise r) first others runs) held)
          ∙ All-contains (λ hole. is_counterclockwise hole ≡ false) is.holes (outline ring) is.inwards (subst (λ (list : List (List Point)). Contains list (outline ring)) same.1 (Contains-map outline others ring held)));
    }
  where
    cons-same : {X : Type 0} (x y : X) (xs ys : List X) → (x ∷ xs) ≡ (y ∷ ys) → (x ≡ y) × (xs ≡ ys)
    cons-same x y xs ys same = (cc, cc)

module _ (rule : FillRule) (operation : Operation) (subject clip : List Edge) (polygons : List (List (List Point))) (is : IsOverlay rule operation subject clip polygons) where
  abbrev whole : List (List (List Point))
  whole = is.whole

  abbrev rings : List (List Point)
  rings = rings_of whole

  rings-are : rings_of polygons ≡ map outline rings
  rings-are = ap (λ (list : List (List (List Point))). rings_of list) is.outlined ∙ map-joined outline whole

  borders : AreBorders (polygon_edges whole)
  borders = bounds-borders rule operation (real_edges subject) (real_edges clip) (polygon_edges whole) is.bounds.bounds

  runs : All (λ ring. is_counterclockwise (outline ring) ≡ is_counterclockwise ring) rings
  runs = outlines-run rings borders.noded borders.distinct

  among : (polygon : List (List Point)) → Contains whole polygon → Contains polygons (map outline polygon)
  among polygon inside = subst (λ (list : List (List (List Point))). Contains list (map outline polygon)) (sym is.outlined) (Contains-map (λ p. map outline p) whole polygon inside)

  are : All IsPolygon whole
  are = All-among IsPolygon whole (λ polygon inside.
      from-outlines polygon
      (All-among (λ ring. is_counterclockwise (outline ring) ≡ is_counterclockwise ring) polygon (λ ring held.
      All-contains (λ r. is_counterclockwise (outline r) ≡ is_counterclockwise r) rings ring runs (Contains-in_flat_map (λ (p : List (List Point)). p) whole polygon ring inside held)))
      (All-contains IsPolygon polygons (map outline polygon) is.directed (among polygon inside)))

  once : All PolygonWindsOnce whole
  once = All-among PolygonWindsOnce whole (λ polygon inside point.
      subst IsOneOrNone (winding-outlines polygon point) (All-contains PolygonWindsOnce polygons (map outline polygon) is.each_once (among polygon inside) point))

  free : All TouchAlongNoCircle (map (λ polygon. map outline polygon) whole)
  free = subst (λ (list : List (List (List Point))). All TouchAlongNoCircle list) is.outlined is.one_piece

  -- each ring's outline is one of the rings given, with three points or more
  outline-in : (ring : List Point) → Contains rings ring → Contains (rings_of polygons) (outline ring)
  outline-in ring held = subst (λ (list : List (List Point)). Contains list (outline ring)) (sym rings-are) (Contains-map outline rings ring held)

  ring-is : (ring : List Point) → Contains (rings_of polygons) ring → IsRing ring × (2 ≤ length ring)
  ring-is ring held =
      let three = All-contains (λ (r : List Point). 3 ≤ length r) (rings_of polygons) ring is.three_points held in
      (All-contains IsRing (rings_of polygons) ring is.each held, omega (arith, three))

  real : (ring : List Point) → Contains rings ring → real_edges (ring_edges (outline ring)) ≡ ring_edges (outline ring)
  real ring held = let (ring_is, two) = ring-is (outline ring) (outline-in ring held) in real-ring (outline ring) ring_is two

  -- ---- how edges meet

  -- two edges touch in one point, an end of one of them, if they meet
  abbrev TouchOnly : Edge → Edge → Type 0
  TouchOnly one other = Meet one other → MeetSo one other Touch

  touching : (i j : ℕ) → i < length rings → j < length rings → (one other : Edge) → Contains (ring_edges (outline (get_or rings i []))) one → Contains (ring_edges (outline (get_or rings j []))) other → (i ≡ j → one ≢ other) → TouchOnly one other
  touching i j within within_too one other held held_too apart = all-touch whole is.bounds.each borders are once free real i j within within_too one other held held_too apart

  outlines-touch : AllPairs TouchOnly (flat_map (λ ring. ring_edges (outline ring)) rings)
  outlines-touch =
      pairs-joined TouchOnly (λ ring. ring_edges (outline ring)) rings []
      (λ k within. own k within)
      (λ k l rising within a b held held_too. touching k l (omega (arith, rising, within)) within a b held held_too (λ same. absurd (omega (arith, rising, same))))
    where
      own : (k : ℕ) → k < length rings → AllPairs TouchOnly (ring_edges (outline (get_or rings k [])))
      own k within i j d rising inside =
          let ring = get_or rings k [] in
          let held = Contains-get_or rings k [] within in
          let (ring_is, two) = ring-is (outline ring) (outline-in ring held) in
          let starts = subst (λ (list : List Edge). AllPairs (λ one later. start_of one ≢ start_of later) list) (real ring held) (real-once (outline ring) ring_is two) in
          touching k k within within (get_or (ring_edges (outline ring)) i d) (get_or (ring_edges (outline ring)) j d) (Contains-get_or (ring_edges (outline ring)) i d (omega (arith, rising, inside))) (Contains-get_or (ring_edges (outline ring)) j d inside)
          (λ same_ring same. starts i j d rising inside (ap start_of same))

  edges-are : polygon_edges polygons ≡ flat_map (λ ring. ring_edges (outline ring)) rings
  edges-are = ap (λ (list : List (List Point)). flat_map ring_edges list) rings-are ∙ of-map rings
    where
      of-map : (some : List (List Point)) → flat_map ring_edges (map outline some) ≡ flat_map (λ ring. ring_edges (outline ring)) some
      of-map [] = refl
      of-map (ring ∷ some) = ap (λ (list : List Edge). ring_edges (outline ring) ++ list) (of-map some)

  may-meet : AllMayMeet false (polygon_edges polygons)
  may-meet i j pair = record {
    one = pair.one;
    other = pair.other;
    rising = pair.rising;
    first = pair.first;
    second = pair.second;
    meet = pair-at TouchOnly Meet (polygon_edges polygons) (subst (AllPairs TouchOnly) (sym edges-are) outlines-touch) i j pair pair.meet;
  }

  -- each ring's edges meet only at common ends
  each-noded : All (λ ring. AreNoded (real_edges (ring_edges ring))) (rings_of polygons)
  each-noded = subst (All (λ ring. AreNoded (real_edges (ring_edges ring)))) (sym rings-are) (All-among (λ ring. AreNoded (real_edges (ring_edges ring))) (map outline rings) (λ kept held.
      (let (ring, of, same) = Contains-from_map outline rings kept held in
      subst (λ (r : List Point). AreNoded (real_edges (ring_edges r))) same
      (subst AreNoded (sym (real ring of))
      (outline-noded ring (All-contains IsRing rings ring is.bounds.each of)
      (λ one other point first second. borders.noded one other point (Contains-in_flat_map ring_edges rings ring one of first) (Contains-in_flat_map ring_edges rings ring other of second))
      (ring-distinct rings borders.distinct ring of))))))
    where
      ring-distinct : (some : List (List Point)) → AreDistinct (flat_map ring_edges some) → (ring : List Point) → Contains some ring → AreDistinct (ring_edges ring)
      ring-distinct [] distinct ring (k, within, same) = absurd (omega (arith, within))
      ring-distinct (first ∷ others) distinct ring (zero, within, same) = subst (λ (r : List Point). AreDistinct (ring_edges r)) same (AllPairs-front (λ one other. ¬ (HaveSameEnds one other)) (ring_edges first) (flat_map ring_edges others) distinct)
      ring-distinct (first ∷ others) distinct ring (suc k, within, same) = ring-distinct others (AllPairs-behind (λ one other. ¬ (HaveSameEnds one other)) (ring_edges first) (flat_map ring_edges others) distinct) ring (k, omega (arith, within), same)

  -- So the polygons of an overlay are valid.
  pub valid : IsValid (rings_of polygons) polygons
  valid = valid-but rule operation subject clip polygons is each-noded may-meet
