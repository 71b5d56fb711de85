-- No two rings of polygons go straight on in one point, where the rings of each polygon come free of each other: so they touch, and
-- don't cross.
use Rattle.std.proofs.Common.{◌≡◌, ◌≢◌, ◌⊎◌, ◌++◌, ◌+◌, ◌<◌, inl, inr, suc, ℕ, pos, Bool, true, false, List, [], ◌∷◌, get_or, length, map, refl, ap, sym, subst, ◌∙◌, arith}
use Rattle.std.specs.List.{All, Contains, flat_map}
use Rattle.std.proofs.lemmas.List.{get_or-map, length-map, map-append}
use Rattle.std.proofs.lemmas.List.Concat.{flat_map-append}
use Rattle.std.proofs.lemmas.List.Elements.{All-contains, Contains-get_or}
use Rattle.plane.specs.declared.edge.Edge.{Edge}
use Rattle.plane.specs.declared.point.Point.{Point}
use Rattle.plane.specs.Ends.{end_of, start_of}
use Rattle.plane.specs.Meet.Edges.{RationalPoint}
use Rattle.plane.proofs.PairsLemmas.Bags.{Contains-from_map, Contains-map}
use Rattle.noding.specs.Windings.{winding}
use Rattle.overlay.specs.Contours.Outlines.{IsStraight}
use Rattle.overlay.specs.Contours.Rings.{IsRing, ring_edges}
use Rattle.overlay.specs.Fill.Filled.{AreDistinct, AreNoded}
use Rattle.overlay.specs.Nesting.{PolygonWindsOnce}
use Rattle.overlay.specs.Overlay.{polygon_edges}
use Rattle.overlay.specs.Polygons.{IsPolygon, is_counterclockwise, rings_of}
use Rattle.overlay.specs.Sides.{AreBorders, IsLow, left_of, sheared, sheared_edge}
use Rattle.overlay.proofs.AreaLemmas.Around.{one-ends}
use Rattle.overlay.proofs.AreaLemmas.Sheared.{AreDistinct-sheared, AreNoded-sheared, edge-same, sheared-same}
use Rattle.overlay.proofs.AreaLemmas.Slanted.{slanted-sloped}
use Rattle.overlay.proofs.AreaLemmas.Touching.{Touches}
use Rattle.overlay.proofs.AreaLemmas.Wide.{all-low}
use Rattle.overlay.proofs.ContourLemmas.Callers.{IsClosed-ring}
use Rattle.overlay.proofs.ContourLemmas.Counts.{rings-closed}
use Rattle.overlay.proofs.FillLemmas.Balance.{AreBalanced, balanced}
use Rattle.overlay.proofs.FillLemmas.Premises.{All-among}
use Rattle.overlay.proofs.GroupingLemmas.Bags.{Contains-flat_map, Contains-in_flat_map}
use Rattle.overlay.proofs.TouchLemmas.AtPoint.{straight-apart}
use Rattle.overlay.proofs.TouchLemmas.Beside.{others-none, ring-alike}
use Rattle.overlay.proofs.TouchLemmas.Stays.{Passes, stays}
use Rattle.overlay.proofs.TouchLemmas.Straight.{straight-sheared}
use Rattle.overlay.proofs.TouchLemmas.Outlined.{PassesStraight}
use Rattle.overlay.proofs.TouchLemmas.Shared.{one-starts}
use Rattle.overlay.proofs.WindsLemmas.Leaning.{sheared-once}
use Rattle.overlay.proofs.WindsLemmas.Moved.{IsClosed-sheared}
use Rattle.overlay.proofs.WindsLemmas.Paired.{IsOneOrNone}
use Rattle.overlay.proofs.WindsLemmas.NextInRing.{one-ring}
use Rattle.overlay.proofs.WindsLemmas.Whole.{by-rings, holes-left, outer-left, own-distinct, all as whole_all, are as whole_are, distinct as whole_distinct, noded as whole_noded, once as whole_once, sloped as whole_sloped}

-- the edges of polygons, each moved, polygon by polygon
by-polygons : (f : Edge → Edge) (polygons : List (List (List Point))) → map f (polygon_edges polygons) ≡ flat_map (λ (list : List Edge). list) (map (λ polygon. map f (flat_map ring_edges polygon)) polygons)
by-polygons f [] = refl
by-polygons f (polygon ∷ polygons) =
    ap (map f) (flat_map-append ring_edges polygon (rings_of polygons))
    ∙ map-append f (flat_map ring_edges polygon) (polygon_edges polygons)
    ∙ ap (λ (list : List Edge). map f (flat_map ring_edges polygon) ++ list) (by-polygons f polygons)

module _ (polygons : List (List (List Point))) (are_rings : All IsRing (rings_of polygons)) (borders : AreBorders (polygon_edges polygons)) (are : All IsPolygon polygons) (once : All PolygonWindsOnce polygons) where
  abbrev edges : List Edge
  edges = polygon_edges polygons

  -- they reach at most so far up and down
  abbrev pub b : ℕ
  b = let is = all-low edges in is.0

  low : All (IsLow b) edges
  low = let is = all-low edges in is.1

  -- they are sheared by so much
  abbrev pub n : ℕ
  n = suc (b + b)

  wide : b + b < n
  wide = omega arith

  some : 0 < n
  some = omega arith

  abbrev slant : Edge → Edge
  slant edge = sheared_edge n edge

  abbrev pub all : List Edge
  all = map (sheared_edge n) edges

  noded : AreNoded all
  noded = AreNoded-sheared n some edges borders.noded

  distinct : AreDistinct all
  distinct = AreDistinct-sheared n some edges borders.distinct

  sloped : All (λ edge. edge.x0 ≢ edge.x1) all
  sloped = All-among (λ (edge : Edge). edge.x0 ≢ edge.x1) all (slanted-sloped edges borders.two_ends n b wide low)

  -- ---- one polygon

  module _ (polygon : List (List Point)) (inside : Contains polygons polygon) where
    abbrev mine : List Edge
    mine = flat_map ring_edges polygon

    abbrev pub lists : List (List Edge)
    lists = map (λ ring. map (sheared_edge n) (ring_edges ring)) polygon

    among : (edge : Edge) → Contains mine edge → Contains edges edge
    among edge held =
        let (ring, of, on) = Contains-flat_map ring_edges polygon edge held in
        Contains-in_flat_map ring_edges (rings_of polygons) ring edge (Contains-in_flat_map (λ (p : List (List Point)). p) polygons polygon ring inside of) on

    -- its own edges are borders, too
    pub own : AreBorders mine
    own = record {
      noded = λ one other point first second. borders.noded one other point (among one first) (among other second);
      distinct = own-distinct polygons borders.distinct polygon inside;
      two_ends = All-among (λ (edge : Edge). start_of edge ≢ end_of edge) mine (λ edge held. All-contains (λ (e : Edge). start_of e ≢ end_of e) edges edge borders.two_ends (among edge held));
      once = All-contains PolygonWindsOnce polygons polygon once inside;
    }

    own-low : All (IsLow b) mine
    own-low = All-among (IsLow b) mine (λ edge held. All-contains (IsLow b) edges edge low (among edge held))

    own-once : (point : RationalPoint) → IsOneOrNone (winding (map (sheared_edge n) mine) point)
    own-once point = sheared-once mine own (λ test. rings-closed test polygon) n b wide own-low point

    pub own-ring : (ring : List Point) → Contains polygon ring → IsRing ring
    own-ring ring of = All-contains IsRing (rings_of polygons) ring are_rings (Contains-in_flat_map (λ (p : List (List Point)). p) polygons polygon ring inside of)

    in-mine : (ring : List Point) → Contains polygon ring → (edge : Edge) → Contains (ring_edges ring) edge → Contains mine edge
    in-mine ring of edge held = Contains-in_flat_map ring_edges polygon ring edge of held

    is-joined : flat_map (λ (list : List Edge). list) lists ≡ map (sheared_edge n) mine
    is-joined = sym (by-rings (sheared_edge n) polygon)

    even : (list : List Edge) → Contains lists list → AreBalanced list
    even list held =
        let (ring, of, is) = Contains-from_map (λ ring. map (sheared_edge n) (ring_edges ring)) polygon list held in
        subst AreBalanced is (balanced (map (sheared_edge n) (ring_edges ring)) (IsClosed-sheared n (ring_edges ring) (IsClosed-ring ring)))

    into : (list : List Edge) → Contains lists list → (edge : Edge) → Contains list edge → Contains all edge
    into list held edge on =
        let (ring, of, is) = Contains-from_map (λ ring. map (sheared_edge n) (ring_edges ring)) polygon list held in
        let (e, e_held, e_is) = Contains-from_map (sheared_edge n) (ring_edges ring) edge (subst (λ (l : List Edge). Contains l edge) (sym is) on) in
        subst (Contains all) e_is (Contains-map (sheared_edge n) edges e (among e (in-mine ring of e e_held)))

    slanted-all : (ring : List Point) → Contains polygon ring → (edge : Edge) → Contains (ring_edges ring) edge → Contains all (sheared_edge n edge)
    slanted-all ring of edge held = Contains-map (sheared_edge n) edges edge (among edge (in-mine ring of edge held))

  -- ---- where two rings go straight on

  -- a ring of a polygon that goes straight on at a point doesn't wind alike on both sides of it, on the left of edges that go
  -- straight on
  module _ (polygon : List (List Point)) (inside : Contains polygons polygon) (ring : List Point) (of : Contains polygon ring) (a b c d : Edge) (held_a : Contains (ring_edges ring) a) (held_b : Contains (ring_edges ring) b)
      (among_c : Contains edges c) (among_d : Contains edges d) (off_c : ¬ (Contains (ring_edges ring) c)) (off_d : ¬ (Contains (ring_edges ring) d)) (at : Point) (ends : end_of a ≡ at) (starts : start_of b ≡ at) (ends_too : end_of c ≡ at) (starts_too : start_of d ≡ at)
      (straight : IsStraight (start_of a) at (end_of b)) (straight_too : IsStraight (start_of c) at (end_of d)) where
    abbrev slanted : List Edge
    slanted = map (sheared_edge n) (ring_edges ring)

    from-slanted : (edge : Edge) → Contains slanted (sheared_edge n edge) → Contains (ring_edges ring) edge
    from-slanted edge held =
        let (e, e_held, is) = Contains-from_map (sheared_edge n) (ring_edges ring) (sheared_edge n edge) held in
        subst (Contains (ring_edges ring)) (edge-same n some e edge is) e_held

    -- those two alone have the point as an end
    only : (edge : Edge) → Contains slanted edge → Touches (sheared n at) edge → (edge ≡ sheared_edge n a) ⊎ (edge ≡ sheared_edge n b)
    only edge held touches =
        let (e, e_held, is) = Contains-from_map (sheared_edge n) (ring_edges ring) edge held in
        by e e_held is (subst (λ (g : Edge). Touches (sheared n at) g) (sym is) touches)
      where
        by : (e : Edge) → Contains (ring_edges ring) e → sheared_edge n e ≡ edge → Touches (sheared n at) (sheared_edge n e) → (edge ≡ sheared_edge n a) ⊎ (edge ≡ sheared_edge n b)
        by e e_held is (inl start) = inr (sym is ∙ ap (sheared_edge n) (one-starts ring (own-ring polygon inside ring of) e b e_held held_b (sheared-same n some (start_of e) at start ∙ sym starts)))
        by e e_held is (inr end) = inl (sym is ∙ ap (sheared_edge n) (one-ends ring (own-ring polygon inside ring of) e a e_held held_a (sheared-same n some (end_of e) at end ∙ sym ends)))

    pub winds-apart : left_of (map (sheared_edge n) (ring_edges ring)) (sheared_edge n c) ≡ left_of (map (sheared_edge n) (ring_edges ring)) (sheared_edge n d) → ⊥
    winds-apart same =
        straight-apart all noded distinct sloped slanted (balanced slanted (IsClosed-sheared n (ring_edges ring) (IsClosed-ring ring)))
        (λ edge held. into polygon inside slanted (Contains-map (λ r. map (sheared_edge n) (ring_edges r)) polygon ring of) edge held)
        (sheared n at) (sheared_edge n a) (sheared_edge n b) (sheared_edge n c) (sheared_edge n d)
        (Contains-map (sheared_edge n) (ring_edges ring) a held_a) (Contains-map (sheared_edge n) (ring_edges ring) b held_b) (ap (sheared n) ends) (ap (sheared n) starts) only
        (straight-sheared n some (start_of a) at (end_of b) straight)
        (Contains-map (sheared_edge n) edges c among_c) (Contains-map (sheared_edge n) edges d among_d) (λ on. off_c (from-slanted c on)) (λ on. off_d (from-slanted d on)) (ap (sheared n) ends_too) (ap (sheared n) starts_too)
        (straight-sheared n some (start_of c) at (end_of d) straight_too) same

  -- ---- two rings of one polygon

  -- Two rings of one polygon never both go straight on in one point.
  module _ (polygon : List (List Point)) (inside : Contains polygons polygon) where
    own-alike : (outer : List Point) (holes : List (List Point)) → polygon ≡ outer ∷ holes → is_counterclockwise outer ≡ true → All (λ hole. is_counterclockwise hole ≡ false) holes → (ring : List Point) → Contains polygon ring
        → (one other : Edge) → Contains (mine polygon inside) one → Contains (mine polygon inside) other → left_of (map (sheared_edge n) (ring_edges ring)) (sheared_edge n one) ≡ left_of (map (sheared_edge n) (ring_edges ring)) (sheared_edge n other)
    own-alike outer holes shape outwards inwards ring of one other held held_too =
        let rings = outer ∷ holes in
        let given : All IsRing rings = subst (All IsRing) shape (All-among IsRing polygon (own-ring polygon inside)) in
        let bound : AreBorders (flat_map ring_edges rings) = subst (λ (p : List (List Point)). AreBorders (flat_map ring_edges p)) shape (own polygon inside) in
        let level : All (IsLow b) (flat_map ring_edges rings) = subst (λ (p : List (List Point)). All (IsLow b) (flat_map ring_edges p)) shape (own-low polygon inside) in
        let of_rings = subst (λ (p : List (List Point)). Contains p ring) shape of in
        let slanted_in : (edge : Edge) → Contains (mine polygon inside) edge → Contains (whole_all outer holes outwards inwards given bound n b wide level) (sheared_edge n edge) = λ edge on.
        subst (λ (list : List Edge). Contains list (sheared_edge n edge)) (whole_are outer holes outwards inwards given bound n b wide level)
        (Contains-map (sheared_edge n) (flat_map ring_edges rings) edge (subst (λ (p : List (List Point)). Contains (flat_map ring_edges p) edge) shape on)) in
        ring-alike (map (sheared_edge n) (ring_edges outer)) (map (λ r. map (sheared_edge n) (ring_edges r)) holes) (whole_noded outer holes outwards inwards given bound n b wide level) (whole_distinct outer holes outwards inwards given bound n b wide level)
        (whole_sloped outer holes outwards inwards given bound n b wide level) (whole_once outer holes outwards inwards given bound n b wide level) (outer-left outer holes outwards inwards given bound n b wide level) (holes-left outer holes outwards inwards given bound n b wide level)
        (map (sheared_edge n) (ring_edges ring)) (Contains-map (λ r. map (sheared_edge n) (ring_edges r)) rings ring of_rings) (sheared_edge n one) (sheared_edge n other) (slanted_in one held) (slanted_in other held_too)

    pub own-pass : (ring other_ring : List Point) → Contains polygon ring → Contains polygon other_ring → (at : Point) → ((edge : Edge) → Contains (ring_edges other_ring) edge → ¬ (Contains (ring_edges ring) edge))
        → PassesStraight (ring_edges ring) at → PassesStraight (ring_edges other_ring) at → ⊥
    own-pass ring other_ring of of_too at off (a, b, held_a, held_b, ends, starts, straight) (c, d, held_c, held_d, ends_too, starts_too, straight_too) =
        let is = All-contains IsPolygon polygons polygon are inside in
        let mine_c = in-mine polygon inside other_ring of_too c held_c in
        let mine_d = in-mine polygon inside other_ring of_too d held_d in
        winds-apart polygon inside ring of a b c d held_a held_b (among polygon inside c mine_c) (among polygon inside d mine_d) (off c held_c) (off d held_d) at ends starts ends_too starts_too straight straight_too
        (own-alike is.outer is.holes is.is is.outwards is.inwards ring of c d mine_c mine_d)

  -- ---- rings of two polygons

  abbrev each_list : List (List Point) → List Edge
  each_list polygon = map (sheared_edge n) (flat_map ring_edges polygon)

  abbrev all_lists : List (List Edge)
  all_lists = map (λ polygon. map (sheared_edge n) (flat_map ring_edges polygon)) polygons

  lists-are : all ≡ flat_map (λ (list : List Edge). list) all_lists
  lists-are = by-polygons (sheared_edge n) polygons

  lists-distinct : AreDistinct (flat_map (λ (list : List Edge). list) all_lists)
  lists-distinct = subst AreDistinct lists-are distinct

  list-of : (polygon : List (List Point)) → Contains polygons polygon → Contains all_lists (each_list polygon)
  list-of polygon inside = Contains-map (λ p. map (sheared_edge n) (flat_map ring_edges p)) polygons polygon inside

  from-list : (polygon : List (List Point)) → (edge : Edge) → Contains (each_list polygon) (sheared_edge n edge) → Contains (flat_map ring_edges polygon) edge
  from-list polygon edge held =
      let (e, e_held, is) = Contains-from_map (sheared_edge n) (flat_map ring_edges polygon) (sheared_edge n edge) held in
      subst (Contains (flat_map ring_edges polygon)) (edge-same n some e edge is) e_held

  -- all together wind once around a point or not at all, and so does each list
  all-once : (point : RationalPoint) → IsOneOrNone (winding all point)
  all-once point = sheared-once edges borders (λ test. rings-closed test (rings_of polygons)) n b wide low point

  each-once : All (λ list. (point : RationalPoint) → IsOneOrNone (winding list point)) all_lists
  each-once = All-among (λ list. (point : RationalPoint) → IsOneOrNone (winding list point)) all_lists (λ list held.
      (let (polygon, inside, is) = Contains-from_map (λ p. map (sheared_edge n) (flat_map ring_edges p)) polygons list held in
      subst (λ (l : List Edge). (point : RationalPoint) → IsOneOrNone (winding l point)) is (own-once polygon inside)))

  module _ (polygon : List (List Point)) (inside : Contains polygons polygon) (other : List (List Point)) (inside_too : Contains polygons other) (other_ring : List Point) (of_too : Contains other other_ring) where
    in-list : (edge : Edge) → Contains (ring_edges other_ring) edge → Contains (each_list other) (sheared_edge n edge)
    in-list edge held = Contains-map (sheared_edge n) (flat_map ring_edges other) edge (in-mine other inside_too other_ring of_too edge held)

    -- where one edge of the ring is none of the polygon's, no edge of it is
    beside-off : (c : Edge) → Contains (ring_edges other_ring) c → ¬ (Contains (flat_map ring_edges polygon) c) → (edge : Edge) → Contains (ring_edges other_ring) edge → ¬ (Contains (flat_map ring_edges polygon) edge)
    beside-off c held off edge held_too on =
        let same = one-ring all_lists lists-distinct (each_list other) (each_list polygon) (list-of other inside_too) (list-of polygon inside) (sheared_edge n edge) (in-list edge held_too) (Contains-map (sheared_edge n) (flat_map ring_edges polygon) edge on) in
        off (from-list polygon c (subst (λ (list : List Edge). Contains list (sheared_edge n c)) same (in-list c held)))

    -- and the polygon's rings together don't wind on its left
    winds-none : (edge : Edge) → Contains (ring_edges other_ring) edge → ¬ (Contains (flat_map ring_edges polygon) edge) → left_of (flat_map (λ list. list) (lists polygon inside)) (sheared_edge n edge) ≡ pos 0
    winds-none edge held off =
        ap (λ (list : List Edge). left_of list (sheared_edge n edge)) (is-joined polygon inside)
        ∙ others-none all_lists (subst AreNoded lists-are noded) lists-distinct (subst (λ (list : List Edge). All (λ e. e.x0 ≢ e.x1) list) lists-are sloped)
        (λ point. subst (λ (list : List Edge). IsOneOrNone (winding list point)) lists-are (all-once point)) each-once
        (each_list other) (each_list polygon) (list-of other inside_too) (list-of polygon inside) (sheared_edge n edge) (in-list edge held) (λ on. off (from-list polygon edge on))

  -- A ring of a polygon that comes free of its others at a point, and a ring beside the polygon, never both go straight on there.
  module _ (polygon : List (List Point)) (inside : Contains polygons polygon) (place : ℕ) (within : place < length polygon) (other : List (List Point)) (inside_too : Contains polygons other) (other_ring : List Point) (of_too : Contains other other_ring) (at : Point) where
    pub others-pass : (side : ℕ → Bool)
        → ((j k : ℕ) (point : Point) → Passes n (lists polygon inside) j point → Passes n (lists polygon inside) k point → point ≢ at → side j ≡ side k)
        → ((k : ℕ) → Passes n (lists polygon inside) k at → k ≢ place → side k ≢ side place)
        → PassesStraight (ring_edges (get_or polygon place [])) at → (c d : Edge) → Contains (ring_edges other_ring) c → Contains (ring_edges other_ring) d → end_of c ≡ at → start_of d ≡ at → IsStraight (start_of c) at (end_of d)
        → ¬ (Contains (flat_map ring_edges polygon) c) → ⊥
    others-pass side together across (a, b, held_a, held_b, ends, starts, straight) c d held_c held_d ends_too starts_too straight_too off =
        let ring = get_or polygon place [] in
        let of = Contains-get_or polygon place [] within in
        let apart : (edge : Edge) → Contains (ring_edges other_ring) edge → ¬ (Contains (flat_map ring_edges polygon) edge) = beside-off polygon inside other inside_too other_ring of_too c held_c off in
        let off_ring : (edge : Edge) → Contains (ring_edges other_ring) edge → ¬ (Contains (ring_edges ring) edge) = λ edge held on. apart edge held (in-mine polygon inside ring of edge on) in
        let among_all : (edge : Edge) → Contains (ring_edges other_ring) edge → Contains edges edge = λ edge held. among other inside_too edge (in-mine other inside_too other_ring of_too edge held) in
        let alike : (one later : Edge) → Contains (ring_edges other_ring) one → Contains (ring_edges other_ring) later
        → left_of (flat_map (λ list. list) (lists polygon inside)) (sheared_edge n one) ≡ left_of (flat_map (λ list. list) (lists polygon inside)) (sheared_edge n later) = λ one later held_one held_later.
        winds-none polygon inside other inside_too other_ring of_too one held_one (apart one held_one) ∙ sym (winds-none polygon inside other inside_too other_ring of_too later held_later (apart later held_later)) in
        let same = stays n all noded distinct sloped (lists polygon inside) (even polygon inside) (into polygon inside) other_ring (own-ring other inside_too other_ring of_too)
        (λ edge held. slanted-all other inside_too other_ring of_too edge held) alike place (subst (λ (k : ℕ). place < k) (sym (length-map polygon (λ r. map (sheared_edge n) (ring_edges r)))) within) at side together across c d held_c held_d ends_too starts_too in
        let is : get_or (lists polygon inside) place [] ≡ map (sheared_edge n) (ring_edges ring) = get_or-map (λ r. map (sheared_edge n) (ring_edges r)) polygon place [] [] within in
        winds-apart polygon inside ring of a b c d held_a held_b (among_all c held_c) (among_all d held_d) (off_ring c held_c) (off_ring d held_d) at ends starts ends_too starts_too straight straight_too
        (subst (λ (list : List Edge). left_of list (sheared_edge n c) ≡ left_of list (sheared_edge n d)) is same)
