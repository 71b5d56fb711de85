-- One of some polygons winds once around a point or not at all by itself, where their rings keep sides and each hole is of the
-- polygon just below it.
use Rattle.std.proofs.Common.{◌≡◌, ◌≢◌, inl, inr, ◌++◌, ℕ, ◌+◌, ◌<◌, ◌<ℤ◌, Bool, true, false, List, ◌∷◌, Some, None, map, refl, ap, sym, subst, ◌∙◌, arith}
use Rattle.std.specs.List.{All, Contains, filter, flat_map}
use Rattle.std.proofs.lemmas.Int.{ints}
use Rattle.std.proofs.lemmas.List.{map-append}
use Rattle.std.proofs.lemmas.List.Concat.{flat_map-append}
use Rattle.std.proofs.lemmas.List.Elements.{All-contains, Contains-append_cases, Contains-append_left, Contains-append_right}
use Rattle.i_tree.proofs.RootLemmas.Joined.{AllPairs-across, AllPairs-behind}
use Rattle.plane.specs.declared.edge.Edge.{Edge}
use Rattle.plane.specs.declared.point.Point.{Point}
use Rattle.plane.specs.Meet.Edges.{RationalPoint}
use Rattle.plane.specs.SweepLine.Heights.{rightwards}
use Rattle.plane.proofs.PairsLemmas.Bags.{Contains-from_map, Contains-map, here_or_there}
use Rattle.noding.specs.Windings.{IsClosed, winding}
use Rattle.overlay.specs.Contours.Rings.{IsRing, ring_edges}
use Rattle.overlay.specs.Fill.Filled.{AreDistinct, AreNoded, HaveSameEnds}
use Rattle.overlay.specs.Nesting.{AreNested, IsHoleIn, IsNextBelow, PolygonWindsOnce}
use Rattle.overlay.specs.Overlay.{polygon_edges}
use Rattle.overlay.specs.Polygons.{first_sloped, is_counterclockwise, rings_of}
use Rattle.overlay.specs.Sides.{AreBorders, HaveOneLeft, IsLow, KeepSides, left_of, sheared, sheared_edge}
use Rattle.overlay.proofs.AreaLemmas.Rings.{each-ring}
use Rattle.overlay.proofs.AreaLemmas.Sheared.{AreDistinct-sheared, AreNoded-sheared, ring_edges-sheared}
use Rattle.overlay.proofs.AreaLemmas.Slanted.{slanted-first, slanted-runs, slanted-sloped}
use Rattle.overlay.proofs.ContourLemmas.Counts.{ring-closed, rings-closed}
use Rattle.overlay.proofs.FillLemmas.Balance.{balanced}
use Rattle.overlay.proofs.FillLemmas.Premises.{All-among}
use Rattle.overlay.proofs.FillLemmas.Tests.{lt_false}
use Rattle.overlay.proofs.GroupingLemmas.Bags.{Contains-flat_map, Contains-in_flat_map}
use Rattle.overlay.proofs.GroupingLemmas.Begins.{IsFirst}
use Rattle.overlay.proofs.WindsLemmas.Leaning.{sheared-once}
use Rattle.overlay.proofs.WindsLemmas.Moved.{IsClosed-sheared}
use Rattle.overlay.proofs.WindsLemmas.NextBelow.{next-before}
use Rattle.overlay.proofs.WindsLemmas.Once.{slanted}
use Rattle.overlay.proofs.WindsLemmas.Paired.{IsOneOrNone}
use Rattle.overlay.proofs.WindsLemmas.Polygons.{holds, is-held, not-held, only-mine}
use Rattle.overlay.proofs.WindsLemmas.RingHomes.{rings-home}

abbrev Differ : Edge → Edge → Type 0
Differ one other = ¬ (HaveSameEnds one other)

-- ---- one polygon among others

module _ (polygons : List (List (List Point))) (are_rings : All IsRing (rings_of polygons)) (borders : AreBorders (polygon_edges polygons)) (keep : KeepSides (polygon_edges polygons) (rings_of polygons)) (nested : AreNested polygons)
    (before : List (List (List Point))) (polygon : List (List Point)) (after : List (List (List Point))) (parts : polygons ≡ before ++ polygon ∷ after) where
  abbrev edges : List Edge
  edges = polygon_edges polygons

  abbrev mine : List Edge
  mine = flat_map ring_edges polygon

  -- the edges of a polygon are among those of all
  among-all : (other : List (List Point)) → Contains polygons other → (edge : Edge) → Contains (flat_map ring_edges other) edge → Contains edges edge
  among-all other inside edge held =
      let (ring, of, at) = Contains-flat_map ring_edges other edge held in
      Contains-in_flat_map ring_edges (rings_of polygons) ring edge (Contains-in_flat_map (λ (p : List (List Point)). p) polygons other ring inside of) at

  inside-mine : Contains polygons polygon
  inside-mine = subst (λ (list : List (List (List Point))). Contains list polygon) (sym parts) (Contains-append_right before (polygon ∷ after) polygon (0, omega arith, refl))

  closed : IsClosed edges
  closed = λ test. rings-closed test (rings_of polygons)

  mine_closed : IsClosed mine
  mine_closed = λ test. rings-closed test polygon

  module _ (n b : ℕ) (wide : b + b < n) (low : All (IsLow b) edges) where
    some : 0 < n
    some = omega (arith, wide)

    abbrev slant : Edge → Edge
    slant edge = sheared_edge n edge

    abbrev all : List Edge
    all = map (sheared_edge n) edges

    noded : AreNoded all
    noded = AreNoded-sheared n some edges borders.noded

    distinct : AreDistinct all
    distinct = AreDistinct-sheared n some edges borders.distinct

    sloped : All (λ edge. edge.x0 ≢ edge.x1) all
    sloped = All-among (λ (edge : Edge). edge.x0 ≢ edge.x1) all (slanted-sloped edges borders.two_ends n b wide low)

    -- ---- those of the polygon

    abbrev here : List Edge
    here = map (sheared_edge n) mine

    -- and those of the polygons before it and behind it
    abbrev front : List Edge
    front = map (sheared_edge n) (polygon_edges before)

    abbrev back : List Edge
    back = map (sheared_edge n) (polygon_edges after)

    abbrev own : Edge → Bool
    own edge = holds here edge

    split : all ≡ front ++ (here ++ back)
    split =
        ap (λ (list : List (List (List Point))). map (sheared_edge n) (polygon_edges list)) parts
        ∙ ap (λ (rings : List (List Point)). map (sheared_edge n) (flat_map ring_edges rings)) (flat_map-append (λ (p : List (List Point)). p) before (polygon ∷ after))
        ∙ ap (λ (list : List Edge). map (sheared_edge n) list) (flat_map-append ring_edges (rings_of before) (polygon ++ rings_of after) ∙ ap (λ (list : List Edge). polygon_edges before ++ list) (flat_map-append ring_edges polygon (rings_of after)))
        ∙ map-append (sheared_edge n) (polygon_edges before) (mine ++ polygon_edges after)
        ∙ ap (λ (list : List Edge). map (sheared_edge n) (polygon_edges before) ++ list) (map-append (sheared_edge n) mine (polygon_edges after))

    parts_distinct : AreDistinct (front ++ (here ++ back))
    parts_distinct = subst AreDistinct split distinct

    own-mine : filter own all ≡ here
    own-mine =
        ap (λ (list : List Edge). filter own list) split
        ∙ only-mine front here back parts_distinct

    -- the edges of each polygon are the polygon's own, or none of them is
    each-side : (other : List (List Point)) → Contains polygons other → (t : Bool) × ((edge : Edge) → Contains (flat_map ring_edges other) edge → own (slant edge) ≡ t)
    each-side other inside =
        elim (Contains-append_cases before (polygon ∷ after) other (subst (λ (list : List (List (List Point))). Contains list other) parts inside)) [
          | inl early ↦ (false, λ edge held. not-held here (slant edge) (λ is. apart-front edge (held-in before early edge held) is))
          | inr rest ↦ elim (here_or_there polygon after other rest) [
            | inl same ↦ (true, λ edge held. is-held here (slant edge) (Contains-map (sheared_edge n) mine edge (subst (λ (p : List (List Point)). Contains (flat_map ring_edges p) edge) (sym same) held)))
            | inr late ↦ (false, λ edge held. not-held here (slant edge) (λ is. apart-back edge (held-in after late edge held) is))
          ]
        ]
      where
        held-in : (list : List (List (List Point))) → Contains list other → (edge : Edge) → Contains (flat_map ring_edges other) edge → Contains (map (sheared_edge n) (polygon_edges list)) (slant edge)
        held-in list of edge held =
            let (ring, at, on) = Contains-flat_map ring_edges other edge held in
            Contains-map (sheared_edge n) (polygon_edges list) edge
            (Contains-in_flat_map ring_edges (rings_of list) ring edge (Contains-in_flat_map (λ (p : List (List Point)). p) list other ring of at) on)

        apart-front : (edge : Edge) → Contains front (slant edge) → Contains here (slant edge) → ⊥
        apart-front edge held is =
            let rest = here ++ back in
            All-contains (Differ (slant edge)) rest (slant edge) (All-contains (λ one. All (Differ one) rest) front (slant edge) (AllPairs-across Differ front rest parts_distinct) held)
            (Contains-append_left here back (slant edge) is) (inl refl)

        apart-back : (edge : Edge) → Contains back (slant edge) → Contains here (slant edge) → ⊥
        apart-back edge held is =
            All-contains (Differ (slant edge)) back (slant edge)
            (All-contains (λ one. All (Differ one) back) here (slant edge) (AllPairs-across Differ here back (AllPairs-behind Differ front (here ++ back) parts_distinct)) is)
            held (inl refl)

    -- ---- the rings

    abbrev slant_ring : List Point → List Edge
    slant_ring ring = map (sheared_edge n) (ring_edges ring)

    abbrev rings : List (List Edge)
    rings = map slant_ring (rings_of polygons)

    -- what holds of each ring
    by-ring : (P : List Edge → Type 0) → ((ring : List Point) → Contains (rings_of polygons) ring → P (slant_ring ring)) → (ring : List Edge) → Contains rings ring → P ring
    by-ring P holds_of ring inside = let (of, held, is) = Contains-from_map slant_ring (rings_of polygons) ring inside in subst P is (holds_of of held)

    -- what holds of each sheared edge
    by-edge : (list : List Edge) (P : Edge → Type 0) → ((edge : Edge) → Contains list edge → P (slant edge)) → (edge : Edge) → Contains (map (sheared_edge n) list) edge → P edge
    by-edge list P holds_of edge inside = let (of, held, is) = Contains-from_map (sheared_edge n) list edge inside in subst P is (holds_of of held)

    -- the polygon of a ring
    of-polygon : (ring : List Point) → Contains (rings_of polygons) ring → (other : List (List Point)) × Contains polygons other × Contains other ring
    of-polygon ring inside = Contains-flat_map (λ (p : List (List Point)). p) polygons ring inside

    covers : (edge : Edge) → Contains all edge → (ring : List Edge) × Contains rings ring × Contains ring edge
    covers = by-edge edges (λ edge. (ring : List Edge) × Contains rings ring × Contains ring edge) (λ edge inside. (
        let (ring, of, held) = Contains-flat_map ring_edges (rings_of polygons) edge inside in
        (slant_ring ring, Contains-map slant_ring (rings_of polygons) ring of, Contains-map (sheared_edge n) (ring_edges ring) edge held)))

    within : (ring : List Edge) → Contains rings ring → (edge : Edge) → Contains ring edge → Contains all edge
    within = by-ring (λ ring. (edge : Edge) → Contains ring edge → Contains all edge) (λ ring inside.
        by-edge (ring_edges ring) (Contains all) (λ edge held. Contains-map (sheared_edge n) edges edge (Contains-in_flat_map ring_edges (rings_of polygons) ring edge inside held)))

    same : (ring : List Edge) → Contains rings ring → (one other : Edge) → Contains ring one → Contains ring other → own one ≡ own other
    same = by-ring (λ ring. (one other : Edge) → Contains ring one → Contains ring other → own one ≡ own other) (λ ring inside one other first second. (
        let (of, at, held) = of-polygon ring inside in
        let (t, told) = each-side of at in
        let P : Edge → Type 0 = λ edge. own edge ≡ t in
        let each = by-edge (ring_edges ring) P (λ edge on. told edge (Contains-in_flat_map ring_edges of ring edge held on)) in
        each one first ∙ sym (each other second)))

    alike : (ring : List Edge) → Contains rings ring → (one other : Edge) → Contains ring one → Contains ring other → left_of (filter own all) one ≡ left_of (filter own all) other
    alike =
        subst (λ (list : List Edge). (ring : List Edge) → Contains rings ring → (one other : Edge) → Contains ring one → Contains ring other → left_of list one ≡ left_of list other) (sym own-mine)
        (by-ring (λ ring. (one other : Edge) → Contains ring one → Contains ring other → left_of here one ≡ left_of here other) (λ ring inside one other first second. (
        let one_left = All-contains (λ (r : List Point). HaveOneLeft n edges (ring_edges r)) (rings_of polygons) ring (keep n b wide low) inside in
        by-edge (ring_edges ring) (λ e. left_of here e ≡ left_of here other) (λ e held.
        by-edge (ring_edges ring) (λ d. left_of here (slant e) ≡ left_of here d) (λ d held_too.
        one_left mine mine_closed (among-all polygon inside-mine) e d held held_too) other second) one first)))

    -- ---- holes

    -- The first of a ring's sheared edges was the first before.
    abbrev WasFirst : List Point → Type 0
    WasFirst ring =
        All (IsLow b) (ring_edges ring) → (first : Edge) → IsFirst (slant_ring ring) first
        → ((edge : Edge) × Contains (ring_edges ring) edge × (first_sloped None (ring_edges ring) ≡ Some edge) × (edge.x0 ≢ edge.x1) × (slant edge ≡ first))
        × (first.x1 <ℤ first.x0 → is_counterclockwise ring ≡ false)

    was-first : All WasFirst (rings_of polygons)
    was-first =
        each-ring WasFirst
        (λ ring is ring_noded ring_distinct two_ends ring_low first begins.
        (let shut : IsClosed (slant_ring ring) = subst IsClosed (ring_edges-sheared n ring) (λ test. ring-closed test (map (sheared n) ring)) in (
          slanted-first (ring_edges ring) two_ends n b wide ring_low some ring_noded ring_distinct shut first begins,
          λ left. slanted-runs (ring_edges ring) two_ends n b wide ring_low some ring_noded ring_distinct shut first begins ∙ lt_false first.x0 first.x1 (omega (arith, ints, left)),
        )))
        (rings_of polygons) are_rings borders.noded borders.distinct borders.two_ends

    ring-low : (ring : List Point) → Contains (rings_of polygons) ring → All (IsLow b) (ring_edges ring)
    ring-low ring inside = All-among (IsLow b) (ring_edges ring) (λ edge held. All-contains (IsLow b) edges edge low (Contains-in_flat_map ring_edges (rings_of polygons) ring edge inside held))

    home : (ring : List Edge) → Contains rings ring → (first below : Edge) → IsFirst ring first → IsNextBelow all (rightwards first).x0 below first → first.x1 <ℤ first.x0 → own below ≡ own first
    home = by-ring (λ ring. (first below : Edge) → IsFirst ring first → IsNextBelow all (rightwards first).x0 below first → first.x1 <ℤ first.x0 → own below ≡ own first) each-home
      where
        each-home : (ring : List Point) → Contains (rings_of polygons) ring → (first below : Edge) → IsFirst (slant_ring ring) first → IsNextBelow all (rightwards first).x0 below first → first.x1 <ℤ first.x0 → own below ≡ own first
        each-home ring inside first below begins next left =
            let ((edge, held, best, slopes, at), clockwise) = All-contains WasFirst (rings_of polygons) ring was-first inside (ring-low ring inside) first begins in
            let (under, under_held, at_under) = Contains-from_map (sheared_edge n) edges below next.among in
            let (of, at_of, on) = of-polygon ring inside in
            let (t, told) = each-side of at_of in
            let among = Contains-in_flat_map ring_edges (rings_of polygons) ring edge inside held in
            let was_next = next-before edges borders.noded n b wide low edge among slopes under under_held
            (subst (λ (e : Edge). IsNextBelow all (rightwards e).x0 (slant under) e) (sym at) (subst (λ (e : Edge). IsNextBelow all (rightwards first).x0 e first) (sym at_under) next)) in
            let hole : IsHoleIn edges of ring = All-contains (λ r. is_counterclockwise r ≡ false → IsHoleIn edges of r) of ring
            (All-contains (λ p. All (λ r. is_counterclockwise r ≡ false → IsHoleIn edges p r) p) polygons of nested at_of) on (clockwise left) in
            sym (ap own at_under) ∙ told under (hole edge under best was_next) ∙ sym (told edge (Contains-in_flat_map ring_edges of ring edge on held)) ∙ ap own at

    -- ---- around a sheared point

    once-there : (point : RationalPoint) → IsOneOrNone (winding here point)
    once-there point =
        subst (λ (list : List Edge). IsOneOrNone (winding list point)) own-mine
        (rings-home all noded distinct sloped (sheared-once edges borders closed n b wide low) (balanced all (IsClosed-sheared n edges closed)) own
        (balanced (filter own all) (subst IsClosed (sym own-mine) (IsClosed-sheared n mine mine_closed))) rings
        (record { covers = covers; within = within; alike = alike; same = same; home = home }) point)

  -- So the polygon winds once around each point, or not at all.
  pub mine-once : PolygonWindsOnce polygon
  mine-once point =
      let is = slanted edges mine point in
      subst IsOneOrNone is.alike (once-there is.n is.b is.wide is.low is.other)
