-- Closed edges of a polygon go along each edge of a ring as often as along the next one, where polygons' rings keep sides and each
-- polygon winds once around a point or not at all by itself.
use Rattle.std.proofs.Common.{◌≡◌, ◌≢◌, ◌++◌, zero, suc, ℕ, ◌+◌, ◌<◌, pos, Bool, true, false, List, [], ◌∷◌, map, refl, ap, sym, subst, ◌∙◌, arith}
use Rattle.std.specs.List.{All, Contains, count_by, flat_map}
use Rattle.std.proofs.lemmas.List.{map-append}
use Rattle.std.proofs.lemmas.List.Concat.{flat_map-append}
use Rattle.std.proofs.lemmas.List.Elements.{All-contains}
use Rattle.i_tree.proofs.RootLemmas.Joined.{AllPairs-behind, AllPairs-front}
use Rattle.i_tree.proofs.RootLemmas.Lists.{Contains-here, Contains-there}
use Rattle.plane.specs.declared.edge.Edge.{Edge}
use Rattle.plane.specs.declared.point.Point.{Point}
use Rattle.plane.specs.Ends.{end_of, start_of}
use Rattle.plane.specs.Meet.Edges.{RationalPoint}
use Rattle.plane.proofs.PairsLemmas.Bags.{Contains-from_map, Contains-map}
use Rattle.noding.specs.Windings.{IsClosed, winding}
use Rattle.overlay.specs.Contours.Rings.{IsRing, ring_edges}
use Rattle.overlay.specs.Fill.Filled.{AreDistinct, AreNoded, HaveSameEnds}
use Rattle.overlay.specs.Joined.{is_same}
use Rattle.overlay.specs.Nesting.{PolygonWindsOnce}
use Rattle.overlay.specs.OnePiece.{GoWhole}
use Rattle.overlay.specs.Overlay.{polygon_edges}
use Rattle.overlay.specs.Polygons.{IsPolygon, is_counterclockwise, rings_of}
use Rattle.overlay.specs.Sides.{AreBorders, HaveOneLeft, HaveOnLeft, IsLow, KeepSides, sheared, sheared_edge}
use Rattle.overlay.proofs.AreaLemmas.Around.{one-ends}
use Rattle.overlay.proofs.AreaLemmas.Directed.{left-none, left-once}
use Rattle.overlay.proofs.AreaLemmas.Rings.{each-ring}
use Rattle.overlay.proofs.AreaLemmas.Sheared.{AreDistinct-sheared, AreNoded-sheared, edge-same, sheared-same}
use Rattle.overlay.proofs.AreaLemmas.Slanted.{slanted-sloped}
use Rattle.overlay.proofs.AreaLemmas.Wide.{all-low}
use Rattle.overlay.proofs.ContourLemmas.Counts.{rings-closed}
use Rattle.overlay.proofs.FillLemmas.Balance.{AreBalanced, balanced}
use Rattle.overlay.proofs.FillLemmas.Premises.{All-among}
use Rattle.overlay.proofs.GroupingLemmas.Bags.{Contains-flat_map, Contains-in_flat_map}
use Rattle.overlay.proofs.WindsLemmas.Leaning.{sheared-once}
use Rattle.overlay.proofs.WindsLemmas.Moved.{IsClosed-sheared, count_by-map}
use Rattle.overlay.proofs.WindsLemmas.NextInRing.{as-often}
use Rattle.overlay.proofs.WindsLemmas.Paired.{IsOneOrNone}
use Rattle.overlay.proofs.WindsLemmas.Polygons.{is-same, same-edge}

abbrev Differ : Edge → Edge → Type 0
Differ one other = ¬ (HaveSameEnds one other)

-- ---- sheared edges

-- The sheared edges of rings, ring by ring.
pub by-rings : (f : Edge → Edge) (rings : List (List Point)) → map f (flat_map ring_edges rings) ≡ flat_map (λ (ring : List Edge). ring) (map (λ ring. map f (ring_edges ring)) rings)
by-rings f [] = refl
by-rings f (ring ∷ rings) = map-append f (ring_edges ring) (flat_map ring_edges rings) ∙ ap (λ (list : List Edge). map f (ring_edges ring) ++ list) (by-rings f rings)

-- an edge is another one exactly if they are one once they are sheared
same-sheared : (n : ℕ) → 0 < n → (one other : Edge) → is_same (sheared_edge n one) (sheared_edge n other) ≡ is_same one other
same-sheared n some one other = by (is_same (sheared_edge n one) (sheared_edge n other)) (is_same one other) refl refl
  where
    by : (s t : Bool) → is_same (sheared_edge n one) (sheared_edge n other) ≡ s → is_same one other ≡ t → s ≡ t
    by true true first second = refl
    by false false first second = refl
    by true false first second = sym (subst (λ (e : Edge). is_same one e ≡ true) (sym (edge-same n some other one (same-edge (sheared_edge n one) (sheared_edge n other) first))) (is-same one)) ∙ second
    by false true first second =
        sym first ∙ subst (λ (e : Edge). is_same (sheared_edge n one) e ≡ true) (ap (sheared_edge n) (sym (same-edge one other second))) (is-same (sheared_edge n one))

-- so as many are the edge
count-sheared : (n : ℕ) → 0 < n → (one : Edge) (edges : List Edge) → count_by (is_same (sheared_edge n one)) (map (sheared_edge n) edges) ≡ count_by (is_same one) edges
count-sheared n some one edges =
    count_by-map (sheared_edge n) (is_same (sheared_edge n one)) (is_same one) edges
    (All-among (λ other. is_same (sheared_edge n one) (sheared_edge n other) ≡ is_same one other) edges (λ other held. same-sheared n some one other))

-- ---- one polygon

module _ (outer : List Point) (holes : List (List Point)) (outwards : is_counterclockwise outer ≡ true) (inwards : All (λ hole. is_counterclockwise hole ≡ false) holes) (are_rings : All IsRing (outer ∷ holes))
    (borders : AreBorders (flat_map ring_edges (outer ∷ holes))) (n b : ℕ) (wide : b + b < n) (low : All (IsLow b) (flat_map ring_edges (outer ∷ holes))) where
  abbrev rings : List (List Point)
  rings = outer ∷ holes

  abbrev mine : List Edge
  mine = flat_map ring_edges rings

  some : 0 < n
  some = omega (arith, wide)

  abbrev pub slant_ring : List Point → List Edge
  slant_ring ring = map (sheared_edge n) (ring_edges ring)

  abbrev pub all : List Edge
  all = flat_map (λ (ring : List Edge). ring) (slant_ring outer ∷ map slant_ring holes)

  pub are : map (sheared_edge n) mine ≡ all
  are = by-rings (sheared_edge n) rings

  closed : IsClosed mine
  closed test = rings-closed test rings

  pub noded : AreNoded all
  noded = subst AreNoded are (AreNoded-sheared n some mine borders.noded)

  pub distinct : AreDistinct all
  distinct = subst AreDistinct are (AreDistinct-sheared n some mine borders.distinct)

  pub sloped : All (λ edge. edge.x0 ≢ edge.x1) all
  sloped = subst (λ (list : List Edge). All (λ edge. edge.x0 ≢ edge.x1) list) are (All-among (λ (edge : Edge). edge.x0 ≢ edge.x1) (map (sheared_edge n) mine) (slanted-sloped mine borders.two_ends n b wide low))

  pub once : (point : RationalPoint) → IsOneOrNone (winding all point)
  once point = subst (λ (list : List Edge). IsOneOrNone (winding list point)) are (sheared-once mine borders closed n b wide low point)

  even : AreBalanced all
  even = subst AreBalanced are (balanced (map (sheared_edge n) mine) (IsClosed-sheared n mine closed))

  -- on the left of each ring's edges it winds once, or not at all
  abbrev Runs : List Point → Type 0
  Runs ring = All (IsLow b) (ring_edges ring) → (is_counterclockwise ring ≡ true → HaveOnLeft (pos 1) (slant_ring ring)) × (is_counterclockwise ring ≡ false → HaveOnLeft (pos 0) (slant_ring ring))

  runs : All Runs rings
  runs =
      each-ring Runs
      (λ ring is ring_noded ring_distinct two_ends ring_low.
      ((λ counterclockwise. left-once ring is ring_noded ring_distinct two_ends n b wide some ring_low counterclockwise), (λ clockwise. left-none ring is ring_noded ring_distinct two_ends n b wide some ring_low clockwise)))
      rings are_rings borders.noded borders.distinct borders.two_ends

  ring-low : (ring : List Point) → Contains rings ring → All (IsLow b) (ring_edges ring)
  ring-low ring of = All-among (IsLow b) (ring_edges ring) (λ edge held. All-contains (IsLow b) mine edge low (Contains-in_flat_map ring_edges rings ring edge of held))

  pub outer-left : HaveOnLeft (pos 1) (slant_ring outer)
  outer-left = let here = Contains-here outer holes in (All-contains Runs rings outer runs here (ring-low outer here)).0 outwards

  pub holes-left : All (HaveOnLeft (pos 0)) (map slant_ring holes)
  holes-left = All-among (HaveOnLeft (pos 0)) (map slant_ring holes) (λ slanted held. (
      let (hole, of, is) = Contains-from_map slant_ring holes slanted held in
      let inside = Contains-there outer holes hole of in
      subst (HaveOnLeft (pos 0)) is ((All-contains Runs rings hole runs inside (ring-low hole inside)).1 (All-contains (λ h. is_counterclockwise h ≡ false) holes hole inwards of))))

  -- of a ring one edge ends at each point
  slant-ends : (slanted : List Edge) → Contains (map slant_ring rings) slanted → (one other : Edge) → Contains slanted one → Contains slanted other → end_of one ≡ end_of other → one ≡ other
  slant-ends slanted inside one other held held_too same =
      let (ring, of, is) = Contains-from_map slant_ring rings slanted inside in
      let (e, e_held, e_is) = Contains-from_map (sheared_edge n) (ring_edges ring) one (subst (λ (list : List Edge). Contains list one) (sym is) held) in
      let (f, f_held, f_is) = Contains-from_map (sheared_edge n) (ring_edges ring) other (subst (λ (list : List Edge). Contains list other) (sym is) held_too) in
      let level : sheared n (end_of e) ≡ sheared n (end_of f) = ap end_of e_is ∙ same ∙ sym (ap end_of f_is) in
      sym e_is ∙ ap (sheared_edge n) (one-ends ring (All-contains IsRing rings ring are_rings of) e f e_held f_held (sheared-same n some (end_of e) (end_of f) level)) ∙ f_is

  module _ (keep : (ring : List Point) → Contains (outer ∷ holes) ring → HaveOneLeft n (flat_map ring_edges (outer ∷ holes)) (ring_edges ring)) where
    pub goes : GoWhole (outer ∷ holes)
    goes list list_closed into ring of one other held held_too meet =
        let slanted = map (sheared_edge n) list in
        let inside = Contains-map slant_ring rings ring of in
        let within : (edge : Edge) → Contains slanted edge → Contains all edge = λ edge at. (
        let (e, e_held, is) = Contains-from_map (sheared_edge n) list edge at in
        subst (λ (l : List Edge). Contains l edge) are (subst (Contains (map (sheared_edge n) mine)) is (Contains-map (sheared_edge n) mine e (into e e_held)))) in
        sym (count-sheared n some one list)
        ∙ as-often (slant_ring outer) (map slant_ring holes) noded distinct sloped once outer-left holes-left slant-ends even (slant_ring ring) inside (sheared_edge n one) (sheared_edge n other)
        (Contains-map (sheared_edge n) (ring_edges ring) one held) (Contains-map (sheared_edge n) (ring_edges ring) other held_too) (ap (sheared n) meet)
        slanted (balanced slanted (IsClosed-sheared n list list_closed)) within (keep ring of list list_closed into one other held held_too)
        ∙ count-sheared n some other list

-- ---- polygons

-- The edges of a polygon are distinct as those of all are.
pub own-distinct : (polygons : List (List (List Point))) → AreDistinct (polygon_edges polygons) → (polygon : List (List Point)) → Contains polygons polygon → AreDistinct (flat_map ring_edges polygon)
own-distinct [] distinct polygon (k, within, is) = absurd (omega (arith, within))
own-distinct (first ∷ others) distinct polygon (zero, within, is) =
    subst (λ (p : List (List Point)). AreDistinct (flat_map ring_edges p)) is
    (AllPairs-front Differ (flat_map ring_edges first) (polygon_edges others) (subst AreDistinct (flat_map-append ring_edges first (rings_of others)) distinct))
own-distinct (first ∷ others) distinct polygon (suc k, within, is) =
    own-distinct others (AllPairs-behind Differ (flat_map ring_edges first) (polygon_edges others) (subst AreDistinct (flat_map-append ring_edges first (rings_of others)) distinct)) polygon (k, omega (arith, within), is)

-- Closed edges of each of the polygons go along each edge of a ring as often as along the next one.
pub go-whole : (polygons : List (List (List Point))) → All IsRing (rings_of polygons) → AreBorders (polygon_edges polygons) → KeepSides (polygon_edges polygons) (rings_of polygons) → All IsPolygon polygons → All PolygonWindsOnce polygons
    → (polygon : List (List Point)) → Contains polygons polygon → GoWhole polygon
go-whole polygons are_rings borders keep are once polygon inside =
    let is = All-contains IsPolygon polygons polygon are inside in
    subst GoWhole (sym is.is) (whole is.outer is.holes is.is is.outwards is.inwards)
  where
    ring-of : (ring : List Point) → Contains polygon ring → Contains (rings_of polygons) ring
    ring-of ring of = Contains-in_flat_map (λ (p : List (List Point)). p) polygons polygon ring inside of

    whole : (outer : List Point) (holes : List (List Point)) → polygon ≡ outer ∷ holes → is_counterclockwise outer ≡ true → All (λ hole. is_counterclockwise hole ≡ false) holes → GoWhole (outer ∷ holes)
    whole outer holes shape outwards inwards =
        let edges = polygon_edges polygons in
        let rings = outer ∷ holes in
        let mine = flat_map ring_edges rings in
        let (b, low) = all-low edges in
        let n = suc (b + b) in
        let wide : b + b < n = omega arith in
        let of_all : (ring : List Point) → Contains rings ring → Contains (rings_of polygons) ring = λ ring of. ring-of ring (subst (λ (p : List (List Point)). Contains p ring) (sym shape) of) in
        let among : (edge : Edge) → Contains mine edge → Contains edges edge = λ edge held. (
        let (ring, of, on) = Contains-flat_map ring_edges rings edge held in
        Contains-in_flat_map ring_edges (rings_of polygons) ring edge (of_all ring of) on) in
        let own : AreBorders mine = record {
          noded = λ one other point first second. borders.noded one other point (among one first) (among other second);
          distinct = own-distinct polygons borders.distinct rings (subst (Contains polygons) shape inside);
          two_ends = All-among (λ (edge : Edge). start_of edge ≢ end_of edge) mine (λ edge held. All-contains (λ (e : Edge). start_of e ≢ end_of e) edges edge borders.two_ends (among edge held));
          once = subst PolygonWindsOnce shape (All-contains PolygonWindsOnce polygons polygon once inside);
        } in
        goes outer holes outwards inwards (All-among IsRing rings (λ ring of. All-contains IsRing (rings_of polygons) ring are_rings (of_all ring of))) own n b wide
        (All-among (IsLow b) mine (λ edge held. All-contains (IsLow b) edges edge low (among edge held)))
        (λ ring of list list_closed into one other held held_too.
        All-contains (λ (r : List Point). HaveOneLeft n edges (ring_edges r)) (rings_of polygons) ring (keep n b wide low) (of_all ring of) list list_closed (λ edge at. among edge (into edge at)) one other held held_too)
