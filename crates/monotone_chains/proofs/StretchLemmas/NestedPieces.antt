-- Where the rings of polygons share points along no circle, the widened rings don't either: these share no other points.
use Rattle.std.proofs.Common.{◌≡◌, ◌≢◌, ℕ, zero, suc, ◌<◌, List, [], ◌∷◌, get_or, length, refl, sym, ap, ◌∙◌, subst, arith}
use Rattle.std.specs.List.{All, AllPairs, AllZip, Contains, flat_map}
use Rattle.std.proofs.lemmas.List.Concat.{flat_map-append}
use Rattle.std.proofs.lemmas.List.Elements.{All-cons, All-contains, All-head, All-nil, All-tail, Contains-append_left, Contains-append_right, Contains-get_or}
use Rattle.i_tree.proofs.RootLemmas.Joined.{AllPairs-across, AllPairs-behind, AllPairs-front}
use Rattle.plane.specs.declared.edge.Edge.{Edge}
use Rattle.plane.specs.declared.point.Point.{Point}
use Rattle.plane.specs.Ends.{start_of}
use Rattle.noding.proofs.ChainLemmas.Zips.{AllZip-at, AllZip-length}
use Rattle.overlay.specs.Contours.Outlines.{ring_point}
use Rattle.overlay.specs.Contours.Rings.{ring_edges}
use Rattle.overlay.specs.Fill.Filled.{AreDistinct, HaveSameEnds, IsNextInColumn}
use Rattle.overlay.specs.OnePiece.{ShareAlongNoCircle, SharesIn}
use Rattle.overlay.specs.Polygons.{rings_of}
use Rattle.overlay.proofs.FillLemmas.Kept.{same-exchanged}
use Rattle.overlay.proofs.GroupingLemmas.Bags.{Contains-in_flat_map}
use Rattle.monotone_chains.specs.Stretches.{IsStretch, IsWidened}
use Rattle.monotone_chains.proofs.StretchLemmas.Boxes.{ClearIfLong}
use Rattle.monotone_chains.proofs.StretchLemmas.Inner.{end-tip}
use Rattle.monotone_chains.proofs.StretchLemmas.NestedHoles.{AreEdgesOf}
use Rattle.monotone_chains.proofs.StretchLemmas.Placed.{IsPlaced}
use Rattle.monotone_chains.proofs.StretchLemmas.RingEdges.{length-ring_edges, ring-edge}
use Rattle.monotone_chains.proofs.StretchLemmas.RingsOnce.{ways-share}

-- where each point shared by rings of the one is shared by those of the other at the same places, circles of the one are those of
-- the other
fewer-shared : (rings wides : List (List Point)) → ((place : ℕ) (point : Point) → SharesIn wides place point → SharesIn rings place point) → ShareAlongNoCircle rings → ShareAlongNoCircle wides
fewer-shared rings wides fewer none place point shares =
    let free = none place point (fewer place point shares) in record {
      side = free.side;
      alike = λ one other at first second away away_too. free.alike one other at (fewer one at first) (fewer other at second) away away_too;
      across = λ other touches differ. free.across other (fewer other point touches) differ;
    }

-- an edge of a ring starts at a point of it
ring-start : (ring : List Point) (edge : Edge) → Contains (ring_edges ring) edge → Contains ring (start_of edge)
ring-start ring edge (k, within, is) =
    let size = length-ring_edges ring in
    let inside : k < length ring = omega (arith, within, size) in
    subst (Contains ring) (ap start_of (sym (ring-edge ring k edge inside) ∙ is)) (Contains-get_or ring k (ring_point [] 0) inside)

-- ---- edges of two rings of a list

abbrev Differ : Edge → Edge → Type 0
Differ one other = ¬ (HaveSameEnds one other)

abbrev ring_at : List (List Point) → ℕ → List Point
ring_at rings place = get_or rings place []

ring-held : (rings : List (List Point)) (place : ℕ) → place < length rings → (edge : Edge) → Contains (ring_edges (ring_at rings place)) edge → Contains (flat_map ring_edges rings) edge
ring-held rings place within edge held = Contains-in_flat_map ring_edges rings (ring_at rings place) edge (Contains-get_or rings place [] within) held

-- no edge of the first one has the ends of one of the others
first-apart : (ring : List Point) (rings : List (List Point)) → AreDistinct (flat_map ring_edges (ring ∷ rings)) → (place : ℕ) → place < length rings
    → (edge other : Edge) → Contains (ring_edges ring) edge → Contains (ring_edges (ring_at rings place)) other → Differ edge other
first-apart ring rings distinct place within edge other held other_held =
    All-contains (Differ edge) (flat_map ring_edges rings) other
    (All-contains (λ e. All (Differ e) (flat_map ring_edges rings)) (ring_edges ring) edge (AllPairs-across Differ (ring_edges ring) (flat_map ring_edges rings) distinct) held)
    (ring-held rings place within other other_held)

-- nor does one at a place have those of one at another place
rings-apart : (rings : List (List Point)) → AreDistinct (flat_map ring_edges rings) → (i j : ℕ) → j ≢ i → i < length rings → j < length rings
    → (edge other : Edge) → Contains (ring_edges (ring_at rings i)) edge → Contains (ring_edges (ring_at rings j)) other → Differ edge other
rings-apart [] distinct i j away within within_too edge other held other_held = absurd (omega (arith, within))
rings-apart (ring ∷ rings) distinct zero zero away within within_too edge other held other_held = absurd (away refl)
rings-apart (ring ∷ rings) distinct zero (suc j) away within within_too edge other held other_held =
    first-apart ring rings distinct j (omega (arith, within_too)) edge other held other_held
rings-apart (ring ∷ rings) distinct (suc i) zero away within within_too edge other held other_held =
    λ same. first-apart ring rings distinct i (omega (arith, within)) other edge other_held held (same-exchanged edge other same)
rings-apart (ring ∷ rings) distinct (suc i) (suc j) away within within_too edge other held other_held =
    rings-apart rings (AllPairs-behind Differ (ring_edges ring) (flat_map ring_edges rings) distinct) i j (λ same. away (ap suc same)) (omega (arith, within)) (omega (arith, within_too)) edge other held other_held

-- Stretches, and edges none of which ends at an inner point of a long one.
module _ (all : List (List Point)) (each : All IsStretch all) (clear : AllPairs ClearIfLong all) (edges : List Edge) (vertical : All (λ edge. edge.x1 ≡ edge.x0 → IsNextInColumn edges edge) edges)
    (placed : All (λ edge. edge.x1 ≢ edge.x0 → IsPlaced all edge) edges) where
  -- a point of two widened rings is one of both rings
  shares-narrowed : (rings wides : List (List Point)) → AreEdgesOf edges rings → AreDistinct (flat_map ring_edges rings) → AllZip (IsWidened all) rings wides → (place : ℕ) (point : Point) → SharesIn wides place point → SharesIn rings place point
  shares-narrowed rings wides there distinct zip place point shares =
      let size = AllZip-length (IsWidened all) rings wides zip in
      let wide_within = shares.within in
      let wide_other_within = shares.other_within in
      let within : place < length rings = omega (arith, size, wide_within) in
      let other_within : shares.other < length rings = omega (arith, size, wide_other_within) in
      let ring = ring_at rings place in
      let other_ring = ring_at rings shares.other in
      let (ways, goes, is) = AllZip-at (IsWidened all) rings wides [] [] place zip within in
      let (other_ways, other_goes, other_is) = AllZip-at (IsWidened all) rings wides [] [] shares.other zip other_within in
      let (edge, other_edge, held, other_held, start, other_start) = ways-share all each clear edges
      (λ e p among end s of_all long of. end-tip all each clear edges placed vertical e p among end s of_all long of)
      (ring_edges ring) (ring_edges other_ring) ways other_ways
      (λ e inside. there ring (Contains-get_or rings place [] within) e inside) (λ e inside. there other_ring (Contains-get_or rings shares.other [] other_within) e inside)
      (λ e f inside inside_too. rings-apart rings distinct place shares.other shares.apart within other_within e f inside inside_too)
      goes other_goes point
      (subst (λ (points : List Point). Contains points point) is shares.held) (subst (λ (points : List Point). Contains points point) other_is shares.other_held) in record {
        other = shares.other;
        apart = shares.apart;
        within = within;
        other_within = other_within;
        held = subst (Contains ring) (sym start) (ring-start ring edge held);
        other_held = subst (Contains other_ring) (sym other_start) (ring-start other_ring other_edge other_held);
      }

  pub pieces-share : (polygons wides : List (List (List Point))) → AreEdgesOf edges (rings_of polygons) → AreDistinct (flat_map ring_edges (rings_of polygons)) → AllZip (AllZip (IsWidened all)) polygons wides
      → All ShareAlongNoCircle polygons → All ShareAlongNoCircle wides
  pieces-share [] [] there distinct zip share = All-nil ShareAlongNoCircle
  pieces-share [] (wide ∷ wides) there distinct zip share = absurd zip
  pieces-share (polygon ∷ polygons) [] there distinct zip share = absurd zip
  pieces-share (polygon ∷ polygons) (wide ∷ wides) there distinct (is, zip) share =
      let own = flat_map ring_edges polygon in
      let others = flat_map ring_edges (rings_of polygons) in
      let both = subst AreDistinct (flat_map-append ring_edges polygon (rings_of polygons)) distinct in
      All-cons ShareAlongNoCircle wide wides
      (fewer-shared polygon wide
      (shares-narrowed polygon wide (λ ring held. there ring (Contains-append_left polygon (rings_of polygons) ring held)) (AllPairs-front Differ own others both) is)
      (All-head ShareAlongNoCircle polygon polygons share))
      (pieces-share polygons wides (λ ring held. there ring (Contains-append_right polygon (rings_of polygons) ring held)) (AllPairs-behind Differ own others both) zip (All-tail ShareAlongNoCircle polygon polygons share))
