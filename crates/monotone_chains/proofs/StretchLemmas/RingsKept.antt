-- Widened rings are rings.
use Rattle.std.proofs.Common.{◌≢◌, List, [], ◌∷◌, sym, ap, subst, subst₂, arith}
use Rattle.std.specs.List.{All, AllPairs, AllZip, Contains, flat_map}
use Rattle.std.proofs.lemmas.List.Elements.{All-cons, All-head, All-nil, All-tail, Contains-append_left, Contains-append_right}
use Rattle.i_tree.proofs.RootLemmas.Joined.{AllPairs-behind, AllPairs-front}
use Rattle.plane.specs.declared.edge.Edge.{Edge}
use Rattle.plane.specs.declared.point.Point.{Point}
use Rattle.overlay.specs.Contours.Rings.{IsRing, ring_edges}
use Rattle.overlay.specs.Fill.Filled.{AreDistinct, HaveSameEnds}
use Rattle.noding.specs.Chains.{IsEnd}
use Rattle.plane.specs.Ends.{start_of}
use Rattle.monotone_chains.specs.Stretches.{IsLong, IsStretch, IsWidened}
use Rattle.monotone_chains.proofs.StretchLemmas.Boxes.{ClearIfLong, IsTip}
use Rattle.monotone_chains.proofs.StretchLemmas.RingEdges.{length-ring_edges, ring-edge}
use Rattle.monotone_chains.proofs.StretchLemmas.Rings.{widened-some}
use Rattle.monotone_chains.proofs.StretchLemmas.RingsOnce.{ways-once}

-- no two edges of a ring start at one point
ring-starts : (ring : List Point) → IsRing ring → AllPairs (λ one other. start_of one ≢ start_of other) (ring_edges ring)
ring-starts ring is i j d below within =
    let size = length-ring_edges ring in
    subst₂ (λ (p q : Point). p ≢ q) (sym (ap start_of (ring-edge ring i d (omega (arith, below, within, size))))) (sym (ap start_of (ring-edge ring j d (omega (arith, within, size)))))
    (is.once i j _ below (omega (arith, within, size)))

-- Stretches that are clear of each other where one is long, and edges of whose ends those that are points of long stretches are
-- ends of their chords.
module _ (all : List (List Point)) (each : All IsStretch all) (clear : AllPairs ClearIfLong all) (edges : List Edge)
    (tips : (edge : Edge) (point : Point) → Contains edges edge → IsEnd edge point.x point.y → (s : List Point) → Contains all s → IsLong s → Contains s point → IsTip s point) where
  ring-kept : (ring wide : List Point) → IsRing ring → ((edge : Edge) → Contains (ring_edges ring) edge → Contains edges edge) → AreDistinct (ring_edges ring) → IsWidened all ring wide → IsRing wide
  ring-kept ring wide is among distinct (ways, goes, wide_is) = record {
    some = widened-some all ring ways wide each goes wide_is is.some;
    once = subst (AllPairs (λ point later. point ≢ later)) (sym wide_is) (ways-once all each clear edges tips (ring_edges ring) ways among (ring-starts ring is) distinct goes);
  }

  rings-kept : (rings widened : List (List Point)) → All IsRing rings → ((edge : Edge) → Contains (flat_map ring_edges rings) edge → Contains edges edge) → AreDistinct (flat_map ring_edges rings)
      → AllZip (IsWidened all) rings widened → All IsRing widened
  rings-kept [] [] are among distinct zip = All-nil IsRing
  rings-kept (ring ∷ rings) (wide ∷ widened) are among distinct zip =
      let Distinct : Edge → Edge → Type 0 = λ one other. ¬ (HaveSameEnds one other) in
      let first = ring_edges ring in
      let later = flat_map ring_edges rings in
      All-cons IsRing wide widened
      (ring-kept ring wide (All-head IsRing ring rings are) (λ edge held. among edge (Contains-append_left first later edge held)) (AllPairs-front Distinct first later distinct) zip.0)
      (rings-kept rings widened (All-tail IsRing ring rings are) (λ edge held. among edge (Contains-append_right first later edge held)) (AllPairs-behind Distinct first later distinct) zip.1)
  rings-kept [] (wide ∷ widened) are among distinct zip = absurd zip
  rings-kept (ring ∷ rings) [] are among distinct zip = absurd zip

-- Rings among whose edges no two have the same ends, and come to no inner point of a long stretch, stay rings if they are widened.
pub AreRings-widened : (all rings : List (List Point)) → All IsStretch all → AllPairs ClearIfLong all → All IsRing rings → AreDistinct (flat_map ring_edges rings)
    → ((edge : Edge) (point : Point) → Contains (flat_map ring_edges rings) edge → IsEnd edge point.x point.y → (s : List Point) → Contains all s → IsLong s → Contains s point → IsTip s point)
    → (widened : List (List Point)) → AllZip (IsWidened all) rings widened → All IsRing widened
AreRings-widened all rings each clear are distinct tips widened zip = rings-kept all each clear (flat_map ring_edges rings) tips rings widened are (λ edge held. held) distinct zip
