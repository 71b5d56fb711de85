-- Where no two edges of a polygon have the same ends, no edge is of two of its rings.
use Rattle.std.proofs.Common.{◌≢◌, ap, inl, ◌<◌, ℕ, zero, suc, List, [], ◌∷◌, get_or, length, refl, arith}
use Rattle.std.specs.List.{All, Contains, flat_map}
use Rattle.std.proofs.lemmas.List.Elements.{All-contains, Contains-get_or}
use Rattle.i_tree.proofs.RootLemmas.Joined.{AllPairs-across, AllPairs-behind}
use Rattle.plane.specs.declared.edge.Edge.{Edge}
use Rattle.plane.specs.declared.point.Point.{Point}
use Rattle.overlay.specs.Contours.Rings.{ring_edges}
use Rattle.overlay.specs.Fill.Filled.{AreDistinct, HaveSameEnds}
use Rattle.overlay.proofs.GroupingLemmas.Bags.{Contains-in_flat_map}

abbrev Differ : Edge → Edge → Type 0
Differ one other = ¬ (HaveSameEnds one other)

-- no edge is of the first ring and of a later one
first-apart : (ring : List Point) (rings : List (List Point)) → AreDistinct (flat_map ring_edges (ring ∷ rings)) → (place : ℕ) → place < length rings
    → (edge : Edge) → Contains (ring_edges ring) edge → ¬ (Contains (ring_edges (get_or rings place [])) edge)
first-apart ring rings distinct place within edge held held_too =
    let later = flat_map ring_edges rings in
    let across : All (λ one. All (Differ one) later) (ring_edges ring) = AllPairs-across Differ (ring_edges ring) later distinct in
    let inside : Contains later edge = Contains-in_flat_map ring_edges rings (get_or rings place []) edge (Contains-get_or rings place [] within) held_too in
    All-contains (Differ edge) later edge (All-contains (λ (one : Edge). All (Differ one) later) (ring_edges ring) edge across held) inside (inl refl)

-- nor of any two
pub rings-apart : (rings : List (List Point)) → AreDistinct (flat_map ring_edges rings) → (one other : ℕ) → one < length rings → other < length rings → one ≢ other
    → (edge : Edge) → Contains (ring_edges (get_or rings one [])) edge → ¬ (Contains (ring_edges (get_or rings other [])) edge)
rings-apart [] distinct one other within within_too apart edge held held_too = absurd (omega (arith, within))
rings-apart (ring ∷ rings) distinct zero zero within within_too apart edge held held_too = absurd (apart refl)
rings-apart (ring ∷ rings) distinct zero (suc other) within within_too apart edge held held_too = first-apart ring rings distinct other (omega (arith, within_too)) edge held held_too
rings-apart (ring ∷ rings) distinct (suc one) zero within within_too apart edge held held_too = first-apart ring rings distinct one (omega (arith, within)) edge held_too held
rings-apart (ring ∷ rings) distinct (suc one) (suc other) within within_too apart edge held held_too =
    rings-apart rings (AllPairs-behind Differ (ring_edges ring) (flat_map ring_edges rings) distinct) one other
    (omega (arith, within)) (omega (arith, within_too)) (λ same. apart (ap suc same)) edge held held_too
