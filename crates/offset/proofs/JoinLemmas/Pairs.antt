-- Sums over the edges of rings, each with the next one.
use Rattle.std.proofs.Common.{◌≡◌, ◌≢◌, ℤ, pos, ◌+ℤ◌, ◌-ℤ◌, List, [], ◌∷◌, ◌++◌, refl, ap, ap₂, sym, ◌∙◌, arith}
use Rattle.std.specs.List.{All, Contains, flat_map}
use Rattle.std.proofs.lemmas.Int.{ints}
use Rattle.std.proofs.lemmas.List.Elements.{All-contains}
use Rattle.plane.specs.declared.edge.Edge.{Edge}
use Rattle.plane.specs.declared.point.Point.{Point}
use Rattle.plane.specs.Ends.{end_of, start_of}
use Rattle.overlay.specs.Contours.Rings.{ring_edges}
use Rattle.overlay.specs.Fill.Pieces.{total}
use Rattle.overlay.proofs.FillLemmas.Premises.{All-among}
use Rattle.overlay.proofs.FillLemmas.Totals.{total-append, total-difference, total-same, total-sum}
use Rattle.overlay.proofs.GroupingLemmas.Bags.{Contains-flat_map, Contains-in_flat_map}
use Rattle.offset.specs.Joins.{corners_of}
use Rattle.offset.specs.Shape.{neighbours}
use Rattle.offset.proofs.PieceLemmas.Parts.{total-flat}
use Rattle.offset.proofs.PieceLemmas.Rounds.{IsJoined, neighbours-held, ring-joined, total-firsts, total-seconds}

-- What is made of each of them and the next one, ring by ring, gives the sum of what is made of all.
pub total-corners : (give : Edge → ℤ) (make : Edge × Edge → List Edge) (rings : List (List Point))
    → total give (flat_map (λ ring. flat_map make (neighbours (ring_edges ring))) rings) ≡ total (λ two. total give (make two)) (corners_of rings)
total-corners give make [] = refl
total-corners give make (ring ∷ rings) =
    total-append give (flat_map make (neighbours (ring_edges ring))) (flat_map (λ ring. flat_map make (neighbours (ring_edges ring))) rings)
    ∙ ap₂ (λ (y z : ℤ). y +ℤ z) (total-flat give make (neighbours (ring_edges ring))) (total-corners give make rings)
    ∙ sym (total-append (λ two. total give (make two)) (neighbours (ring_edges ring)) (corners_of rings))

-- What the first ones give comes to what all edges give, and so does what the second ones give.
firsts-all : (give : Edge → ℤ) (rings : List (List Point)) → total (λ two. give two.0) (corners_of rings) ≡ total give (flat_map ring_edges rings)
firsts-all give [] = refl
firsts-all give (ring ∷ rings) =
    total-append (λ (two : Edge × Edge). give two.0) (neighbours (ring_edges ring)) (corners_of rings)
    ∙ ap₂ (λ (y z : ℤ). y +ℤ z) (total-firsts give (ring_edges ring)) (firsts-all give rings)
    ∙ sym (total-append give (ring_edges ring) (flat_map ring_edges rings))

seconds-all : (give : Edge → ℤ) (rings : List (List Point)) → total (λ two. give two.1) (corners_of rings) ≡ total give (flat_map ring_edges rings)
seconds-all give [] = refl
seconds-all give (ring ∷ rings) =
    total-append (λ (two : Edge × Edge). give two.1) (neighbours (ring_edges ring)) (corners_of rings)
    ∙ ap₂ (λ (y z : ℤ). y +ℤ z) (total-seconds give (ring_edges ring)) (seconds-all give rings)
    ∙ sym (total-append give (ring_edges ring) (flat_map ring_edges rings))

-- Where what is made of each counts as it does, with its own part, and goes from where it is begun to where the next one is, all
-- that is made counts as the edges do, with all parts.
pub total-joined : (give : Edge → ℤ) (make : Edge × Edge → List Edge) (own : Edge → ℤ) (part : Edge × Edge → ℤ) (begun : Edge → ℤ) (rings : List (List Point))
    → ((two : Edge × Edge) → Contains (corners_of rings) two → total give (make two) ≡ ((own two.0 +ℤ part two) +ℤ (begun two.1 -ℤ begun two.0)))
    → total give (flat_map (λ ring. flat_map make (neighbours (ring_edges ring))) rings) ≡ (total own (flat_map ring_edges rings) +ℤ total part (corners_of rings))
total-joined give make own part begun rings each =
    let all = total-corners give make rings in
    let same = total-same (λ (two : Edge × Edge). total give (make two)) (λ (two : Edge × Edge). (own two.0 +ℤ part two) +ℤ (begun two.1 -ℤ begun two.0)) (corners_of rings)
    (All-among (λ (two : Edge × Edge). total give (make two) ≡ ((own two.0 +ℤ part two) +ℤ (begun two.1 -ℤ begun two.0))) (corners_of rings) each) in
    let parted = total-sum (λ (two : Edge × Edge). own two.0 +ℤ part two) (λ (two : Edge × Edge). begun two.1 -ℤ begun two.0) (corners_of rings) in
    let owns = total-sum (λ (two : Edge × Edge). own two.0) part (corners_of rings) in
    let goes = total-difference (λ (two : Edge × Edge). begun two.1) (λ (two : Edge × Edge). begun two.0) (corners_of rings) in
    let first = firsts-all own rings in
    let starts = firsts-all begun rings in
    let ends = seconds-all begun rings in
    omega (arith, ints, all, same, parted, owns, goes, first, starts, ends)

-- The one follows the other, and both have two ends.
pub record AreFollowing (rings : List (List Point)) (two : Edge × Edge) : Type 0 where
  pub proper : start_of two.0 ≢ end_of two.0
  pub next_proper : start_of two.1 ≢ end_of two.1
  pub joined : IsJoined two
  pub held : Contains (flat_map ring_edges rings) two.0

pub corner-of : (rings : List (List Point)) → All (λ edge. start_of edge ≢ end_of edge) (flat_map ring_edges rings) → (two : Edge × Edge) → Contains (corners_of rings) two → AreFollowing rings two
corner-of rings proper two held =
    let (ring, among, pair) = Contains-flat_map (λ (ring : List Point). neighbours (ring_edges ring)) rings two held in
    let (first, second) = neighbours-held (ring_edges ring) two.0 two.1 pair in
    let one = Contains-in_flat_map ring_edges rings ring two.0 among first in
    let other = Contains-in_flat_map ring_edges rings ring two.1 among second in
    record {
      proper = All-contains (λ (e : Edge). start_of e ≢ end_of e) (flat_map ring_edges rings) two.0 proper one;
      next_proper = All-contains (λ (e : Edge). start_of e ≢ end_of e) (flat_map ring_edges rings) two.1 proper other;
      joined = All-contains IsJoined (neighbours (ring_edges ring)) two (ring-joined ring) pair;
      held = one;
    }
