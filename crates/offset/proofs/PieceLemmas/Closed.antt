-- The raw curve of rings is closed: in each set of points as many of its edges start as end.
use Rattle.std.proofs.Common.{◌≡◌, ◌≢◌, ℕ, ◌+◌, ℤ, pos, ◌+ℤ◌, ◌-ℤ◌, Bool, true, false, cond, List, [], ◌∷◌, map, refl, ap, ap₂, sym, ◌∙◌, arith}
use Rattle.std.specs.List.{All, Contains, count_by, flat_map}
use Rattle.std.specs.Prelude.{int_lt}
use Rattle.std.proofs.lemmas.Int.{ints}
use Rattle.std.proofs.lemmas.List.Elements.{All-contains}
use Rattle.std.proofs.lemmas.List.Sums.{sum_by-cons}
use Rattle.plane.specs.declared.edge.Edge.{Edge}
use Rattle.plane.specs.declared.point.Point.{Point}
use Rattle.plane.specs.Ends.{edge_between, end_of, start_of}
use Rattle.overlay.specs.Contours.Rings.{has_two_ends, ring_edges}
use Rattle.overlay.specs.Fill.Pieces.{total}
use Rattle.noding.specs.Windings.{IsClosed, count}
use Rattle.offset.specs.Shape.{IsConvexAroundOrigin, neighbours, turn}
use Rattle.offset.specs.Raw.{fan, furthest, joint, moved, moved_edge, raw_edges, raw_of_ring, raw_of_two, ways}
use Rattle.overlay.proofs.FillLemmas.Premises.{All-among}
use Rattle.overlay.proofs.FillLemmas.Totals.{total-append, total-difference, total-same}
use Rattle.i_tree.proofs.RootLemmas.Joined.{All-behind, All-front}
use Rattle.offset.proofs.PieceLemmas.Convex.{fan-gains}
use Rattle.offset.proofs.PieceLemmas.Parts.{moved-exchanged, one-corner, total-flat, total-map}
use Rattle.offset.proofs.PieceLemmas.Rounds.{IsJoined, neighbours-held, ring-joined, total-firsts, total-seconds}

-- How many pass a test, as a sum.
pub counted : {X : Type 0} (test : X → Bool) (xs : List X) → pos (count_by test xs) ≡ total (λ x. count (test x)) xs
counted test [] = refl
counted test (x ∷ xs) = by (test x) (count_by test (x ∷ xs)) (count_by test xs) (total (λ y. count (test y)) xs) (sum_by-cons (λ y. cond (test y) 1 0) x xs) (counted test xs)
  where
    by : (t : Bool) (n m : ℕ) (z : ℤ) → n ≡ cond t 1 0 + m → pos m ≡ z → pos n ≡ (count t +ℤ z)
    by true n m z one rest = omega (arith, ints, one, rest)
    by false n m z none rest = omega (arith, ints, none, rest)

module _ (corners : List Point) (convex : IsConvexAroundOrigin corners) (give : Point → ℤ) where
  abbrev gain : Edge → ℤ
  gain edge = give (end_of edge) -ℤ give (start_of edge)

  -- where an edge that was moved begins
  abbrev begun : Edge → ℤ
  begun edge = give (moved (furthest corners edge) (start_of edge))

  -- the joint goes from where the edge ends that was moved, to where the next one begins
  pub joint-gains : (edge next : Edge) → start_of edge ≢ end_of edge → start_of next ≢ end_of next
      → total gain (joint corners edge next) ≡ (give (moved (furthest corners next) (end_of edge)) -ℤ give (moved (furthest corners edge) (end_of edge)))
  joint-gains edge next proper next_proper = by (int_lt (pos 0) (turn edge next)) refl
    where
      at : Point
      at = end_of edge

      to : Point → ℤ
      to corner = give (moved at corner)

      by : (t : Bool) → int_lt (pos 0) (turn edge next) ≡ t
          → total gain (cond t (map (moved_edge at) (fan corners edge next)) (ways corners edge next)) ≡ (give (moved (furthest corners next) at) -ℤ give (moved (furthest corners edge) at))
      by true is =
          total-map gain (moved_edge at) (fan corners edge next)
          ∙ fan-gains corners convex to edge next proper next_proper (omega (arith, ints, is))
          ∙ ap₂ (λ (c d : Point). give c -ℤ give d) (moved-exchanged at (furthest corners next)) (moved-exchanged at (furthest corners edge))
      by false is = around (has_two_ends (edge_between (furthest corners edge) (furthest corners next))) refl
        where
          around : (u : Bool) → has_two_ends (edge_between (furthest corners edge) (furthest corners next)) ≡ u
              → total gain (cond u (edge_between (moved (furthest corners edge) at) at ∷ edge_between at (moved (furthest corners next) at) ∷ []) []) ≡ (give (moved (furthest corners next) at) -ℤ give (moved (furthest corners edge) at))
          around true apart = omega (arith, ints)
          around false one =
              let same = ap (λ (c : Point). give (moved c at)) (one-corner (furthest corners edge) (furthest corners next) one) in
              omega (arith, ints, same)

  two-gains : (two : Edge × Edge) → start_of two.0 ≢ end_of two.0 → start_of two.1 ≢ end_of two.1 → IsJoined two → total gain (raw_of_two corners two) ≡ (begun two.1 -ℤ begun two.0)
  two-gains two proper next_proper joined =
      let rest = joint-gains two.0 two.1 proper next_proper in
      let same = ap (λ (at : Point). give (moved (furthest corners two.1) at)) joined in
      omega (arith, ints, rest, same)

  ring-gains : (ring : List Point) → All (λ edge. start_of edge ≢ end_of edge) (ring_edges ring) → total gain (raw_of_ring corners ring) ≡ pos 0
  ring-gains ring proper =
      total-flat gain (raw_of_two corners) pairs
      ∙ total-same (λ (two : Edge × Edge). total gain (raw_of_two corners two)) (λ (two : Edge × Edge). begun two.1 -ℤ begun two.0) pairs
      (All-among (λ (two : Edge × Edge). total gain (raw_of_two corners two) ≡ (begun two.1 -ℤ begun two.0)) pairs each)
      ∙ total-difference (λ (two : Edge × Edge). begun two.1) (λ (two : Edge × Edge). begun two.0) pairs
      ∙ nothing (total (λ (two : Edge × Edge). begun two.1) pairs) (total (λ (two : Edge × Edge). begun two.0) pairs) (total-seconds begun (ring_edges ring) ∙ sym (total-firsts begun (ring_edges ring)))
    where
      pairs : List (Edge × Edge)
      pairs = neighbours (ring_edges ring)

      each : (two : Edge × Edge) → Contains pairs two → total gain (raw_of_two corners two) ≡ (begun two.1 -ℤ begun two.0)
      each two held =
          let (first, second) = neighbours-held (ring_edges ring) two.0 two.1 held in
          two-gains two
          (All-contains (λ (e : Edge). start_of e ≢ end_of e) (ring_edges ring) two.0 proper first)
          (All-contains (λ (e : Edge). start_of e ≢ end_of e) (ring_edges ring) two.1 proper second)
          (All-contains IsJoined pairs two (ring-joined ring) held)

      nothing : (u v : ℤ) → u ≡ v → (u -ℤ v) ≡ pos 0
      nothing u v same = omega (arith, ints, same)

  pub raw-gains : (rings : List (List Point)) → All (λ edge. start_of edge ≢ end_of edge) (flat_map ring_edges rings) → total gain (raw_edges corners rings) ≡ pos 0
  raw-gains [] proper = refl
  raw-gains (ring ∷ rings) proper =
      let first = ring-gains ring (All-front (λ (e : Edge). start_of e ≢ end_of e) (ring_edges ring) (flat_map ring_edges rings) proper) in
      let rest = raw-gains rings (All-behind (λ (e : Edge). start_of e ≢ end_of e) (ring_edges ring) (flat_map ring_edges rings) proper) in
      let sum = total-append gain (raw_of_ring corners ring) (raw_edges corners rings) in
      omega (arith, ints, first, rest, sum)

-- The raw curve of rings is closed.
pub raw-closed : (corners : List Point) → IsConvexAroundOrigin corners → (rings : List (List Point)) → All (λ edge. start_of edge ≢ end_of edge) (flat_map ring_edges rings) → IsClosed (raw_edges corners rings)
raw-closed corners convex rings proper test =
    let raw = raw_edges corners rings in
    let none = raw-gains corners convex (λ point. count (test point)) rings proper in
    let difference = total-difference (λ (edge : Edge). count (test (end_of edge))) (λ (edge : Edge). count (test (start_of edge))) raw in
    let starts = counted (λ (edge : Edge). test (start_of edge)) raw in
    let ends = counted (λ (edge : Edge). test (end_of edge)) raw in
    omega (arith, ints, none, difference, starts, ends)
