-- Rings that run the other way round: their edges are those of the rings from end to start, so they wind as often the other way.
use Rattle.std.proofs.Common.{◌≡◌, ◌≢◌, ◌⊎◌, inl, inr, ℕ, zero, suc, ◌<◌, ◌-◌, nat_eq, Bool, true, false, cond, ℤ, pos, ◌+ℤ◌, ◌-ℤ◌, List, [], ◌∷◌, ◌++◌, get_or, length, map, reverse, refl, ap, ap₂, subst, sym, ◌∙◌, arith}
use Rattle.std.specs.List.{All, AllPairs, Contains, flat_map}
use Rattle.std.specs.List.Sorted.{IsPermutation}
use Rattle.std.proofs.lemmas.Int.{ints}
use Rattle.std.proofs.lemmas.Bool.{eqb-false, eqb-true}
use Rattle.std.proofs.lemmas.List.{get_or-reverse, length-reverse, map-append, reverse-append}
use Rattle.std.proofs.lemmas.List.Elements.{All-contains}
use Rattle.std.proofs.lemmas.List.Sorted.{Contains-permutation, IsPermutation-append, IsPermutation-refl, IsPermutation-reverse, IsPermutation-sym}
use Rattle.i_tree.proofs.RootLemmas.Joined.{AllPairs-to_map}
use Rattle.plane.specs.declared.edge.Edge.{Edge}
use Rattle.plane.specs.declared.point.Point.{Point}
use Rattle.plane.specs.Ends.{edge_between, end_of, reversed, start_of}
use Rattle.plane.specs.Meet.Edges.{RationalPoint}
use Rattle.plane.specs.Meet.Kinds.{IsEnd}
use Rattle.plane.proofs.PairsLemmas.Bags.{AllPairs-permutation, Contains-from_map}
use Rattle.noding.specs.Meeting.{MeetAtEnds}
use Rattle.noding.specs.Windings.{pieces, winding}
use Rattle.noding.proofs.SnapLemmas.Reversed.{IsOf-reversed}
use Rattle.overlay.specs.Contours.Rings.{ring_edges}
use Rattle.overlay.specs.Fill.Filled.{AreDistinct, AreNoded, HaveSameEnds}
use Rattle.overlay.specs.Fill.Pieces.{total}
use Rattle.overlay.proofs.ContourLemmas.Counts.{rings-closed}
use Rattle.overlay.proofs.FillLemmas.Premises.{All-among}
use Rattle.overlay.proofs.FillLemmas.Totals.{total-difference, total-none, total-permutation, total-same}
use Rattle.overlay.proofs.JoinedLemmas.Runs.{pieces-joined}
use Rattle.offset.specs.Raw.{backwards, place_back}
use Rattle.offset.proofs.PieceLemmas.Parts.{passed_by-reversed, total-map}
use Rattle.offset.proofs.PieceLemmas.Sides.{passed_by, winding-passed}
use Rattle.offset.proofs.SideLemmas.Inner.{BoundOnce}

-- ---- the points

-- There are as many, and they stand the other way round.
pub length-backwards : (ring : List Point) → length (backwards ring) ≡ length ring
length-backwards [] = refl
length-backwards (first ∷ others) = ap suc (length-reverse others)

pub backwards-at : (ring : List Point) (index : ℕ) (d : Point) → index < length ring → get_or (backwards ring) index d ≡ get_or ring (place_back index (length ring)) d
backwards-at [] index d inside = absurd (omega (arith, inside))
backwards-at (first ∷ others) zero d inside = by (nat_eq zero 0) refl
  where
    by : (t : Bool) → nat_eq zero 0 ≡ t → first ≡ get_or (first ∷ others) (cond t 0 (length (first ∷ others) - zero)) d
    by true is = refl
    by false isnt = absurd (eqb-false zero 0 isnt refl)
backwards-at (first ∷ others) (suc i) d inside = by (nat_eq (suc i) 0) refl
  where
    by : (t : Bool) → nat_eq (suc i) 0 ≡ t → get_or (reverse others) i d ≡ get_or (first ∷ others) (cond t 0 (length (first ∷ others) - suc i)) d
    by true is = absurd (let same = eqb-true (suc i) 0 is in omega (arith, same))
    by false isnt =
        get_or-reverse others i d (omega (arith, inside))
        ∙ ap (λ (n : ℕ). get_or (first ∷ others) n d) (let place : suc (length others - 1 - i) ≡ length (first ∷ others) - suc i = omega (arith, inside) in place)

-- ---- the edges

pieces-back : (chain : List Point) → pieces (reverse chain) ≡ reverse (map reversed (pieces chain))
pieces-back [] = refl
pieces-back (one ∷ []) = refl
pieces-back (from ∷ to ∷ others) =
    let first : reverse (from ∷ to ∷ others) ≡ reverse (to ∷ others) ++ from ∷ [] = reverse-append (from ∷ []) (to ∷ others) in
    let second : reverse (to ∷ others) ≡ reverse others ++ to ∷ [] = reverse-append (to ∷ []) others in
    ap pieces (first ∙ ap (λ (points : List Point). points ++ from ∷ []) second)
    ∙ pieces-joined (reverse others) (from ∷ []) to
    ∙ ap (λ (edges : List Edge). edges ++ edge_between to from ∷ []) (ap pieces (sym second) ∙ pieces-back (to ∷ others))
    ∙ sym (reverse-append (edge_between to from ∷ []) (map reversed (pieces (to ∷ others))))

edges-back : (ring : List Point) → ring_edges (backwards ring) ≡ reverse (map reversed (ring_edges ring))
edges-back [] = refl
edges-back (first ∷ others) = ap pieces (sym turned) ∙ pieces-back (first ∷ (others ++ first ∷ []))
  where
    turned : reverse (first ∷ (others ++ first ∷ [])) ≡ first ∷ (reverse others ++ first ∷ [])
    turned = reverse-append (first ∷ []) (others ++ first ∷ []) ∙ ap (λ (points : List Point). points ++ first ∷ []) (reverse-append others (first ∷ []))

-- The edges of rings backwards.
abbrev pub back_edges : List (List Point) → List Edge
back_edges rings = flat_map ring_edges (map backwards rings)

-- They are those of the rings from end to start, in some order.
pub all-back : (rings : List (List Point)) → IsPermutation (map reversed (flat_map ring_edges rings)) (back_edges rings)
all-back [] = IsPermutation-refl []
all-back (ring ∷ rings) =
    subst (λ (edges : List Edge). IsPermutation edges (ring_edges (backwards ring) ++ back_edges rings)) (sym (map-append reversed (ring_edges ring) (flat_map ring_edges rings)))
    (IsPermutation-append (map reversed (ring_edges ring)) (ring_edges (backwards ring)) (map reversed (flat_map ring_edges rings)) (back_edges rings)
    (subst (λ (edges : List Edge). IsPermutation (map reversed (ring_edges ring)) edges) (sym (edges-back ring)) (IsPermutation-reverse (map reversed (ring_edges ring))))
    (all-back rings))

pub held-back : (rings : List (List Point)) (edge : Edge) → Contains (back_edges rings) edge → Contains (flat_map ring_edges rings) (reversed edge)
held-back rings edge held =
    let (other, among, is) = Contains-from_map reversed (flat_map ring_edges rings) edge (Contains-permutation (back_edges rings) (map reversed (flat_map ring_edges rings)) edge (IsPermutation-sym (map reversed (flat_map ring_edges rings)) (back_edges rings) (all-back rings)) held) in
    subst (λ (e : Edge). Contains (flat_map ring_edges rings) e) (ap reversed is) among

-- ---- how they wind

-- They wind as often as the rings, the other way.
pub winding-back : (rings : List (List Point)) (point : RationalPoint) → winding (back_edges rings) point ≡ (pos 0 -ℤ winding (flat_map ring_edges rings) point)
winding-back rings point =
    winding-passed (back_edges rings) point
    ∙ total-permutation passes (map reversed edges) (back_edges rings) (all-back rings)
    ∙ total-map passes reversed edges
    ∙ total-same (λ (e : Edge). passes (reversed e)) (λ (e : Edge). pos 0 -ℤ passes e) edges (All-among (λ (e : Edge). passes (reversed e) ≡ (pos 0 -ℤ passes e)) edges (λ e held. passed_by-reversed e point))
    ∙ total-difference (λ (e : Edge). pos 0) passes edges
    ∙ ap₂ (λ (a b : ℤ). a -ℤ b) (total-none (λ (e : Edge). pos 0) edges (All-among (λ (e : Edge). pos 0 ≡ pos 0) edges (λ e held. refl))) (sym (winding-passed edges point))
  where
    edges : List Edge
    edges = flat_map ring_edges rings

    passes : Edge → ℤ
    passes edge = passed_by edge point

-- ---- how they meet

end-back : (edge : Edge) (point : RationalPoint) → IsEnd (reversed edge) point → IsEnd edge point
end-back edge point (inl at) = inr at
end-back edge point (inr at) = inl at

meet-back : (one other : Edge) (point : RationalPoint) → MeetAtEnds (reversed one) (reversed other) point → MeetAtEnds one other point
meet-back one other point (inl (first, second)) = inl (end-back one point first, end-back other point second)
meet-back one other point (inr (inl same)) = inr (inl (ap reversed same))
meet-back one other point (inr (inr back)) = inr (inr (ap reversed back))

same-back : (one other : Edge) → HaveSameEnds (reversed one) (reversed other) → HaveSameEnds one other
same-back one other (inl same) = inl (ap reversed same)
same-back one other (inr back) = inr (ap reversed back)

same-exchanged : (one other : Edge) → HaveSameEnds one other → HaveSameEnds other one
same-exchanged one other (inl same) = inl (sym same)
same-exchanged one other (inr back) = inr (sym (ap reversed back))

-- None of their edges is a point if none of the rings' is.
pub two-back : (rings : List (List Point)) → All (λ edge. start_of edge ≢ end_of edge) (flat_map ring_edges rings) → All (λ edge. start_of edge ≢ end_of edge) (back_edges rings)
two-back rings proper =
    All-among (λ (e : Edge). start_of e ≢ end_of e) (back_edges rings)
    (λ edge held same. All-contains (λ (e : Edge). start_of e ≢ end_of e) (flat_map ring_edges rings) (reversed edge) proper (held-back rings edge held) (sym same))

-- Rings that bound a region bound what is outside of it where they run the other way round.
pub bound-back : (rings : List (List Point)) → BoundOnce (flat_map ring_edges rings) → BoundOnce (back_edges rings)
bound-back rings bounds = record {
  closed = λ test. rings-closed test (map backwards rings);
  noded = λ one other point held other_held of other_of. meet-back one other point
      (bounds.noded (reversed one) (reversed other) point (held-back rings one held) (held-back rings other other_held) (IsOf-reversed one point of) (IsOf-reversed other point other_of));
  distinct = AllPairs-permutation IsApart apart-exchanged (map reversed edges) (back_edges rings) (all-back rings)
      (AllPairs-to_map IsApart reversed edges (λ i j d below within same. bounds.distinct i j d below within (same-back _ _ same)));
  two_ends = two-back rings bounds.two_ends;
  outer = pos 0 -ℤ (bounds.outer +ℤ pos 1);
  once = λ point. turned (winding edges point) (winding (back_edges rings) point) (winding-back rings point) (bounds.once point);
}
  where
    edges : List Edge
    edges = flat_map ring_edges rings

    IsApart : Edge → Edge → Type 0
    IsApart one other = ¬ (HaveSameEnds one other)

    apart-exchanged : (one other : Edge) → IsApart one other → IsApart other one
    apart-exchanged one other differ same = differ (same-exchanged other one same)

    turned : (w z : ℤ) → z ≡ (pos 0 -ℤ w) → (w ≡ bounds.outer) ⊎ (w ≡ (bounds.outer +ℤ pos 1)) → (z ≡ (pos 0 -ℤ (bounds.outer +ℤ pos 1))) ⊎ (z ≡ ((pos 0 -ℤ (bounds.outer +ℤ pos 1)) +ℤ pos 1))
    turned w z is (inl none) = inr (omega (arith, ints, is, none))
    turned w z is (inr one) = inl (omega (arith, ints, is, one))

-- Outside of these is what is inside of the rings.
pub outer-back : (rings : List (List Point)) (bounds : BoundOnce (flat_map ring_edges rings)) → (bound-back rings bounds).outer ≡ (pos 0 -ℤ (bounds.outer +ℤ pos 1))
unfolding bound-back
outer-back rings bounds = refl
