-- All parts, once they are sorted.
use Rattle.std.proofs.Common.{◌≡◌, ◌≢◌, ◌⊎◌, inl, inr, ◌<◌, ◌≤◌, ◌<ℤ◌, false, List, length, get_or, Ordering, Less, Equal, Greater, refl, sym, arith}
use Rattle.std.specs.List.Sorted.{IsPermutation, IsSorted}
use Rattle.std.specs.Ordering.{MatchOrdering, int_cmp, nat_cmp, ordering_then, is_lt}
use Rattle.std.proofs.lemmas.Cmp.{ranked, int_ranked}
use Rattle.std.proofs.lemmas.List.Elements.{All-weaker}
use Rattle.std.proofs.lemmas.List.Sorted.{All-permutation, Contains-permutation, ranks_by, sorted_far}
use Rattle.std.proofs.lemmas.Option.{slice_get_within}
use Rattle.plane.specs.Pairs.Parts.{AreParts, Lists, IsPartOf, NotBehind, part_of}
use Rattle.plane.specs.contracts.pairs.parts.PartOrd.TheImpl.{ghosts as part_order}
use Rattle.plane.specs.contracts.pairs.parts.PartOrd.TheImpl.Laws.{total-law}
use Rattle.plane.specs.declared.pairs.parts.Part.{Part}
use Rattle.plane.specs.declared.pairs.strips.Strips.{Strips}
use Rattle.plane.proofs.PairsLemmas.Bags.{AllPairs-permutation}
use Rattle.plane.specs.declared.pairs.items.Bounds.{Bounds}

-- what isn't less by the order of parts stands in no earlier strip, nor in the same one with a lesser x, nor there with a
-- lesser place
not_behind : (first second : Part) → is_lt (part_order.cmp second first) ≡ false → NotBehind first second
not_behind first second at_least =
    by_strip (nat_cmp second.strip first.strip) (ranked second.strip first.strip (nat_cmp second.strip first.strip) refl) at_least
  where
    by_place : (o : Ordering) → MatchOrdering o (second.place < first.place) (second.place ≡ first.place) (first.place < second.place) → is_lt o ≡ false → first.place ≤ second.place
    by_place Less below at_least = cc
    by_place Equal same at_least = omega (arith, same)
    by_place Greater above at_least = omega (arith, above)

    by_left : (o : Ordering) → MatchOrdering o (second.left <ℤ first.left) (second.left ≡ first.left) (first.left <ℤ second.left)
        → is_lt (ordering_then o (nat_cmp second.place first.place)) ≡ false → (first.left <ℤ second.left) ⊎ ((first.left ≡ second.left) × (first.place ≤ second.place))
    by_left Less below at_least = cc
    by_left Equal same at_least = inr (sym same, by_place (nat_cmp second.place first.place) (ranked second.place first.place (nat_cmp second.place first.place) refl) at_least)
    by_left Greater above at_least = inl above

    by_strip : (o : Ordering) → MatchOrdering o (second.strip < first.strip) (second.strip ≡ first.strip) (first.strip < second.strip)
        → is_lt (ordering_then o (ordering_then (int_cmp second.left first.left) (nat_cmp second.place first.place))) ≡ false → NotBehind first second
    by_strip Less below at_least = cc
    by_strip Equal same at_least = inr (sym same, by_left (int_cmp second.left first.left) (int_ranked second.left first.left (int_cmp second.left first.left) refl) at_least)
    by_strip Greater above at_least = inl above

-- all parts, once they are sorted
pub AreParts-sorted : {X : Type 0} (bounds : X → Bounds) (strips : Strips) (items : List X) (parts sorted : List Part) → Lists bounds strips items (λ place _. place < length items) parts
    → IsPermutation parts sorted → IsSorted part_order.cmp sorted → AreParts bounds strips items sorted
AreParts-sorted bounds strips items parts sorted lists same rises = record {
  each = λ place strip item stands reaches.
      Contains-permutation parts sorted (part_of place (bounds item) strip) same (lists.each place strip item stands reaches (slice_get_within items place item stands));
  of = All-permutation (IsPartOf bounds strips items) parts sorted same
      (All-weaker (λ part. IsPartOf bounds strips items part × (part.place < length items)) (IsPartOf bounds strips items) (λ part (is, _). is) parts lists.of);
  once = AllPairs-permutation (λ first second. first ≢ second) (λ first second differ is. differ (sym is)) parts sorted same lists.once;
  in_order = λ i j d below within. not_behind (get_or sorted i d) (get_or sorted j d)
      (sorted_far (λ a b. is_lt (part_order.cmp a b)) (ranks_by total-law (λ (part : Part). part)) sorted rises i j d (omega arith) within);
}
