-- Pairs of places that are sorted, and stand there once then.
use Rattle.std.proofs.Common.{◌≡◌, ◌≢◌, ◌∙◌, ℕ, ◌<◌, Bool, true, List, [], ◌∷◌, Ordering, Less, Equal, Greater, get_or, refl, ap, ap₂, rules, arith}
use Rattle.std.specs.Prelude.{◌&&◌, nat_eq}
use Rattle.std.specs.Cmp.{IsTotalOrder, then_total, on_total, both_tied}
use Rattle.std.specs.List.{AllPairs, dedup}
use Rattle.std.specs.List.Sorted.{IsPermutation, IsSorted, IsStrictlySortedBy}
use Rattle.std.specs.Ordering.{MatchOrdering, nat_cmp, ordering_then, eq_by_cmp, is_eq}
use Rattle.std.proofs.lemmas.Cmp.{eq_by_cmp_equiv, nat_cmp_total, ranked}
use Rattle.std.proofs.lemmas.List.Kept.{AllPairs-cons, IsStrictlySortedBy-dedup}
use Rattle.std.proofs.lemmas.Map.Keys.{sorted_tail}
use Rattle.std.proofs.lemmas.Map.Views.{All-after_first}
use Rattle.plane.specs.Gains.{HaveSame}
use Rattle.plane.proofs.GainsLemmas.{HaveSame-sorted}

abbrev Pair : Type 0
Pair = ℕ × ℕ

-- pairs are in order by their first places, and then by their second ones
abbrev pair_cmp : Pair → Pair → Ordering
pair_cmp one other = ordering_then (nat_cmp one.0 other.0) (nat_cmp one.1 other.1)

pair_total : IsTotalOrder pair_cmp
pair_total = then_total (on_total (λ (pair : Pair). pair.0) nat_cmp_total) (on_total (λ (pair : Pair). pair.1) nat_cmp_total)

-- pairs that compare Equal are one
same_second : (a b c d : ℕ) (o : Ordering) → a ≡ b → MatchOrdering o (c < d) (c ≡ d) (d < c) → is_eq o ≡ true → ◌≡◌ {A = Pair} (a, c) (b, d)
same_second a b c d Less same said is = cc
same_second a b c d Equal same said is = ap₂ (λ (m n : ℕ). (m, n)) same said
same_second a b c d Greater same said is = cc

same_first : (a b c d : ℕ) (o : Ordering) → MatchOrdering o (a < b) (a ≡ b) (b < a) → is_eq (ordering_then o (nat_cmp c d)) ≡ true → ◌≡◌ {A = Pair} (a, c) (b, d)
same_first a b c d Less said is = cc
same_first a b c d Equal said is = same_second a b c d (nat_cmp c d) said (ranked c d (nat_cmp c d) refl) is
same_first a b c d Greater said is = cc

pair-same : (one other : Pair) → eq_by_cmp pair_cmp one other ≡ true → one ≡ other
pair-same one other is = same_first one.0 other.0 one.1 other.1 (nat_cmp one.0 other.0) (ranked one.0 other.0 (nat_cmp one.0 other.0) refl) is

-- and two places that `==` takes for one
places_tie : (m n : ℕ) → nat_eq m n ≡ is_eq (nat_cmp m n)
places_tie m n = search rules

pub pair_ties : (one other : Pair) → (nat_eq one.0 other.0 && nat_eq one.1 other.1) ≡ eq_by_cmp pair_cmp one other
pair_ties one other = both_tied (nat_eq one.0 other.0) (nat_eq one.1 other.1) (nat_cmp one.0 other.0) (nat_cmp one.1 other.1) (places_tie one.0 other.0) (places_tie one.1 other.1)

-- of a list that is strictly sorted each item compares Less with all later ones
less_far : {X : Type 0} (cmp : X → X → Ordering) (items : List X) → IsStrictlySortedBy cmp items → AllPairs (λ a b. cmp a b ≡ Less) items
less_far cmp [] sorted = λ i j d below within. absurd (omega (arith, within))
less_far cmp (x ∷ items) sorted = AllPairs-cons (λ a b. cmp a b ≡ Less) x items (All-after_first cmp x items sorted) (less_far cmp items (sorted_tail cmp x items sorted))

module _ {same : Pair → Pair → Bool} (ties : (x y : Pair) → same x y ≡ eq_by_cmp pair_cmp x y) (before sorted : List Pair) where
  pub HaveSame-pairs : IsPermutation before sorted → HaveSame before (dedup same sorted)
  HaveSame-pairs moved = HaveSame-sorted pair_total pair-same ties before sorted moved

  pub once-pairs : IsSorted pair_cmp sorted → AllPairs (λ pair later. pair ≢ later) (dedup same sorted)
  once-pairs rising i j d below within is =
      let less = less_far pair_cmp (dedup same sorted) (IsStrictlySortedBy-dedup pair_total ties sorted rising) i j d below within in
      let itself = (eq_by_cmp_equiv pair_total).refl (get_or (dedup same sorted) i d) in
      never (pair_cmp (get_or (dedup same sorted) i d) (get_or (dedup same sorted) i d)) (ap (pair_cmp (get_or (dedup same sorted) i d)) is ∙ less) itself
    where
      never : (o : Ordering) → o ≡ Less → is_eq o ≡ true → ⊥
      never Less is itself = absurd cc
      never Equal is itself = absurd cc
      never Greater is itself = absurd cc
