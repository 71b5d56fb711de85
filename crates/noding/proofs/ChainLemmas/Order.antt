-- The order of stops.
use Rattle.std.proofs.Common.{◌≡◌, inl, inr, ℕ, ◌<◌, ℤ, ◌<ℤ◌, true, List, [], ◌∷◌, get_or, Ordering, Less, Equal, Greater, refl, subst, arith}
use Rattle.std.specs.Bool.{⊤}
use Rattle.std.specs.List.{AllPairs}
use Rattle.std.specs.List.Sorted.{IsStrictlySortedBy}
use Rattle.std.specs.Ordering.{MatchOrdering, int_cmp, nat_cmp, ordering_then, eq_by_cmp, is_eq}
use Rattle.std.proofs.lemmas.Cmp.{ranked, int_ranked}
use Rattle.std.proofs.lemmas.List.Kept.{AllPairs-cons}
use Rattle.std.proofs.lemmas.Map.Keys.{sorted_tail}
use Rattle.std.proofs.lemmas.Map.Views.{All-after_first}
use Rattle.noding.specs.Stops.{IsBefore}
use Rattle.noding.specs.contracts.stops.StopOrd.TheImpl.{ghosts as stop_order}
use Rattle.noding.specs.declared.stops.Stop.{Stop}

abbrev stop_at : ℕ → ℤ → ℤ → Stop
stop_at place x y = record {
  place = place;
  along_x = x;
  along_y = y;
}

-- what the comparison of two stops at the same x of one edge says of them
ranked_y : (p q : ℕ) (x x' y y' : ℤ) (o : Ordering) → p ≡ q → x ≡ x' → MatchOrdering o (y <ℤ y') (y ≡ y') (y' <ℤ y) → MatchOrdering o (IsBefore (stop_at p x y) (stop_at q x' y')) (stop_at p x y ≡ stop_at q x' y') ⊤
ranked_y p q x x' y y' Less place same said = inr (place, inr (same, said))
ranked_y p q x x' y y' Equal place same said = cc
ranked_y p q x x' y y' Greater place same said = tt

-- and of two at one edge
ranked_x : (p q : ℕ) (x x' y y' : ℤ) (o : Ordering) → p ≡ q → MatchOrdering o (x <ℤ x') (x ≡ x') (x' <ℤ x)
    → MatchOrdering (ordering_then o (int_cmp y y')) (IsBefore (stop_at p x y) (stop_at q x' y')) (stop_at p x y ≡ stop_at q x' y') ⊤
ranked_x p q x x' y y' Less place said = inr (place, inl said)
ranked_x p q x x' y y' Equal place said = ranked_y p q x x' y y' (int_cmp y y') place said (int_ranked y y' (int_cmp y y') refl)
ranked_x p q x x' y y' Greater place said = tt

ranked_place : (p q : ℕ) (x x' y y' : ℤ) (o : Ordering) → MatchOrdering o (p < q) (p ≡ q) (q < p)
    → MatchOrdering (ordering_then o (ordering_then (int_cmp x x') (int_cmp y y'))) (IsBefore (stop_at p x y) (stop_at q x' y')) (stop_at p x y ≡ stop_at q x' y') ⊤
ranked_place p q x x' y y' Less said = inl said
ranked_place p q x x' y y' Equal said = ranked_x p q x x' y y' (int_cmp x x') said (int_ranked x x' (int_cmp x x') refl)
ranked_place p q x x' y y' Greater said = tt

-- what the comparison of two stops says of them
ranked_stops : (a b : Stop) → MatchOrdering (stop_order.cmp a b) (IsBefore a b) (a ≡ b) ⊤
ranked_stops a b = ranked_place a.place b.place a.along_x b.along_x a.along_y b.along_y (nat_cmp a.place b.place) (ranked a.place b.place (nat_cmp a.place b.place) refl)

-- so of two where the first compares Less it comes before the second
precedes : (a b : Stop) → stop_order.cmp a b ≡ Less → IsBefore a b
precedes a b less = subst (λ (o : Ordering). MatchOrdering o (IsBefore a b) (a ≡ b) ⊤) less (ranked_stops a b)

-- and two that compare Equal are one
pub stop-same : (a b : Stop) → eq_by_cmp stop_order.cmp a b ≡ true → a ≡ b
stop-same a b is = go (stop_order.cmp a b) (ranked_stops a b) is
  where
    go : (o : Ordering) → MatchOrdering o (IsBefore a b) (a ≡ b) ⊤ → is_eq o ≡ true → a ≡ b
    go Less said same = cc
    go Equal said same = said
    go Greater said same = cc

-- of a list that is strictly sorted each item compares Less with all later ones
less_far : {X : Type 0} (cmp : X → X → Ordering) (items : List X) → IsStrictlySortedBy cmp items → AllPairs (λ a b. cmp a b ≡ Less) items
less_far cmp [] sorted = λ i j d below within. absurd (omega (arith, within))
less_far cmp (x ∷ items) sorted = AllPairs-cons (λ a b. cmp a b ≡ Less) x items (All-after_first cmp x items sorted) (less_far cmp items (sorted_tail cmp x items sorted))

-- stops that are strictly sorted come one before the other
pub stops-in_order : (stops : List Stop) → IsStrictlySortedBy stop_order.cmp stops → AllPairs IsBefore stops
stops-in_order stops sorted i j d below within = precedes (get_or stops i d) (get_or stops j d) (less_far stop_order.cmp stops sorted i j d below within)
