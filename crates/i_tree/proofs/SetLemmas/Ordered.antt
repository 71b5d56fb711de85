-- A way back from the last pair, along which the keys fall.
use Rattle.std.proofs.Common.{◌≡◌, ◌≢◌, ℕ, ◌+◌, ◌<◌, ◌≤◌, List, [], ◌∷◌, ◌++◌, length, refl, sym, ap, ◌∙◌, subst, arith, append_assoc, length-append}
use Rattle.std.specs.Cmp.{IsTotalOrder}
use Rattle.std.specs.List.{AllPairs}
use Rattle.std.specs.declared.cmp.Ordering.{Ordering}
use Rattle.std.specs.declared.cmp.Ordering.TheVariants.{Less}
use Rattle.std.proofs.lemmas.List.Elements.{All-nil, All-cons, All-head}
use Rattle.std.proofs.lemmas.List.Kept.{AllPairs-cons}
use Rattle.i_tree.proofs.RootLemmas.Lists.{AllPairs-head}
use Rattle.i_tree.proofs.RootLemmas.Joined.{last_cut, AllPairs-nil, AllPairs-behind}
use Rattle.i_tree.proofs.SetLemmas.Search.{below_from_ordered, ordered_from_below, last_handle-end}
use Rattle.i_tree.specs.Set.Pairs.{IsOrdered}
use Rattle.i_tree.specs.Rb.Shape.{last_handle}

module _ {K V : Type 0} (key_of : V → K) (cmp : K → K → Ordering) where
  abbrev Below : ℕ × V → ℕ × V → Type 0
  Below earlier later = cmp (key_of earlier.1) (key_of later.1) ≡ Less

  -- from this handle on, of so many pairs, the keys rise
  pub record IsRisingFrom (pairs : List (ℕ × V)) (here count : ℕ) : Type 0 where
    pub front : List (ℕ × V)
    pub value : V
    pub back : List (ℕ × V)
    pub cut : pairs ≡ front ++ (here, value) ∷ back
    pub rises : AllPairs Below ((here, value) ∷ back)
    pub counted : length back + 1 ≡ count

  -- the pair right before the one at this handle
  pub record IsBefore (pairs : List (ℕ × V)) (before here : ℕ) (value : V) (back : List (ℕ × V)) : Type 0 where
    pub front : List (ℕ × V)
    pub lower : V
    pub cut : pairs ≡ front ++ (before, lower) ∷ ((here, value) ∷ back)

  -- pairs end with the one at their last handle
  cut_last : (pairs : List (ℕ × V)) → 0 < length pairs → (front : List (ℕ × V)) × (value : V) × (pairs ≡ front ++ (last_handle pairs, value) ∷ [])
  cut_last [] some = absurd (omega (arith, some))
  cut_last (first ∷ rest) some =
      let (front, last, is) = last_cut first rest in
      let handle_is : last_handle (first ∷ rest) ≡ last.0 = ap last_handle is ∙ last_handle-end front last in
      (front, last.1, is ∙ ap (λ handle. front ++ (handle, last.1) ∷ []) (sym handle_is))

  pub rising_from_last : (pairs : List (ℕ × V)) (here : ℕ) → here ≡ last_handle pairs → 0 < length pairs → IsRisingFrom pairs here 1
  rising_from_last pairs here is some =
      let found = cut_last pairs some in
      record {
        front = found.0;
        value = found.1;
        back = [];
        cut = found.2 ∙ ap (λ handle. found.0 ++ (handle, found.1) ∷ []) (sym is);
        rises = AllPairs-cons Below (here, found.1) [] (All-nil (Below (here, found.1))) (AllPairs-nil Below);
        counted = omega arith;
      }

  pub before_rising : (pairs : List (ℕ × V)) (before here count : ℕ) (rising : IsRisingFrom pairs here count) → count < length pairs → before ≡ last_handle rising.front → IsBefore pairs before here rising.value rising.back
  before_rising pairs before here count rising inside is =
      let pair : ℕ × V = (here, rising.value) in
      let found = cut_last rising.front (omega (arith, inside, rising.counted, ap length rising.cut, length-append rising.front (pair ∷ rising.back))) in
      record {
        front = found.0;
        lower = found.1;
        cut = rising.cut ∙ ap (λ pairs. pairs ++ pair ∷ rising.back) found.2
            ∙ append_assoc found.0 ((last_handle rising.front, found.1) ∷ []) (pair ∷ rising.back)
            ∙ ap (λ handle. found.0 ++ (handle, found.1) ∷ (pair ∷ rising.back)) (sym is);
      }

  module _ (o : IsTotalOrder cmp) where
    pub rising_more : (pairs : List (ℕ × V)) (before here count : ℕ) (rising : IsRisingFrom pairs here count) (lower : IsBefore pairs before here rising.value rising.back)
        → cmp (key_of lower.lower) (key_of rising.value) ≡ Less → IsRisingFrom pairs before (count + 1)
    rising_more pairs before here count rising lower below =
        let pair : ℕ × V = (here, rising.value) in
        let first : ℕ × V = (before, lower.lower) in
        let above = AllPairs-head Below pair rising.back rising.rises in
        record {
          front = lower.front;
          value = lower.lower;
          back = pair ∷ rising.back;
          cut = lower.cut;
          rises = AllPairs-cons Below first (pair ∷ rising.back)
              (All-cons (Below first) pair rising.back below (λ k d within. o.trans (key_of lower.lower) (key_of rising.value) (key_of _) below (above k d within)))
              rising.rises;
          counted = omega (arith, rising.counted);
        }

    pub not_ordered : (pairs : List (ℕ × V)) (before here : ℕ) (value : V) (back : List (ℕ × V)) (lower : IsBefore pairs before here value back)
        → cmp (key_of lower.lower) (key_of value) ≢ Less → ¬ (IsOrdered key_of cmp pairs)
    not_ordered pairs before here value back lower not_below ordered =
        let pair : ℕ × V = (here, value) in
        let first : ℕ × V = (before, lower.lower) in
        let below = subst (AllPairs Below) lower.cut (below_from_ordered key_of o pairs ordered) in
        not_below (All-head (Below first) pair back (AllPairs-head Below first (pair ∷ back) (AllPairs-behind Below lower.front (first ∷ (pair ∷ back)) below)))

    pub ordered_all : (pairs : List (ℕ × V)) (here count : ℕ) → IsRisingFrom pairs here count → length pairs ≤ count → IsOrdered key_of cmp pairs
    ordered_all pairs here count rising all =
        let pair : ℕ × V = (here, rising.value) in
        ordered_from_below key_of o pairs
        (subst (AllPairs Below) (sym (rising.cut ∙ none_in_front rising.front (pair ∷ rising.back) (omega (arith, all, rising.counted, ap length rising.cut, length-append rising.front (pair ∷ rising.back))))) rising.rises)
      where
        none_in_front : (front rest : List (ℕ × V)) → length front ≡ 0 → front ++ rest ≡ rest
        none_in_front [] rest none = refl
        none_in_front (first ∷ front) rest none = absurd (omega (arith, none))

    pub ordered_none : (pairs : List (ℕ × V)) → length pairs ≡ 0 → IsOrdered key_of cmp pairs
    ordered_none [] none = λ i j d below within. absurd (omega arith)
    ordered_none (pair ∷ pairs) none = absurd (omega (arith, none))

  -- the pairs at this handle and right before it, where the way goes on
  pub record IsOnPath (pairs : List (ℕ × V)) (before here count : ℕ) : Type 0 where
    pub rising : IsRisingFrom pairs here count
    pub lower : IsBefore pairs before here rising.value rising.back

  pub path_on : (pairs old : List (ℕ × V)) (before here count end : ℕ) → old ≡ pairs → (0 < length pairs → IsRisingFrom pairs here count) → count < end → end ≡ length old
      → ((front : List (ℕ × V)) (value : V) (back : List (ℕ × V)) → old ≡ front ++ (here, value) ∷ back → before ≡ last_handle front) → IsOnPath pairs before here count
  path_on pairs old before here count end same from inside end_is says =
      let rising = from (omega (arith, inside, end_is, ap length same)) in
      record {
        rising = rising;
        lower = before_rising pairs before here count rising (omega (arith, inside, end_is, ap length same)) (says rising.front rising.value rising.back (same ∙ rising.cut));
      }
