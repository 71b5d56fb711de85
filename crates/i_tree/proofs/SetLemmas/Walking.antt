-- A step of a walk over a set: what it yields, and what is left.
use Rattle.std.proofs.Common.{◌≡◌, ◌≢◌, ◌≤◌, ◌+◌, ◌-◌, ℕ, List, [], ◌∷◌, ◌++◌, length, take, drop, refl, sym, ap, ◌∙◌, arith, length-drop}
use Rattle.std.specs.Iterator.{YieldsFirstRef}
use Rattle.std.proofs.iter.runs.Sources.{from_front}
use Rattle.std.proofs.lemmas.List.{drop-drop, take-append-drop}
use Rattle.i_tree.specs.Rb.Shape.{first_handle}
use Rattle.i_tree.specs.Set.Iterating.{values_left, WalksInOrder}

module _ {V : Type 0} where
  -- where so many pairs are left of these, the first is at this handle
  pub record IsNext (pairs : List (ℕ × V)) (left next : ℕ) : Type 0 where
    pub front : List (ℕ × V)
    pub value : V
    pub back : List (ℕ × V)
    pub cut : pairs ≡ front ++ (next, value) ∷ back
    pub here : drop (length pairs - left) pairs ≡ (next, value) ∷ back
    pub rest : drop (length pairs - (left - 1)) pairs ≡ back

  pub is_next : (pairs : List (ℕ × V)) (left next : ℕ) → left ≢ 0 → left ≤ length pairs → next ≡ first_handle (drop (length pairs - left) pairs) → IsNext pairs left next
  is_next pairs left next some few is = by_rest (drop (length pairs - left) pairs) refl
    where
      by_rest : (part : List (ℕ × V)) → drop (length pairs - left) pairs ≡ part → IsNext pairs left next
      by_rest [] at = absurd (some (omega (arith, few, ap length at, length-drop (length pairs - left) pairs)))
      by_rest (pair ∷ back) at =
          let same : next ≡ pair.0 = is ∙ ap first_handle at in
          let here : drop (length pairs - left) pairs ≡ (next, pair.1) ∷ back = at ∙ ap (λ (handle : ℕ). (handle, pair.1) ∷ back) (sym same) in
          let step : length pairs - (left - 1) ≡ length pairs - left + 1 = omega (arith, some, few) in
          record {
            front = take (length pairs - left) pairs;
            value = pair.1;
            back = back;
            cut = sym (take-append-drop (length pairs - left) pairs) ∙ ap (λ (part : List (ℕ × V)). take (length pairs - left) pairs ++ part) here;
            here = here;
            rest = ap (λ (n : ℕ). drop n pairs) step ∙ sym (drop-drop 1 (length pairs - left) pairs) ∙ ap (drop 1) at;
          }

  -- where none is left, nothing is still to come
  pub none_left : (pairs : List (ℕ × V)) (left : ℕ) → left ≡ 0 → drop (length pairs - left) pairs ≡ []
  none_left pairs left none = by_rest (drop (length pairs - left) pairs) refl
    where
      by_rest : (part : List (ℕ × V)) → drop (length pairs - left) pairs ≡ part → drop (length pairs - left) pairs ≡ []
      by_rest [] at = at
      by_rest (pair ∷ back) at = absurd (omega (arith, none, ap length at, length-drop (length pairs - left) pairs))

pub walks_in_order : {K V C : Type 0} (pairs : C → List (ℕ × V)) → WalksInOrder K pairs
walks_in_order {K} pairs = from_front (YieldsFirstRef (values_left {K = K} pairs)) (λ value. value.now) (values_left pairs) (λ s t ends. ap length ends.0) (λ s x t gives. gives)
