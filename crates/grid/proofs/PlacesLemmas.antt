-- What holds at each place of two lists.
use Rattle.std.proofs.Common.{◌≡◌, ℕ, ◌+◌, ◌<◌, List, length, get_or, set, inl, inr, arith, sym, subst}
use Rattle.std.proofs.lemmas.Bool.{cases_lt}
use Rattle.std.proofs.lemmas.List.{get_or-set_same, get_or-set_other}

-- one more place is written
pub set_below : {A B : Type 0} (R : A → B → Type 0) (xs : List A) (ys : List B) (i : ℕ) (y : B) (a : A) (b : B) → i < length ys
    → ((k : ℕ) → k < i → R (get_or xs k a) (get_or ys k b)) → R (get_or xs i a) y → (k : ℕ) → k < i + 1 → R (get_or xs k a) (get_or (set ys i y) k b)
set_below {A} {B} R xs ys i y a b within below here k upto =
    elim (cases_lt k i) [
      | inl under ↦
          let apart : k ≡ i → ⊥ = λ e. omega (arith, e, under) in
          subst (λ (z : B). R (get_or xs k a) z) (sym (get_or-set_other ys i k y b apart)) (below k under)
      | inr from ↦
          let at : k ≡ i = omega arith in
          subst (λ (j : ℕ). R (get_or xs j a) (get_or (set ys i y) j b)) (sym at)
          (subst (λ (z : B). R (get_or xs i a) z) (sym (get_or-set_same ys i y b within)) here)
    ]
