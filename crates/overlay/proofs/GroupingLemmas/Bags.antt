-- Lists of lists as bags: what a permutation of the lists keeps.
use Rattle.std.proofs.Common.{ℕ, zero, suc, ◌<◌, List, [], ◌∷◌, ◌++◌, length, get_or, set, sym, subst, subst₂, append_assoc, arith, inl, inr}
use Rattle.std.specs.List.{Contains, flat_map, swap}
use Rattle.std.specs.List.Sorted.{IsPermutation}
use Rattle.std.proofs.lemmas.List.Edits.{swap_is}
use Rattle.std.proofs.lemmas.List.Elements.{Contains-append_cases, Contains-append_left, Contains-append_right}
use Rattle.std.proofs.lemmas.List.Sorted.{IsPermutation-append_comm, IsPermutation-append_left, IsPermutation-append_right, IsPermutation-keeps, IsPermutation-refl, IsPermutation-trans}
use Rattle.i_tree.proofs.RootLemmas.Lists.{Contains-here, Contains-there}

module _ {X Y : Type 0} (f : X → List Y) where
  behind : (x : X) (xs ys : List X) → IsPermutation (flat_map f xs) (flat_map f ys) → IsPermutation (flat_map f (x ∷ xs)) (flat_map f (x ∷ ys))
  behind x xs ys same = IsPermutation-append_right (f x) (flat_map f xs) (flat_map f ys) same

  -- the first two change places
  exchanged : (x y : X) (xs : List X) → IsPermutation (flat_map f (x ∷ y ∷ xs)) (flat_map f (y ∷ x ∷ xs))
  exchanged x y xs =
      let P : List Y → List Y → Type 0 = λ one other. IsPermutation one other in
      subst₂ P (append_assoc (f x) (f y) (flat_map f xs)) (append_assoc (f y) (f x) (flat_map f xs))
      (IsPermutation-append_left (flat_map f xs) (f x ++ f y) (f y ++ f x) (IsPermutation-append_comm (f x) (f y)))

  -- the first changes places with a later one
  with_first : (x d : X) (xs : List X) (i : ℕ) → i < length xs → IsPermutation (flat_map f (x ∷ xs)) (flat_map f (get_or xs i d ∷ set xs i x))
  with_first x d [] i within = absurd (omega (arith, within))
  with_first x d (y ∷ ys) zero within = exchanged x y ys
  with_first x d (y ∷ ys) (suc i) within =
      IsPermutation-trans _ _ _ (exchanged x y ys)
      (IsPermutation-trans _ _ _ (behind y (x ∷ ys) (get_or ys i d ∷ set ys i x) (with_first x d ys i (omega (arith, within))))
      (exchanged y (get_or ys i d) (set ys i x)))

  -- any two change places
  at_two : (d : X) (xs : List X) (i j : ℕ) → i < length xs → j < length xs → IsPermutation (flat_map f xs) (flat_map f (set (set xs i (get_or xs j d)) j (get_or xs i d)))
  at_two d [] i j first second = absurd (omega (arith, first))
  at_two d (x ∷ xs) zero zero first second = IsPermutation-refl (flat_map f (x ∷ xs))
  at_two d (x ∷ xs) zero (suc j) first second = with_first x d xs j (omega (arith, second))
  at_two d (x ∷ xs) (suc i) zero first second = with_first x d xs i (omega (arith, first))
  at_two d (x ∷ xs) (suc i) (suc j) first second =
      behind x xs (set (set xs i (get_or xs j d)) j (get_or xs i d)) (at_two d xs i j (omega (arith, first)) (omega (arith, second)))

  by_swap : (xs : List X) (i j : ℕ) → i < length xs → j < length xs → IsPermutation (flat_map f xs) (flat_map f (swap xs i j))
  by_swap [] i j first second = absurd (omega (arith, first))
  by_swap (x ∷ xs) i j first second =
      subst (λ (ys : List X). IsPermutation (flat_map f (x ∷ xs)) (flat_map f ys)) (swap_is (x ∷ xs) i j x first second) (at_two x (x ∷ xs) i j first second)

  -- what lists have has the same elements in whatever order these lists stand
  pub IsPermutation-flat_map : (xs ys : List X) → IsPermutation xs ys → IsPermutation (flat_map f xs) (flat_map f ys)
  IsPermutation-flat_map xs ys same =
      IsPermutation-keeps xs (λ (zs : List X). IsPermutation (flat_map f xs) (flat_map f zs)) (IsPermutation-refl (flat_map f xs))
      (λ zs i j first second so_far. IsPermutation-trans _ _ _ so_far (by_swap zs i j first second)) ys same

  -- an element is of one of the lists
  pub Contains-flat_map : (xs : List X) (y : Y) → Contains (flat_map f xs) y → (x : X) × Contains xs x × Contains (f x) y
  Contains-flat_map [] y (k, within, is) = absurd (omega (arith, within))
  Contains-flat_map (x ∷ xs) y held =
      let others : Contains (flat_map f xs) y → (one : X) × Contains (x ∷ xs) one × Contains (f one) y = λ later. (let (one, among, inside) = Contains-flat_map xs y later in (one, Contains-there x xs one among, inside)) in
      elim (Contains-append_cases (f x) (flat_map f xs) y held) [
        | inl here ↦ (x, Contains-here x xs, here)
        | inr later ↦ others later
      ]

  pub Contains-in_flat_map : (xs : List X) (x : X) (y : Y) → Contains xs x → Contains (f x) y → Contains (flat_map f xs) y
  Contains-in_flat_map [] x y (k, within, is) held = absurd (omega (arith, within))
  Contains-in_flat_map (first ∷ xs) x y (zero, within, is) held = Contains-append_left (f first) (flat_map f xs) y (subst (λ (z : X). Contains (f z) y) (sym is) held)
  Contains-in_flat_map (first ∷ xs) x y (suc k, within, is) held = Contains-append_right (f first) (flat_map f xs) y (Contains-in_flat_map xs x y (k, omega (arith, within), is) held)
