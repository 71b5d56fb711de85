-- Lists as bags: what a permutation keeps when a list is filtered.
use Rattle.std.proofs.Common.{◌≡◌, ℕ, zero, suc, ◌<◌, Bool, true, false, ◌||◌, cond, List, [], ◌∷◌, ◌++◌, length, get_or, set, refl, subst, arith}
use Rattle.std.specs.List.{filter, swap}
use Rattle.std.specs.List.Sorted.{IsPermutation}
use Rattle.std.proofs.lemmas.List.Edits.{swap_is}
use Rattle.std.proofs.lemmas.List.Sorted.{IsPermutation-refl, IsPermutation-sym, IsPermutation-trans, IsPermutation-cons, IsPermutation-middle, IsPermutation-keeps}

module _ {X : Type 0} where
  module _ (p : X → Bool) where
    -- where the same elements of two lists pass, they do with one more in front
    kept_behind : (x : X) (xs ys : List X) → IsPermutation (filter p xs) (filter p ys) → IsPermutation (filter p (x ∷ xs)) (filter p (x ∷ ys))
    kept_behind x xs ys same = behind (p x)
      where
        behind : (passes : Bool) → IsPermutation (cond passes (x ∷ filter p xs) (filter p xs)) (cond passes (x ∷ filter p ys) (filter p ys))
        behind true = IsPermutation-cons x (filter p xs) (filter p ys) same
        behind false = same

    -- the first two elements change places
    kept_turned : (x y : X) (xs : List X) → IsPermutation (filter p (x ∷ y ∷ xs)) (filter p (y ∷ x ∷ xs))
    kept_turned x y xs = turned (p x) (p y)
      where
        turned : (first second : Bool) → IsPermutation (cond first (x ∷ cond second (y ∷ filter p xs) (filter p xs)) (cond second (y ∷ filter p xs) (filter p xs))) (cond second (y ∷ cond first (x ∷ filter p xs) (filter p xs)) (cond first (x ∷ filter p xs) (filter p xs)))
        turned true true = IsPermutation-middle (x ∷ []) y (filter p xs)
        turned true false = IsPermutation-refl (x ∷ filter p xs)
        turned false true = IsPermutation-refl (y ∷ filter p xs)
        turned false false = IsPermutation-refl (filter p xs)

    -- the first element changes places with a later one
    kept_first : (x d : X) (xs : List X) (i : ℕ) → i < length xs → IsPermutation (filter p (x ∷ xs)) (filter p (get_or xs i d ∷ set xs i x))
    kept_first x d [] i within = absurd (omega arith)
    kept_first x d (y ∷ ys) zero within = kept_turned x y ys
    kept_first x d (y ∷ ys) (suc i) within =
        IsPermutation-trans _ _ _ (kept_turned x y ys)
        (IsPermutation-trans _ _ _ (kept_behind y (x ∷ ys) (get_or ys i d ∷ set ys i x) (kept_first x d ys i (omega arith)))
        (kept_turned y (get_or ys i d) (set ys i x)))

    -- any two elements change places
    kept_set : (d : X) (xs : List X) (i j : ℕ) → i < length xs → j < length xs → IsPermutation (filter p xs) (filter p (set (set xs i (get_or xs j d)) j (get_or xs i d)))
    kept_set d [] i j first second = absurd (omega arith)
    kept_set d (x ∷ xs) zero zero first second = IsPermutation-refl (filter p (x ∷ xs))
    kept_set d (x ∷ xs) zero (suc j) first second = kept_first x d xs j (omega arith)
    kept_set d (x ∷ xs) (suc i) zero first second = kept_first x d xs i (omega arith)
    kept_set d (x ∷ xs) (suc i) (suc j) first second =
        kept_behind x xs (set (set xs i (get_or xs j d)) j (get_or xs i d)) (kept_set d xs i j (omega arith) (omega arith))

    kept_swap : (xs : List X) (i j : ℕ) → i < length xs → j < length xs → IsPermutation (filter p xs) (filter p (swap xs i j))
    kept_swap [] i j first second = absurd (omega arith)
    kept_swap (x ∷ xs) i j first second =
        subst (λ (ys : List X). IsPermutation (filter p (x ∷ xs)) (filter p ys)) (swap_is (x ∷ xs) i j x first second) (kept_set x (x ∷ xs) i j first second)

    -- of two lists with the same elements, the same elements pass
    pub IsPermutation-filter : (xs ys : List X) → IsPermutation xs ys → IsPermutation (filter p xs) (filter p ys)
    IsPermutation-filter xs ys same =
        IsPermutation-keeps xs (λ (zs : List X). IsPermutation (filter p xs) (filter p zs)) (IsPermutation-refl (filter p xs))
        (λ zs i j first second so_far. IsPermutation-trans _ _ _ so_far (kept_swap zs i j first second)) ys same

  -- where no element passes both of two tests, those that pass one of them are those that pass the first and those that pass
  -- the second
  pub IsPermutation-filter_or : (p q : X → Bool) → ((x : X) → p x ≡ true → q x ≡ false) → (xs : List X) → IsPermutation (filter (λ x. p x || q x) xs) (filter p xs ++ filter q xs)
  IsPermutation-filter_or p q apart [] = IsPermutation-refl []
  IsPermutation-filter_or p q apart (x ∷ xs) = joined (p x) (q x) (apart x) (IsPermutation-filter_or p q apart xs)
    where
      joined : (first second : Bool) → (first ≡ true → second ≡ false) → IsPermutation (filter (λ x. p x || q x) xs) (filter p xs ++ filter q xs)
          → IsPermutation (cond (first || second) (x ∷ filter (λ x. p x || q x) xs) (filter (λ x. p x || q x) xs)) (cond first (x ∷ filter p xs) (filter p xs) ++ cond second (x ∷ filter q xs) (filter q xs))
      joined true true never rest = absurd (let no : true ≡ false = never refl in cc)
      joined true false never rest = IsPermutation-cons x _ _ rest
      joined false true never rest =
          IsPermutation-trans _ _ _ (IsPermutation-cons x _ _ rest) (IsPermutation-sym _ _ (IsPermutation-middle (filter p xs) x (filter q xs)))
      joined false false never rest = rest
