-- Lists side by side, the one in another order, or cut: so can the other be.
use Rattle.std.proofs.Common.{◌≡◌, ◌<◌, ℕ, List, [], ◌∷◌, ◌++◌, length, get_or, refl, sym, ap, ◌∙◌, subst₂, arith, inl, inr}
use Rattle.std.specs.List.{AllZip, flat_map, swap}
use Rattle.std.specs.List.Sorted.{IsPermutation}
use Rattle.std.proofs.lemmas.Bool.{cases_eq}
use Rattle.std.proofs.lemmas.List.Edits.{Swapped, length-swap, swapped_from_swap}
use Rattle.std.proofs.lemmas.List.Sorted.{IsPermutation-keeps, IsPermutation-refl, IsPermutation-swap, IsPermutation-sym, IsPermutation-trans}
use Rattle.noding.proofs.ChainLemmas.Zips.{AllZip-at, AllZip-length, AllZip-places}

module _ {A B : Type 0} (R : A → B → Type 0) where
  -- ---- in another order

  -- what stood in the relation at two places does after both swaps
  swapped-at : (f : ℕ → A) (f' : ℕ → A) (g : ℕ → B) (g' : ℕ → B) (i j k : ℕ) → Swapped f f' i j → Swapped g g' i j → R (f i) (g i) → R (f j) (g j) → R (f k) (g k) → R (f' k) (g' k)
  swapped-at f f' g g' i j k first second at_i at_j at_k = elim (cases_eq k i) [
    | inl same ↦ subst₂ R (sym (ap f' same ∙ first.0)) (sym (ap g' same ∙ second.0)) at_j
    | inr away ↦ elim (cases_eq k j) [
      | inl same ↦ subst₂ R (sym (ap f' same ∙ first.1)) (sym (ap g' same ∙ second.1)) at_i
      | inr too ↦ subst₂ R (sym (first.2 k away too)) (sym (second.2 k away too)) at_k
    ]
  ]

  zip-swap : (xs : List A) (ys : List B) (i j : ℕ) → i < length ys → j < length ys → AllZip R xs ys → AllZip R (swap xs i j) (swap ys i j)
  zip-swap [] [] i j first second zip = absurd (omega (arith, first))
  zip-swap [] (y ∷ ys) i j first second zip = absurd zip
  zip-swap (x ∷ xs) [] i j first second zip = absurd zip
  zip-swap (x ∷ xs) (y ∷ ys) i j first second zip =
      let all = x ∷ xs in
      let others = y ∷ ys in
      let long = AllZip-length R all others zip in
      let size = length-swap all i j in
      let other_size = length-swap others i j in
      AllZip-places R (swap all i j) (swap others i j) x y (omega (arith, long, size, other_size))
      (λ k within. swapped-at (λ n. get_or all n x) (λ n. get_or (swap all i j) n x) (λ n. get_or others n y) (λ n. get_or (swap others i j) n y) i j k
      (swapped_from_swap all (swap all i j) i j x (omega (arith, first, long)) (omega (arith, second, long)) refl)
      (swapped_from_swap others (swap others i j) i j y first second refl)
      (AllZip-at R all others x y i zip (omega (arith, first, long)))
      (AllZip-at R all others x y j zip (omega (arith, second, long)))
      (AllZip-at R all others x y k zip (omega (arith, within, size))))

  -- The one in the order of the other.
  pub record Reordered (xs : List A) (others : List B) : Type 0 where
    pub items : List A
    pub moved : IsPermutation items xs
    pub zip : AllZip R items others

  pub zip-permuted : (xs : List A) (ys others : List B) → AllZip R xs ys → IsPermutation others ys → Reordered xs others
  zip-permuted xs ys others zip moved =
      IsPermutation-keeps ys (λ (list : List B). Reordered xs list) (record { items = xs; moved = IsPermutation-refl xs; zip = zip })
      (λ list i j first second so_far. once list i j first second so_far) others (IsPermutation-sym others ys moved)
    where
      once : (list : List B) (i j : ℕ) → i < length list → j < length list → Reordered xs list → Reordered xs (swap list i j)
      once list i j first second so_far =
          let long = AllZip-length R so_far.items list so_far.zip in record {
            items = swap so_far.items i j;
            moved = IsPermutation-trans _ _ _ (IsPermutation-sym so_far.items (swap so_far.items i j) (IsPermutation-swap so_far.items (swap so_far.items i j) i j (omega (arith, first, long)) (omega (arith, second, long)) refl)) so_far.moved;
            zip = zip-swap so_far.items list i j first second so_far.zip;
          }

  -- ---- cut

  record InTwo (xs : List A) (ys zs : List B) : Type 0 where
    front : List A
    back : List A
    is : xs ≡ front ++ back
    first : AllZip R front ys
    second : AllZip R back zs

  in_two : (xs : List A) (ys zs : List B) → AllZip R xs (ys ++ zs) → InTwo xs ys zs
  in_two xs [] zs zip = record { front = []; back = xs; is = refl; first = tt; second = zip }
  in_two [] (y ∷ ys) zs zip = absurd zip
  in_two (x ∷ xs) (y ∷ ys) zs (of, zip) =
      let rest = in_two xs ys zs zip in record {
        front = x ∷ rest.front;
        back = rest.back;
        is = ap (λ (list : List A). x ∷ list) rest.is;
        first = (of, rest.first);
        second = rest.second;
      }

  -- The one cut as the other is.
  pub record CutAlike (xs : List A) (lists : List (List B)) : Type 0 where
    pub parts : List (List A)
    pub is : flat_map (λ part. part) parts ≡ xs
    pub zip : AllZip (AllZip R) parts lists

  pub zip-cut : (xs : List A) (lists : List (List B)) → AllZip R xs (flat_map (λ list. list) lists) → CutAlike xs lists
  zip-cut [] [] zip = record { parts = []; is = refl; zip = tt }
  zip-cut (x ∷ xs) [] zip = absurd zip
  zip-cut xs (list ∷ lists) zip =
      let two = in_two xs list (flat_map (λ (l : List B). l) lists) zip in
      let rest = zip-cut two.back lists two.second in record {
        parts = two.front ∷ rest.parts;
        is = ap (λ (l : List A). two.front ++ l) rest.is ∙ sym two.is;
        zip = (two.first, rest.zip);
      }
