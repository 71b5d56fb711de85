-- Lists that gain items, also one by one for each item of another list, and that are sorted then.
use Rattle.std.proofs.Common.{◌≡◌, ◌⊎◌, ◌↔◌, inl, inr, ℕ, ◌<◌, ◌≤◌, ◌+◌, Bool, true, List, [], ◌∷◌, ◌++◌, Some, Ordering, get_or, length, take, sym, ap, ◌∙◌, subst, ⊎_elim, arith}
use Rattle.std.specs.Cmp.{IsEquivalence, IsTotalOrder}
use Rattle.std.specs.List.{All, Contains, dedup, slice_get}
use Rattle.std.specs.List.Sorted.{IsPermutation}
use Rattle.std.specs.Ordering.{eq_by_cmp}
use Rattle.std.proofs.lemmas.Cmp.{eq_by_cmp_equiv}
use Rattle.std.proofs.lemmas.List.{take_all, take_more}
use Rattle.std.proofs.lemmas.List.Elements.{Contains-append_left, Contains-push, Contains-push_cases}
use Rattle.std.proofs.lemmas.List.Kept.{Contains-dedup, Contains-from_dedup}
use Rattle.std.proofs.lemmas.List.Sorted.{Contains-permutation, IsPermutation-sym}
use Rattle.std.proofs.lemmas.Option.{same_Some, slice_get-get_or, slice_get_within}
use Rattle.plane.specs.Gains.{GainsThese, HaveSame, IsOfSome}

-- what stands at a place of a list is of it
pub held-at : {X : Type 0} (items : List X) (i : ℕ) (x : X) → slice_get items i ≡ Some x → Contains items x
held-at items i x is = let within = slice_get_within items i x is in (i, within, same_Some _ _ (sym (slice_get-get_or items i x within) ∙ is))

-- and what is of it stands at a place
pub place-of : {X : Type 0} (items : List X) (x : X) → Contains items x → (i : ℕ) × (slice_get items i ≡ Some x)
place-of items x (i, within, at) = (i, slice_get-get_or items i x within ∙ ap Some at)

-- nothing is gained
pub gains-none : {Y : Type 0} (Is : Y → Type 0) (before : List Y) → ((y : Y) → ¬ (Is y)) → GainsThese Is before before
gains-none Is before none y = (inl, ⊎_elim (λ held. held) (λ is. absurd (none y is)))

-- the same items said in other words
pub gains-same : {Y : Type 0} (Is Now : Y → Type 0) (before after : List Y) → ((y : Y) → Is y → Now y) → ((y : Y) → Now y → Is y) → GainsThese Is before after → GainsThese Now before after
gains-same Is Now before after to from gains y =
    (λ held. ⊎_elim inl (λ is. inr (to y is)) ((gains y).0 held), ⊎_elim (λ held. (gains y).1 (inl held)) (λ is. (gains y).1 (inr (from y is))))

-- some are gained, and then others
pub gains-join : {Y : Type 0} (Is Now : Y → Type 0) (before now after : List Y) → GainsThese Is before now → GainsThese Now now after → GainsThese (λ y. Is y ⊎ Now y) before after
gains-join Is Now before now after gains more y = (to, from)
  where
    to : Contains after y → Contains before y ⊎ (Is y ⊎ Now y)
    to held = ⊎_elim (λ earlier. ⊎_elim inl (λ is. inr (inl is)) ((gains y).0 earlier)) (λ is. inr (inr is)) ((more y).0 held)

    from : Contains before y ⊎ (Is y ⊎ Now y) → Contains after y
    from (inl held) = (more y).1 (inl ((gains y).1 (inl held)))
    from (inr (inl is)) = (more y).1 (inl ((gains y).1 (inr is)))
    from (inr (inr is)) = (more y).1 (inr is)

-- one more
pub gains-one : {Y : Type 0} (before : List Y) (last : Y) → GainsThese (λ y. y ≡ last) before (before ++ last ∷ [])
gains-one {Y} before last y =
    (λ held. ⊎_elim inl (λ same. inr (sym same)) (Contains-push_cases before last y held), ⊎_elim (Contains-append_left before (last ∷ []) y) there)
  where
    there : y ≡ last → Contains (before ++ last ∷ []) y
    there same = subst (λ (x : Y). Contains (before ++ last ∷ []) x) (sym same) (Contains-push before last)

-- an item that is the only one of its kind
pub gains-only : {Y : Type 0} (Is : Y → Type 0) (before after : List Y) (last : Y) → Is last → ((y : Y) → Is y → y ≡ last) → after ≡ before ++ last ∷ [] → GainsThese Is before after
gains-only {Y} Is before after last is only same =
    subst (λ (items : List Y). GainsThese Is before items) (sym same)
    (gains-same (λ y. y ≡ last) Is before (before ++ last ∷ []) (λ y equal. subst Is (sym equal) is) only (gains-one before last))

-- what an empty list gains is all that it has
pub gained-all : {Y : Type 0} (Is : Y → Type 0) (items : List Y) → GainsThese Is [] items → (y : Y) → Contains items y ↔ Is y
gained-all Is items gains y = (λ held. ⊎_elim (λ (k, within, at). absurd (omega (arith, within))) (λ is. is) ((gains y).0 held), λ is. (gains y).1 (inr is))

-- ---- items for each of a list

module _ {X Y : Type 0} (Is : X → Y → Type 0) where
  pub none_of : (y : Y) → ¬ (IsOfSome Is [] y)
  none_of y (x, (k, within, at), is) = absurd (omega (arith, within))

  -- one more of the list
  pub gains-more : (items : List X) (last : X) (before now after : List Y) → GainsThese (IsOfSome Is items) before now → GainsThese (Is last) now after
      → GainsThese (IsOfSome Is (items ++ last ∷ [])) before after
  gains-more items last before now after gains more =
      gains-same (λ y. IsOfSome Is items y ⊎ Is last y) (IsOfSome Is (items ++ last ∷ [])) before after to from
      (gains-join (IsOfSome Is items) (Is last) before now after gains more)
    where
      to : (y : Y) → IsOfSome Is items y ⊎ Is last y → IsOfSome Is (items ++ last ∷ []) y
      to y (inl (x, held, is)) = (x, Contains-append_left items (last ∷ []) x held, is)
      to y (inr is) = (last, Contains-push items last, is)

      from : (y : Y) → IsOfSome Is (items ++ last ∷ []) y → IsOfSome Is items y ⊎ Is last y
      from y (x, held, is) = ⊎_elim (λ earlier. inl (x, earlier, is)) (λ same. inr (subst (λ (x : X). Is x y) (sym same) is)) (Contains-push_cases items last x held)

-- one more item of a list, and all of them
pub gains-next : {X Y : Type 0} (Is : X → Y → Type 0) (items : List X) (k : ℕ) (d : X) (before now after : List Y) → k < length items → GainsThese (IsOfSome Is (take k items)) before now → GainsThese (Is (get_or items k d)) now after
    → GainsThese (IsOfSome Is (take (k + 1) items)) before after
gains-next {X} Is items k d before now after within gains more =
    subst (λ (done : List X). GainsThese (IsOfSome Is done) before after) (sym (take_more items k d within)) (gains-more Is (take k items) (get_or items k d) before now after gains more)

pub gains-all : {X Y : Type 0} (Is : X → Y → Type 0) (items : List X) (k : ℕ) (before after : List Y) → length items ≤ k → GainsThese (IsOfSome Is (take k items)) before after → GainsThese (IsOfSome Is items) before after
gains-all {X} Is items k before after all = subst (λ (done : List X). GainsThese (IsOfSome Is done) before after) (take_all k items all)

-- ---- a loop over pairs of places, each of one of the items and one of the others

module _ {X Y Z : Type 0} (Is : ℕ × ℕ → Z → Type 0) (items : List X) (others : List Y) (pairs : List (ℕ × ℕ)) (before : List Z) where
  -- it has gained what the pairs so far have
  abbrev pub GainsUpto : ℕ → List Z → Type 0
  GainsUpto k now = GainsThese (IsOfSome Is (take k pairs)) before now

  pub upto-first : GainsUpto 0 before
  upto-first = gains-none (IsOfSome Is []) before (none_of Is)

  -- one more pair
  pub upto-next : All (λ pair. (pair.0 < length items) × (pair.1 < length others)) pairs → (k : ℕ) (d : X) (e : Y) (now after : List Z) → k < length pairs → GainsUpto k now
      → (slice_get items (get_or pairs k (0, 0)).0 ≡ Some (get_or items (get_or pairs k (0, 0)).0 d) → slice_get others (get_or pairs k (0, 0)).1 ≡ Some (get_or others (get_or pairs k (0, 0)).1 e)
      → GainsThese (Is (get_or pairs k (0, 0))) now after) → GainsUpto (k + 1) after
  upto-next within k d e now after more gained next =
      let pair = get_or pairs k (0, 0) in
      let inside = within k (0, 0) more in
      subst (λ (done : List (ℕ × ℕ)). GainsThese (IsOfSome Is done) before after) (sym (take_more pairs k (0, 0) more))
      (gains-more Is (take k pairs) pair before now after gained (next (slice_get-get_or items pair.0 d inside.0) (slice_get-get_or others pair.1 e inside.1)))

  -- all of them
  pub upto-all : (k : ℕ) (after : List Z) → length pairs ≤ k → GainsUpto k after → GainsThese (IsOfSome Is pairs) before after
  upto-all k after all = subst (λ (done : List (ℕ × ℕ)). GainsThese (IsOfSome Is done) before after) (take_all k pairs all)

-- ---- a list that is sorted, and has each item once then

module _ {X : Type 0} {cmp : X → X → Ordering} (total : IsTotalOrder cmp) (alike : (x y : X) → eq_by_cmp cmp x y ≡ true → x ≡ y) {same : X → X → Bool} (ties : (x y : X) → same x y ≡ eq_by_cmp cmp x y) where
  equivalence : IsEquivalence same
  equivalence = let by_cmp = eq_by_cmp_equiv total in record {
    refl = λ x. ties x x ∙ by_cmp.refl x;
    symm = λ x y. ties x y ∙ by_cmp.symm x y ∙ sym (ties y x);
    congr = λ x y z is. ties x z ∙ by_cmp.congr x y z (sym (ties x y) ∙ is) ∙ sym (ties y z);
  }

  -- has the same items
  pub HaveSame-sorted : (before sorted : List X) → IsPermutation before sorted → HaveSame before (dedup same sorted)
  HaveSame-sorted before sorted moved x = (
    λ held. Contains-permutation sorted before x (IsPermutation-sym before sorted moved) (Contains-from_dedup same sorted x held),
    λ held. Contains-dedup equivalence (λ y z is. alike y z (sym (ties y z) ∙ is)) sorted x (Contains-permutation before sorted x moved held),
  )
