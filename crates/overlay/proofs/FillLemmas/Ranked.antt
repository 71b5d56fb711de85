-- Weighted things in a strict order: what is below each is the sum of the weights of the lower ones. In their order each
-- starts from the sum at which the one before it ends, so what a function of the sums gains at each adds up to what it gains
-- from none to all.
use Rattle.std.proofs.Common.{◌≡◌, ℤ, pos, ◌+ℤ◌, ◌-ℤ◌, ◌⊎◌, inl, inr, Bool, true, false, cond, List, [], ◌∷◌, refl, ap, ap₂, arith, sym, ◌∙◌}
use Rattle.std.specs.List.{All, AllPairs}
use Rattle.std.proofs.lemmas.Int.{ints}
use Rattle.std.proofs.lemmas.List.Elements.{All-nil, All-cons, All-head, All-tail, All-weaker}
use Rattle.std.proofs.lemmas.List.Kept.{AllPairs-cons}
use Rattle.i_tree.proofs.RootLemmas.Joined.{AllPairs-nil}
use Rattle.i_tree.proofs.RootLemmas.Lists.{AllPairs-head, AllPairs-tail}
use Rattle.overlay.specs.Fill.Pieces.{total}
use Rattle.overlay.proofs.FillLemmas.Totals.{total-none}

-- two facts of all
All-both : {X : Type 0} (P Q : X → Type 0) (xs : List X) → All P xs → All Q xs → All (λ x. P x × Q x) xs
All-both P Q xs first second k d inside = (first k d inside, second k d inside)

module _ {X : Type 0} (lower : X → X → Bool) where
  -- one is lower than the other
  abbrev pub Differ : X → X → Type 0
  Differ x y = (lower x y ≡ true) ⊎ (lower y x ≡ true)

  -- each is lower than all later ones
  abbrev pub Rises : List X → Type 0
  Rises xs = AllPairs (λ x y. lower x y ≡ true) xs

  -- sorted by insertion
  abbrev pub insert : X → List X → List X
  insert x [] = x ∷ []
  insert x (y ∷ ys) = cond (lower x y) (x ∷ y ∷ ys) (y ∷ insert x ys)

  abbrev pub sort : List X → List X
  sort [] = []
  sort (x ∷ xs) = insert x (sort xs)

  -- two terms exchanged
  exchanged : (a b c : ℤ) → (b +ℤ (a +ℤ c)) ≡ (a +ℤ (b +ℤ c))
  exchanged a b c = omega (arith, ints)

  -- sorting keeps sums, and what holds of all
  total-insert : (f : X → ℤ) (x : X) (ys : List X) → total f (insert x ys) ≡ (f x +ℤ total f ys)
  total-insert f x [] = refl
  total-insert f x (y ∷ ys) = by (total-insert f x ys) (lower x y)
    where
      by : total f (insert x ys) ≡ (f x +ℤ total f ys) → (t : Bool) → total f (cond t (x ∷ y ∷ ys) (y ∷ insert x ys)) ≡ (f x +ℤ (f y +ℤ total f ys))
      by rest true = refl
      by rest false = ap (λ z. f y +ℤ z) rest ∙ exchanged (f x) (f y) (total f ys)

  pub total-sort : (f : X → ℤ) (xs : List X) → total f (sort xs) ≡ total f xs
  total-sort f [] = refl
  total-sort f (x ∷ xs) = total-insert f x (sort xs) ∙ ap (λ z. f x +ℤ z) (total-sort f xs)

  All-inserted : (P : X → Type 0) (x : X) (ys : List X) → P x → All P ys → All P (insert x ys)
  All-inserted P x [] first all = All-cons P x [] first all
  All-inserted P x (y ∷ ys) first all = by (All-inserted P x ys first (All-tail P y ys all)) (lower x y)
    where
      by : All P (insert x ys) → (t : Bool) → All P (cond t (x ∷ y ∷ ys) (y ∷ insert x ys))
      by rest true = All-cons P x (y ∷ ys) first all
      by rest false = All-cons P y (insert x ys) (All-head P y ys all) rest

  pub All-sorted : (P : X → Type 0) (xs : List X) → All P xs → All P (sort xs)
  All-sorted P [] all = All-nil P
  All-sorted P (x ∷ xs) all = All-inserted P x (sort xs) (All-head P x xs all) (All-sorted P xs (All-tail P x xs all))

  module _ (P : X → Type 0) (trans : (x y z : X) → P x → P y → P z → lower x y ≡ true → lower y z ≡ true → lower x z ≡ true) where
    -- what is inserted into a list in order leaves it in order
    Rises-inserted : (x : X) (ys : List X) → P x → All P ys → All (Differ x) ys → Rises ys → Rises (insert x ys)
    Rises-inserted x [] first all differ rises = AllPairs-cons (λ x y. lower x y ≡ true) x [] (All-nil (λ y. lower x y ≡ true)) rises
    Rises-inserted x (y ∷ ys) first all differ rises =
        by (Rises-inserted x ys first (All-tail P y ys all) (All-tail (Differ x) y ys differ) (AllPairs-tail (λ x y. lower x y ≡ true) y ys rises)) (lower x y) refl
      where
        above : All (λ z. lower y z ≡ true) ys
        above = AllPairs-head (λ x y. lower x y ≡ true) y ys rises

        by : Rises (insert x ys) → (t : Bool) → lower x y ≡ t → Rises (cond t (x ∷ y ∷ ys) (y ∷ insert x ys))
        by rest true e =
            AllPairs-cons (λ x y. lower x y ≡ true) x (y ∷ ys)
            (All-cons (λ z. lower x z ≡ true) y ys e
            (All-weaker (λ z. P z × (lower y z ≡ true)) (λ z. lower x z ≡ true) (λ z both. trans x y z first (All-head P y ys all) both.0 e both.1) ys
            (All-both P (λ z. lower y z ≡ true) ys (All-tail P y ys all) above)))
            rises
        by rest false e =
            AllPairs-cons (λ x y. lower x y ≡ true) y (insert x ys)
            (All-inserted (λ z. lower y z ≡ true) x ys (elim (All-head (Differ x) y ys differ) [ inl less ↦ cc | inr more ↦ more ]) above)
            rest

    -- so a sorted list is in order
    pub Rises-sorted : (xs : List X) → All P xs → AllPairs Differ xs → Rises (sort xs)
    Rises-sorted [] all distinct = AllPairs-nil (λ x y. lower x y ≡ true)
    Rises-sorted (x ∷ xs) all distinct =
        Rises-inserted x (sort xs) (All-head P x xs all) (All-sorted P xs (All-tail P x xs all)) (All-sorted (Differ x) xs (AllPairs-head Differ x xs distinct))
        (Rises-sorted xs (All-tail P x xs all) (AllPairs-tail Differ x xs distinct))

  -- ---- sums

  -- the sum of what is below y
  abbrev pub sum_below : (X → ℤ) → List X → X → ℤ
  sum_below w xs y = total (λ x. cond (lower x y) (w x) (pos 0)) xs

  module _ (asym : (x y : X) → lower x y ≡ true → lower y x ≡ false) (irrefl : (x : X) → lower x x ≡ false) where
    -- nothing is below the first
    below_first : (w : X → ℤ) (x : X) (xs : List X) → All (λ y. lower x y ≡ true) xs → sum_below w (x ∷ xs) x ≡ pos 0
    below_first w x xs above =
        total-none (λ y. cond (lower y x) (w y) (pos 0)) (x ∷ xs)
        (All-cons (λ y. cond (lower y x) (w y) (pos 0) ≡ pos 0) x xs (ap (λ t. cond t (w x) (pos 0)) (irrefl x))
        (All-weaker (λ y. lower x y ≡ true) (λ y. cond (lower y x) (w y) (pos 0) ≡ pos 0) (λ y less. ap (λ t. cond t (w y) (pos 0)) (asym x y less)) xs above))

    -- sums in other orders
    assoc : (a b c : ℤ) → (a +ℤ (b +ℤ c)) ≡ ((a +ℤ b) +ℤ c)
    assoc a b c = omega (arith, ints)

    add_none : (a : ℤ) → (a +ℤ pos 0) ≡ a
    add_none a = omega (arith, ints)

    -- below each is a and what of the list is lower
    abbrev pub Starts : (X → ℤ) → ℤ → (X → ℤ) → List X → Type 0
    Starts w a below xs = All (λ y. below y ≡ (a +ℤ sum_below w xs y)) xs

    -- so below the first is a
    pub starts-first : (w : X → ℤ) (a : ℤ) (below : X → ℤ) (x : X) (xs : List X) → All (λ y. lower x y ≡ true) xs → Starts w a below (x ∷ xs) → below x ≡ a
    starts-first w a below x xs above starts =
        All-head (λ y. below y ≡ (a +ℤ sum_below w (x ∷ xs) y)) x xs starts ∙ ap (λ z. a +ℤ z) (below_first w x xs above) ∙ add_none a

    -- and below each of the others a and the first's weight, and what of the others is lower
    pub starts-next : (w : X → ℤ) (a : ℤ) (below : X → ℤ) (x : X) (xs : List X) → All (λ y. lower x y ≡ true) xs → Starts w a below (x ∷ xs) → Starts w (a +ℤ w x) below xs
    starts-next w a below x xs above starts =
        All-weaker (λ y. (lower x y ≡ true) × (below y ≡ (a +ℤ sum_below w (x ∷ xs) y))) (λ y. below y ≡ ((a +ℤ w x) +ℤ sum_below w xs y))
        (λ y both. both.1 ∙ ap (λ t. a +ℤ (cond t (w x) (pos 0) +ℤ sum_below w xs y)) both.0 ∙ assoc a (w x) (sum_below w xs y))
        xs (All-both (λ y. lower x y ≡ true) (λ y. below y ≡ (a +ℤ sum_below w (x ∷ xs) y)) xs above (All-tail (λ y. below y ≡ (a +ℤ sum_below w (x ∷ xs) y)) x xs starts))

    -- two weights at a time
    module _ (F : ℤ → ℤ → ℤ) (v w : X → ℤ) (v_below w_below : X → ℤ) where
      -- what F gains at y
      abbrev pub gain : X → ℤ
      gain y = F (v_below y +ℤ v y) (w_below y +ℤ w y) -ℤ F (v_below y) (w_below y)

      -- two gains, one after the other
      joined : (first rest middle last start : ℤ) → first ≡ (middle -ℤ start) → rest ≡ (last -ℤ middle) → (first +ℤ rest) ≡ (last -ℤ start)
      joined first rest middle last start one other = omega (arith, ints, one, other)

      -- no weights gain nothing
      nothing : (a b : ℤ) → pos 0 ≡ (F (a +ℤ pos 0) (b +ℤ pos 0) -ℤ F a b)
      nothing a b = sym (ap₂ (λ c d. F c d -ℤ F a b) (add_none a) (add_none b) ∙ none (F a b))
        where
          none : (z : ℤ) → (z -ℤ z) ≡ pos 0
          none z = omega (arith, ints)

      -- along a list in order the gains add up
      in_order : (a b : ℤ) (xs : List X) → Rises xs → Starts v a v_below xs → Starts w b w_below xs
          → total gain xs ≡ (F (a +ℤ total v xs) (b +ℤ total w xs) -ℤ F a b)
      in_order a b [] rises first second = nothing a b
      in_order a b (x ∷ xs) rises first second =
          let above = AllPairs-head (λ x y. lower x y ≡ true) x xs rises in
          joined (gain x) (total gain xs) (F (a +ℤ v x) (b +ℤ w x)) (F (a +ℤ (v x +ℤ total v xs)) (b +ℤ (w x +ℤ total w xs))) (F a b)
          (ap₂ (λ c d. F (c +ℤ v x) (d +ℤ w x) -ℤ F c d) (starts-first v a v_below x xs above first) (starts-first w b w_below x xs above second))
          (in_order (a +ℤ v x) (b +ℤ w x) xs (AllPairs-tail (λ x y. lower x y ≡ true) x xs rises) (starts-next v a v_below x xs above first) (starts-next w b w_below x xs above second)
          ∙ ap₂ (λ c d. F c d -ℤ F (a +ℤ v x) (b +ℤ w x)) (sym (assoc a (v x) (total v xs))) (sym (assoc b (w x) (total w xs))))

      -- from none
      start : (a b : ℤ) → a ≡ b → a ≡ (pos 0 +ℤ b)
      start a b is = omega (arith, ints, is)

      from_none : (a : ℤ) → (pos 0 +ℤ a) ≡ a
      from_none a = omega (arith, ints)

      -- What F gains at each adds up to what it gains from no counts to all of them.
      module _ (P : X → Type 0) (trans : (x y z : X) → P x → P y → P z → lower x y ≡ true → lower y z ≡ true → lower x z ≡ true) where
        pub ranked : (xs : List X) → All P xs → AllPairs Differ xs → All (λ y. v_below y ≡ sum_below v xs y) xs → All (λ y. w_below y ≡ sum_below w xs y) xs
            → total gain xs ≡ (F (total v xs) (total w xs) -ℤ F (pos 0) (pos 0))
        ranked xs all distinct first second =
            let turn : (u below : X → ℤ) → All (λ y. below y ≡ sum_below u xs y) xs → Starts u (pos 0) below (sort xs) =
            λ u below is. All-sorted (λ y. below y ≡ (pos 0 +ℤ sum_below u (sort xs) y)) xs
            (All-weaker (λ y. below y ≡ sum_below u xs y) (λ y. below y ≡ (pos 0 +ℤ sum_below u (sort xs) y))
            (λ y same. start (below y) (sum_below u (sort xs) y) (same ∙ sym (total-sort (λ x. cond (lower x y) (u x) (pos 0)) xs))) xs is) in
            sym (total-sort gain xs)
            ∙ in_order (pos 0) (pos 0) (sort xs) (Rises-sorted P trans xs all distinct) (turn v v_below first) (turn w w_below second)
            ∙ ap₂ (λ c d. F c d -ℤ F (pos 0) (pos 0)) (from_none (total v (sort xs)) ∙ total-sort v xs) (from_none (total w (sort xs)) ∙ total-sort w xs)
