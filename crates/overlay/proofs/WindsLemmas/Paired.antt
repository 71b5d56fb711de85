-- Weighted things in a strict order, of which those from the lowest up to any weigh 1 or 0: each opens or closes. Where each that
-- closes is marked as the one just below it is, the marked ones weigh 1 or 0 too.
use Rattle.std.proofs.Common.{◌≡◌, ◌⊎◌, inl, inr, zero, suc, ℤ, pos, negsuc, ◌+ℤ◌, Bool, true, false, cond, List, [], ◌∷◌, get_or, refl, ap, sym, subst, ◌∙◌, arith}
use Rattle.std.specs.List.{All, AllPairs, Contains}
use Rattle.std.specs.Prelude.{⊤}
use Rattle.std.proofs.lemmas.Int.{ints}
use Rattle.std.proofs.lemmas.List.Elements.{All-contains, All-contains_itself, All-head, All-tail, All-weaker}
use Rattle.i_tree.proofs.RootLemmas.Lists.{AllPairs-head, AllPairs-tail, Contains-here, Contains-there}
use Rattle.noding.specs.Windings.{count}
use Rattle.overlay.specs.Fill.Pieces.{total}
use Rattle.overlay.proofs.FillLemmas.Ranked.{All-sorted, Differ, Rises, Rises-sorted, insert, sort, total-sort}
use Rattle.overlay.proofs.FillLemmas.Totals.{total-none}

-- 1 or 0, and 1 or -1.
abbrev pub IsOneOrNone : ℤ → Type 0
IsOneOrNone z = (z ≡ pos 0) ⊎ (z ≡ pos 1)

abbrev pub IsUnit : ℤ → Type 0
IsUnit z = (z ≡ pos 1) ⊎ (z ≡ negsuc 0)

-- what comes behind none is 1, and behind one -1
opens : (a w : ℤ) → a ≡ pos 0 → IsUnit w → IsOneOrNone (a +ℤ w) → w ≡ pos 1
opens a w none (inl one) sum = one
opens a w none (inr back) (inl is) = absurd (omega (arith, ints, none, back, is))
opens a w none (inr back) (inr is) = absurd (omega (arith, ints, none, back, is))

closes : (a w : ℤ) → a ≡ pos 1 → IsUnit w → IsOneOrNone (a +ℤ w) → w ≡ negsuc 0
closes a w one (inr back) sum = back
closes a w one (inl more) (inl is) = absurd (omega (arith, ints, one, more, is))
closes a w one (inl more) (inr is) = absurd (omega (arith, ints, one, more, is))

module _ {X : Type 0} (lower : X → X → Bool) where
  -- what is inserted is in the list, and what was
  inserted-holds : (x : X) (ys : List X) (z : X) → (x ≡ z) ⊎ Contains ys z → Contains (insert lower x ys) z
  inserted-holds x [] z (inl is) = (0, omega arith, is)
  inserted-holds x [] z (inr (k, within, is)) = absurd (omega (arith, within))
  inserted-holds x (y ∷ ys) z held = by (inserted-holds x ys z) (lower x y) held
    where
      there : (x ≡ z) ⊎ Contains (y ∷ ys) z → Contains (x ∷ y ∷ ys) z
      there (inl is) = (0, omega arith, is)
      there (inr later) = Contains-there x (y ∷ ys) z later

      further : ((x ≡ z) ⊎ Contains ys z → Contains (insert lower x ys) z) → (x ≡ z) ⊎ Contains (y ∷ ys) z → Contains (y ∷ insert lower x ys) z
      further rest (inl is) = Contains-there y (insert lower x ys) z (rest (inl is))
      further rest (inr (zero, within, is)) = (0, omega arith, is)
      further rest (inr (suc k, within, is)) = Contains-there y (insert lower x ys) z (rest (inr (k, omega (arith, within), is)))

      by : ((x ≡ z) ⊎ Contains ys z → Contains (insert lower x ys) z) → (t : Bool) → (x ≡ z) ⊎ Contains (y ∷ ys) z → Contains (cond t (x ∷ y ∷ ys) (y ∷ insert lower x ys)) z
      by rest true h = there h
      by rest false h = further rest h

  sorted-holds : (xs : List X) (z : X) → Contains xs z → Contains (sort lower xs) z
  sorted-holds [] z held = held
  sorted-holds (x ∷ xs) z (zero, within, is) = inserted-holds x (sort lower xs) z (inl is)
  sorted-holds (x ∷ xs) z (suc k, within, is) = inserted-holds x (sort lower xs) z (inr (sorted-holds xs z (k, omega (arith, within), is)))

  -- and nothing else is
  sorted-of : (xs : List X) (z : X) → Contains (sort lower xs) z → Contains xs z
  sorted-of xs z held = All-contains (Contains xs) (sort lower xs) z (All-sorted lower (Contains xs) xs (All-contains_itself xs)) held

  module _ (asym : (x y : X) → lower x y ≡ true → lower y x ≡ false) (irrefl : (x : X) → lower x x ≡ false) (u : X → ℤ) (own : X → Bool) where
    -- The weight of what is marked, and of what isn't above y.
    abbrev pub marked : X → ℤ
    marked x = cond (own x) (u x) (pos 0)

    abbrev pub upto : X → X → ℤ
    upto y x = cond (lower y x) (pos 0) (u x)

    -- with a before them, those up to each weigh 1 or 0
    abbrev Sums : ℤ → List X → Type 0
    Sums a xs = All (λ y. IsOneOrNone (a +ℤ total (upto y) xs)) xs

    sums-first : (a : ℤ) (x : X) (xs : List X) → All (λ y. lower x y ≡ true) xs → Sums a (x ∷ xs) → IsOneOrNone (a +ℤ u x)
    sums-first a x xs above sums =
        subst IsOneOrNone (alone a (upto x x) (u x) (total (upto x) xs) (ap (λ (t : Bool). cond t (pos 0) (u x)) (irrefl x))
        (total-none (upto x) xs (All-weaker (λ y. lower x y ≡ true) (λ y. upto x y ≡ pos 0) (λ y less. ap (λ (t : Bool). cond t (pos 0) (u y)) less) xs above)))
        (All-head (λ y. IsOneOrNone (a +ℤ total (upto y) (x ∷ xs))) x xs sums)
      where
        alone : (a b c d : ℤ) → b ≡ c → d ≡ pos 0 → (a +ℤ (b +ℤ d)) ≡ (a +ℤ c)
        alone a b c d same none = omega (arith, ints, same, none)

    sums-next : (a b : ℤ) (x : X) (xs : List X) → (a +ℤ u x) ≡ b → All (λ y. lower x y ≡ true) xs → Sums a (x ∷ xs) → Sums b xs
    sums-next a b x xs is above sums k d inside =
        let y = get_or xs k d in
        subst IsOneOrNone (joined a b (upto y x) (u x) (total (upto y) xs) (ap (λ (t : Bool). cond t (pos 0) (u x)) (asym x y (above k d inside))) is)
        (All-tail (λ y. IsOneOrNone (a +ℤ total (upto y) (x ∷ xs))) x xs sums k d inside)
      where
        joined : (a b c w d : ℤ) → c ≡ w → (a +ℤ w) ≡ b → (a +ℤ (c +ℤ d)) ≡ (b +ℤ d)
        joined a b c w d same is = omega (arith, ints, same, is)

    -- ---- in order

    -- of each that closes the one just below it is marked alike, behind x
    abbrev Steps : X → List X → Type 0
    Steps x [] = ⊤
    Steps x (y ∷ ys) = (u y ≡ negsuc 0 → own x ≡ own y) × Steps y ys

    abbrev Begins : List X → Type 0
    Begins [] = ⊤
    Begins (x ∷ xs) = Steps x xs

    begins : (x : X) (xs : List X) → Steps x xs → Begins xs
    begins x [] steps = tt
    begins x (y ∷ ys) steps = steps.1

    -- from none they weigh 1 or 0, and with what opened before them
    record Weighs (xs : List X) : Type 0 where
      from_none : Sums (pos 0) xs → Begins xs → IsOneOrNone (total marked xs)
      from_one : (x : X) → Sums (pos 1) xs → Steps x xs → IsOneOrNone (count (own x) +ℤ total marked xs)

    alone : (t : Bool) → IsOneOrNone (count t +ℤ pos 0)
    alone true = inr refl
    alone false = inl refl

    open-counts : (t : Bool) (w : ℤ) → w ≡ pos 1 → count t ≡ cond t w (pos 0)
    open-counts true w is = sym is
    open-counts false w is = refl

    closed-counts : (s t : Bool) (w rest : ℤ) → s ≡ t → w ≡ negsuc 0 → rest ≡ (count s +ℤ (cond t w (pos 0) +ℤ rest))
    closed-counts true true w rest same is = omega (arith, ints, is)
    closed-counts false false w rest same is = omega (arith, ints)
    closed-counts true false w rest same is = cc
    closed-counts false true w rest same is = cc

    weigh : (xs : List X) → Rises lower xs → All (λ x. IsUnit (u x)) xs → Weighs xs
    weigh [] rises units = record { from_none = λ sums steps. inl refl; from_one = λ x sums steps. alone (own x) }
    weigh (y ∷ ys) rises units =
        let above : All (λ z. lower y z ≡ true) ys = AllPairs-head (λ x y. lower x y ≡ true) y ys rises in
        let unit = All-head (λ x. IsUnit (u x)) y ys units in
        let rest = weigh ys (AllPairs-tail (λ x y. lower x y ≡ true) y ys rises) (All-tail (λ x. IsUnit (u x)) y ys units) in
        record {
          from_none = λ sums steps.
              let one = opens (pos 0) (u y) refl unit (sums-first (pos 0) y ys above sums) in
              subst (λ (z : ℤ). IsOneOrNone (z +ℤ total marked ys)) (open-counts (own y) (u y) one)
              (rest.from_one y (sums-next (pos 0) (pos 1) y ys (sum-is (u y) one) above sums) steps);
          from_one = λ x sums steps.
              let back = closes (pos 1) (u y) refl unit (sums-first (pos 1) y ys above sums) in
              subst IsOneOrNone (closed-counts (own x) (own y) (u y) (total marked ys) (steps.0 back) back)
              (rest.from_none (sums-next (pos 1) (pos 0) y ys (none-is (u y) back) above sums) (begins y ys steps.1));
        }
      where
        sum-is : (w : ℤ) → w ≡ pos 1 → (pos 0 +ℤ w) ≡ pos 1
        sum-is w is = omega (arith, ints, is)

        none-is : (w : ℤ) → w ≡ negsuc 0 → (pos 1 +ℤ w) ≡ pos 0
        none-is w is = omega (arith, ints, is)

    -- ---- which one is just below

    -- Of the list the one is just below the other: lower, with none between.
    pub record IsJustBelow (xs : List X) (x y : X) : Type 0 where
      pub among : Contains xs x
      pub among_too : Contains xs y
      pub less : lower x y ≡ true
      pub none : (z : X) → Contains xs z → lower x z ≡ true → ¬ (lower z y ≡ true)

    never : true ≡ false → ⊥
    never h = cc

    module _ (all : List X) (trans : (x y z : X) → Contains all x → Contains all y → Contains all z → lower x y ≡ true → lower y z ≡ true → lower x z ≡ true)
        (alike : (x y : X) → IsJustBelow all x y → u y ≡ negsuc 0 → own x ≡ own y) where
      steps : (x : X) (xs : List X) → Rises lower (x ∷ xs) → ((z : X) → Contains (x ∷ xs) z → Contains all z) → ((z : X) → Contains all z → (lower z x ≡ true) ⊎ Contains (x ∷ xs) z) → Steps x xs
      steps x [] rises inside each = tt
      steps x (y ∷ ys) rises inside each =
          let above : All (λ z. lower x z ≡ true) (y ∷ ys) = AllPairs-head (λ x y. lower x y ≡ true) x (y ∷ ys) rises in
          let later : Rises lower (y ∷ ys) = AllPairs-tail (λ x y. lower x y ≡ true) x (y ∷ ys) rises in
          let over : All (λ z. lower y z ≡ true) ys = AllPairs-head (λ x y. lower x y ≡ true) y ys later in
          let first = inside x (Contains-here x (y ∷ ys)) in
          let second = inside y (Contains-there x (y ∷ ys) y (Contains-here y ys)) in
          let less : lower x y ≡ true = All-head (λ z. lower x z ≡ true) y ys above in (
            alike x y (record {
              among = first;
              among_too = second;
              less = less;
              none = λ z held from upto. between z from upto over (each z held);
            }),
            steps y ys later (λ z held. inside z (Contains-there x (y ∷ ys) z held)) (λ z held. next z held first second less (each z held)),
          )
        where
          between : (z : X) → lower x z ≡ true → lower z y ≡ true → All (λ w. lower y w ≡ true) ys → (lower z x ≡ true) ⊎ Contains (x ∷ y ∷ ys) z → ⊥
          between z from upto over (inl below) = never (sym below ∙ asym x z from)
          between z from upto over (inr (zero, within, is)) = never (sym from ∙ subst (λ w. lower x w ≡ false) is (irrefl x))
          between z from upto over (inr (suc zero, within, is)) = never (sym upto ∙ subst (λ w. lower w y ≡ false) is (irrefl y))
          between z from upto over (inr (suc (suc k), within, is)) = never (sym upto ∙ asym y z (All-contains (λ w. lower y w ≡ true) ys z over (k, omega (arith, within), is)))

          next : (z : X) → Contains all z → Contains all x → Contains all y → lower x y ≡ true → (lower z x ≡ true) ⊎ Contains (x ∷ y ∷ ys) z → (lower z y ≡ true) ⊎ Contains (y ∷ ys) z
          next z held first second less (inl below) = inl (trans z x y held first second below less)
          next z held first second less (inr (zero, within, is)) = inl (subst (λ w. lower w y ≡ true) is less)
          next z held first second less (inr (suc k, within, is)) = inr (k, omega (arith, within), is)

      all-begin : (xs : List X) → Rises lower xs → ((z : X) → Contains xs z → Contains all z) → ((z : X) → Contains all z → Contains xs z) → Begins xs
      all-begin [] rises inside each = tt
      all-begin (x ∷ xs) rises inside each = steps x xs rises inside (λ z held. inr (each z held))

      -- So the marked ones weigh 1 or 0.
      pub paired : AllPairs (Differ lower) all → All (λ x. IsUnit (u x)) all → All (λ y. IsOneOrNone (total (upto y) all)) all → IsOneOrNone (total marked all)
      paired distinct units sums =
          let sorted = sort lower all in
          let rises : Rises lower sorted = Rises-sorted lower (Contains all) trans all (All-contains_itself all) distinct in
          let weighs = weigh sorted rises (All-sorted lower (λ x. IsUnit (u x)) all units) in
          subst IsOneOrNone (total-sort lower marked all)
          (weighs.from_none
          (All-sorted lower (λ y. IsOneOrNone (pos 0 +ℤ total (upto y) sorted)) all
          (All-weaker (λ y. IsOneOrNone (total (upto y) all)) (λ y. IsOneOrNone (pos 0 +ℤ total (upto y) sorted))
          (λ y is. subst IsOneOrNone (from-none (total (upto y) all) (total (upto y) sorted) (sym (total-sort lower (upto y) all))) is) all sums))
          (all-begin sorted rises (sorted-of all) (sorted-holds all)))
        where
          from-none : (a b : ℤ) → a ≡ b → a ≡ (pos 0 +ℤ b)
          from-none a b is = omega (arith, ints, is)
