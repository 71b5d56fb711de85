-- Weighted things in a strict order that open and close in turn, from below to above: what closes is higher than what it closes.
use Rattle.std.proofs.Common.{◌≡◌, ◌⊎◌, inl, inr, ℤ, pos, negsuc, ◌+ℤ◌, ◌-ℤ◌, ◌≤ℤ◌, ◌<ℤ◌, Bool, true, false, cond, List, [], ◌∷◌, get_or, refl, arith, ◌∙◌}
use Rattle.std.specs.List.{All, AllPairs}
use Rattle.std.proofs.lemmas.Int.{ints}
use Rattle.std.proofs.lemmas.List.Elements.{All-head, All-tail, All-weaker}
use Rattle.i_tree.proofs.RootLemmas.Lists.{AllPairs-head, AllPairs-tail}
use Rattle.overlay.specs.Fill.Pieces.{total}
use Rattle.overlay.proofs.FillLemmas.Ranked.{Differ, Rises, sum_below, sort, total-sort, All-sorted, Rises-sorted, starts-first, starts-next}

module _ {X : Type 0} (u below height slice : X → ℤ) where
  -- it opens: nothing is below it, and one above, and it counts twice its height
  pub record Opens (y : X) : Type 0 where
    pub under : below y ≡ pos 0
    pub weighs : u y ≡ pos 1
    pub counts : slice y ≡ ((height y +ℤ height y) +ℤ pos 1)

  -- it closes: one is below it, and nothing above, and it counts minus twice its height
  pub record Closes (y : X) : Type 0 where
    pub under : below y ≡ pos 1
    pub weighs : u y ≡ negsuc 0
    pub counts : slice y ≡ (pos 1 -ℤ (height y +ℤ height y))

  -- it does either
  abbrev pub Turns : X → Type 0
  Turns y = Opens y ⊎ Closes y

  module _ (lower : X → X → Bool) (asym : (x y : X) → lower x y ≡ true → lower y x ≡ false) (irrefl : (x : X) → lower x x ≡ false)
      (P : X → Type 0) (trans : (x y z : X) → P x → P y → P z → lower x y ≡ true → lower y z ≡ true → lower x z ≡ true)
      (higher : (x y : X) → P x → P y → lower x y ≡ true → height x <ℤ height y) where
    -- From none they count at most 0 up to none again; and from one, which is lower than all of them, at most minus twice its
    -- height.
    record Counts (a : ℤ) (xs : List X) : Type 0 where
      from_none : a ≡ pos 0 → total u xs ≡ pos 0 → total slice xs ≤ℤ pos 0
      from_one : a ≡ pos 1 → total u xs ≡ negsuc 0 → (b : ℤ) → All (λ y. b <ℤ height y) xs → ((b +ℤ b) +ℤ total slice xs) <ℤ pos 0

    -- nothing counts nothing
    counts-none : (a : ℤ) → Counts a []
    counts-none a = record { from_none = λ start weighs. omega (arith, ints); from_one = λ start weighs b above. absurd (omega (arith, ints, weighs)) }

    -- what opens, and what then counts from one on
    opened : (h s rest : ℤ) → s ≡ ((h +ℤ h) +ℤ pos 1) → ((h +ℤ h) +ℤ rest) <ℤ pos 0 → (s +ℤ rest) ≤ℤ pos 0
    opened h s rest counts less = omega (arith, ints, counts, less)

    -- what closes, and what then counts from none on
    closed : (b h s rest : ℤ) → b <ℤ h → s ≡ (pos 1 -ℤ (h +ℤ h)) → rest ≤ℤ pos 0 → ((b +ℤ b) +ℤ (s +ℤ rest)) <ℤ pos 0
    closed b h s rest above counts upto = omega (arith, ints, above, counts, upto)

    -- what is left of a sum, and how many there are behind one more
    left : (w rest sum one : ℤ) → (w +ℤ rest) ≡ sum → w ≡ one → rest ≡ (sum -ℤ one)
    left w rest sum one is weighs = omega (arith, ints, is, weighs)

    next : (a w b one : ℤ) → a ≡ b → w ≡ one → (a +ℤ w) ≡ (b +ℤ one)
    next a w b one is weighs = omega (arith, ints, is, weighs)

    -- one more, with what is lower than all others
    counts-more : (a : ℤ) (x : X) (xs : List X) → below x ≡ a → Turns x → All (λ y. height x <ℤ height y) xs → Counts (a +ℤ u x) xs → Counts a (x ∷ xs)
    counts-more a x xs start turn above rest = record {
      from_none = λ is weighs. elim turn [
        | inl opens ↦
            let weight = opens.weighs in
            let count = opens.counts in
            let less = rest.from_one (next a (u x) (pos 0) (pos 1) is weight) (left (u x) (total u xs) (pos 0) (pos 1) weighs weight) (height x) above in
            opened (height x) (slice x) (total slice xs) count less
        | inr closes ↦ let under = closes.under in absurd (omega (arith, ints, start, under, is))
      ];
      from_one = λ is weighs b over. elim turn [
        | inl opens ↦ let under = opens.under in absurd (omega (arith, ints, start, under, is))
        | inr closes ↦
            let weight = closes.weighs in
            let count = closes.counts in
            closed b (height x) (slice x) (total slice xs) (All-head (λ y. b <ℤ height y) x xs over) count
            (rest.from_none (next a (u x) (pos 1) (negsuc 0) is weight) (left (u x) (total u xs) (negsuc 0) (negsuc 0) weighs weight))
      ];
    }

    -- so a list in order does
    counts-in_order : (a : ℤ) (xs : List X) → All P xs → All Turns xs → Rises lower xs → All (λ y. below y ≡ (a +ℤ sum_below lower u xs y)) xs → Counts a xs
    counts-in_order a [] all turns rises starts = counts-none a
    counts-in_order a (x ∷ xs) all turns rises starts =
        let above : All (λ y. lower x y ≡ true) xs = AllPairs-head (λ x y. lower x y ≡ true) x xs rises in
        let first = All-head P x xs all in
        let others = All-tail P x xs all in
        counts-more a x xs (starts-first lower asym irrefl u a below x xs above starts) (All-head Turns x xs turns)
        (λ k d inside. higher x (get_or xs k d) first (others k d inside) (above k d inside))
        (counts-in_order (a +ℤ u x) xs others (All-tail Turns x xs turns) (AllPairs-tail (λ x y. lower x y ≡ true) x xs rises) (starts-next lower asym irrefl u a below x xs above starts))

    -- from none
    start : (a b c : ℤ) → a ≡ b → c ≡ b → a ≡ (pos 0 +ℤ c)
    start a b c is other = omega (arith, ints, is, other)

    -- In any order, where all of them weigh nothing together, they count at most 0.
    pub alternating : (xs : List X) → All P xs → All Turns xs → AllPairs (Differ lower) xs → All (λ y. below y ≡ sum_below lower u xs y) xs → total u xs ≡ pos 0 → total slice xs ≤ℤ pos 0
    alternating xs all turns distinct starts weighs =
        let sorted = sort lower xs in
        let counts : Counts (pos 0) sorted =
        counts-in_order (pos 0) sorted (All-sorted lower P xs all) (All-sorted lower Turns xs turns) (Rises-sorted lower P trans xs all distinct)
        (All-sorted lower (λ y. below y ≡ (pos 0 +ℤ sum_below lower u sorted y)) xs
        (All-weaker (λ y. below y ≡ sum_below lower u xs y) (λ y. below y ≡ (pos 0 +ℤ sum_below lower u sorted y))
        (λ y is. start (below y) (sum_below lower u xs y) (sum_below lower u sorted y) is (total-sort lower (λ x. cond (lower x y) (u x) (pos 0)) xs)) xs starts)) in
        let upto = counts.from_none refl (total-sort lower u xs ∙ weighs) in
        let same = total-sort lower slice xs in
        omega (arith, ints, upto, same)
