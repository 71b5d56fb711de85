-- Facts on lists that are filtered, and on lists in which each element stands in a relation to all later ones.
use Rattle.std.proofs.Common.{◌≡◌, ℕ, zero, suc, ◌<◌, ◌≤◌, Bool, true, false, List, [], ◌∷◌, length, take, drop, refl, arith}
use Rattle.std.specs.Bool.{MatchBool}
use Rattle.std.specs.List.{All, AllPairs, Any, Contains, filter, insert}
use Rattle.std.proofs.lemmas.Bool.{cond_both, both_ways}
use Rattle.std.proofs.lemmas.List.Elements.{All-nil, All-cons, All-head, All-tail, All-append, All-take, All-drop}
use Rattle.std.proofs.lemmas.List.Kept.{AllPairs-cons}
use Rattle.i_tree.specs.Root.Change.{Without}
use Rattle.i_tree.specs.Root.Change.Without.{none, keeps, loses}

module _ {X : Type 0} where
  pub Contains-here : (x : X) (xs : List X) → Contains (x ∷ xs) x
  Contains-here x xs = (0, omega arith, refl)

  pub Contains-there : (y : X) (xs : List X) (x : X) → Contains xs x → Contains (y ∷ xs) x
  Contains-there y xs x (k, within, is) = (suc k, omega arith, is)

  pub All-insert : (P : X → Type 0) (xs : List X) (i : ℕ) (x : X) → All P xs → P x → All P (insert xs i x)
  All-insert P xs i x h p = All-append P (take i xs) (x ∷ drop i xs) (All-take P i xs h) (All-cons P x (drop i xs) p (All-drop P i xs h))

  module _ (R : X → X → Type 0) where
    pub AllPairs-head : (x : X) (xs : List X) → AllPairs R (x ∷ xs) → All (R x) xs
    AllPairs-head x xs h k d within = h 0 (suc k) d (omega arith) (omega arith)

    pub AllPairs-tail : (x : X) (xs : List X) → AllPairs R (x ∷ xs) → AllPairs R xs
    AllPairs-tail x xs h i j d below within = h (suc i) (suc j) d (omega arith) (omega arith)

    -- an element joins where the earlier ones stand in the relation to it, and it to the later ones
    pub AllPairs-insert : (xs : List X) (i : ℕ) (x : X) → AllPairs R xs → All (λ y. R y x) (take i xs) → All (R x) (drop i xs) → AllPairs R (insert xs i x)
    AllPairs-insert xs zero x h before after = AllPairs-cons R x xs after h
    AllPairs-insert [] (suc i) x h before after = AllPairs-cons R x [] (All-nil (R x)) h
    AllPairs-insert (y ∷ ys) (suc i) x h before after =
        AllPairs-cons R y (insert ys i x)
        (All-insert (R y) ys i x (AllPairs-head y ys h) (All-head (λ z. R z x) y (take i ys) before))
        (AllPairs-insert ys i x (AllPairs-tail y ys h) (All-tail (λ z. R z x) y (take i ys) before) after)

  module _ (p : X → Bool) where
    pub Contains-filter : (xs : List X) (x : X) → p x ≡ true → Contains xs x → Contains (filter p xs) x
    Contains-filter [] x passes (k, within, is) = absurd (omega arith)
    Contains-filter (y ∷ ys) x passes (zero, within, is) = grind (arith, cond_both, Contains-here, both_ways)
    Contains-filter (y ∷ ys) x passes (suc k, within, is) =
        let rest = Contains-filter ys x passes (k, omega arith, is) in
        cond_both (p y) (y ∷ filter p ys) (filter p ys) (λ zs. Contains zs x) (λ _. Contains-there y (filter p ys) x rest) (λ _. rest)

    -- what holds of each element that passes holds of each that is kept
    pub All-filter_passing : (P : X → Type 0) (xs : List X) → All (λ x. p x ≡ true → P x) xs → All P (filter p xs)
    All-filter_passing P [] h = All-nil P
    All-filter_passing P (x ∷ xs) h =
        let Q : X → Type 0 = λ y. p y ≡ true → P y in
        let rest = All-filter_passing P xs (All-tail Q x xs h) in
        cond_both (p x) (x ∷ filter p xs) (filter p xs) (All P) (λ passes. All-cons P x (filter p xs) (All-head Q x xs h passes) rest) (λ _. rest)

    -- what holds of all that a filter lets through
    pub All-from_filter : (P : X → Type 0) (xs : List X) → All P (filter p xs) → All (λ x. p x ≡ true → P x) xs
    All-from_filter P [] all = All-nil (λ x. p x ≡ true → P x)
    All-from_filter P (x ∷ xs) all = by_test (p x) refl (All-from_filter P xs)
      where
        by_test : (b : Bool) → p x ≡ b → (All P (filter p xs) → All (λ y. p y ≡ true → P y) xs) → All (λ y. p y ≡ true → P y) (x ∷ xs)
        by_test true passes rest =
            let all_too : All P (x ∷ filter p xs) = rw passes at all in
            All-cons (λ y. p y ≡ true → P y) x xs (λ _. All-head P x (filter p xs) all_too) (rest (All-tail P x (filter p xs) all_too))
        by_test false fails rest =
            let all_too : All P (filter p xs) = rw fails at all in
            All-cons (λ y. p y ≡ true → P y) x xs (λ passes. absurd (both_ways (p x) fails passes)) (rest all_too)

    pub filter_all : (xs : List X) → All (λ x. p x ≡ true) xs → filter p xs ≡ xs
    filter_all [] h = refl
    filter_all (x ∷ xs) h =
        let P : X → Type 0 = λ y. p y ≡ true in
        rw (All-head P x xs h, filter_all xs (All-tail P x xs h)) refl

    pub Without-filter : (xs : List X) → Without (λ x. p x ≡ false) xs (filter p xs)
    Without-filter [] = none
    Without-filter (x ∷ xs) =
        cond_both (p x) (x ∷ filter p xs) (filter p xs) (Without (λ y. p y ≡ false) (x ∷ xs))
        (λ _. keeps x (Without-filter xs))
        (λ fails. loses x fails (Without-filter xs))

    pub length-filter_le : (xs : List X) → length (filter p xs) ≤ length xs
    length-filter_le [] = omega arith
    length-filter_le (x ∷ xs) =
        let rest = length-filter_le xs in
        cond_both (p x) (x ∷ filter p xs) (filter p xs) (λ ys. length ys ≤ suc (length xs)) (λ _. omega arith) (λ _. omega arith)

    -- a filter that leaves nothing out
    pub filter_same_length : (xs : List X) → length xs ≤ length (filter p xs) → filter p xs ≡ xs
    filter_same_length [] h = refl
    filter_same_length (x ∷ xs) h = by_test (p x) refl (filter_same_length xs) (length-filter_le xs)
      where
        by_test : (b : Bool) → p x ≡ b → (length xs ≤ length (filter p xs) → filter p xs ≡ xs) → length (filter p xs) ≤ length xs → filter p (x ∷ xs) ≡ x ∷ xs
        by_test true e rest short =
            let long : length xs ≤ length (filter p xs) = omega (arith, rw e at h) in
            rw (e, rest long) refl
        by_test false e rest short = absurd (omega (arith, rw e at h))

    -- a filter that leaves something out
    pub length-filter_lt : (xs : List X) → Any (λ x. p x ≡ false) xs → length (filter p xs) < length xs
    length-filter_lt [] (k, y, within, is, fails) = absurd (omega arith)
    length-filter_lt (x ∷ xs) (zero, y, within, is, fails) = grind (arith, cond_both, both_ways, length-filter_le)
    length-filter_lt (x ∷ xs) (suc k, y, within, is, fails) =
        let rest = length-filter_lt xs (k, y, omega arith, is, fails) in
        cond_both (p x) (x ∷ filter p xs) (filter p xs) (λ ys. length ys < suc (length xs)) (λ _. omega arith) (λ _. omega arith)

-- a fact for each answer of a test
pub MatchBool-by : (b : Bool) (P Q : Type 0) → (b ≡ true → P) → (b ≡ false → Q) → MatchBool b P Q
MatchBool-by true P Q at_true at_false = at_true refl
MatchBool-by false P Q at_true at_false = at_false refl
