-- Sums over lists, term by term.
use Rattle.std.proofs.Common.{◌≡◌, ◌+◌, ℕ, ℤ, pos, ◌+ℤ◌, ◌-ℤ◌, Bool, true, false, cond, List, [], ◌∷◌, ◌++◌, refl, ap, ap₂, arith, sym, ◌∙◌}
use Rattle.std.specs.List.{All, filter, sum_by}
use Rattle.std.specs.List.Sorted.{IsPermutation}
use Rattle.std.proofs.lemmas.Int.{ints}
use Rattle.std.proofs.lemmas.List.Elements.{All-head, All-tail}
use Rattle.std.proofs.lemmas.List.Sorted.{sum_by-IsPermutation}
use Rattle.std.proofs.lemmas.List.Sums.{sum_by-cons}
use borrow.Author.Differences.{up, down}
use Rattle.overlay.specs.Fill.Pieces.{total}
use Rattle.noding.proofs.SnapLemmas.Numbers.{both}

-- sums whose terms are the same
pub total-same : {X : Type 0} (f g : X → ℤ) (xs : List X) → All (λ x. f x ≡ g x) xs → total f xs ≡ total g xs
total-same f g [] all = refl
total-same f g (x ∷ xs) all =
    both (f x) (g x) (total f xs) (total g xs) (All-head (λ x. f x ≡ g x) x xs all) (total-same f g xs (All-tail (λ x. f x ≡ g x) x xs all))

-- a sum of terms that are 0
pub total-none : {X : Type 0} (f : X → ℤ) (xs : List X) → All (λ x. f x ≡ pos 0) xs → total f xs ≡ pos 0
total-none f [] all = refl
total-none f (x ∷ xs) all = ap₂ (λ a b. a +ℤ b) (All-head (λ x. f x ≡ pos 0) x xs all) (total-none f xs (All-tail (λ x. f x ≡ pos 0) x xs all))

-- a sum of differences
apart : (a b c d e : ℤ) → c ≡ (d -ℤ e) → ((a -ℤ b) +ℤ c) ≡ ((a +ℤ d) -ℤ (b +ℤ e))
apart a b c d e is = omega (arith, ints, is)

pub total-difference : {X : Type 0} (f g : X → ℤ) (xs : List X) → total (λ x. f x -ℤ g x) xs ≡ (total f xs -ℤ total g xs)
total-difference f g [] = omega (arith, ints)
total-difference f g (x ∷ xs) = apart (f x) (g x) (total (λ x. f x -ℤ g x) xs) (total f xs) (total g xs) (total-difference f g xs)

-- numbers without a difference
no_difference : (a b : ℤ) → (a -ℤ b) ≡ pos 0 → a ≡ b
no_difference a b is = omega (arith, ints, is)

-- two sums are one where their terms differ by those of a sum that is 0
pub total-moved : {X : Type 0} (f g moved : X → ℤ) (xs : List X) → total moved xs ≡ pos 0 → All (λ x. (f x -ℤ g x) ≡ moved x) xs → total f xs ≡ total g xs
total-moved f g moved xs none all =
    no_difference (total f xs) (total g xs) (sym (total-difference f g xs) ∙ total-same (λ x. f x -ℤ g x) moved xs all ∙ none)

-- the terms that a test leaves are those of the list that it leaves
pub total-filter : {X : Type 0} (test : X → Bool) (f : X → ℤ) (xs : List X) → total (λ x. cond (test x) (f x) (pos 0)) xs ≡ total f (filter test xs)
total-filter test f [] = refl
total-filter test f (x ∷ xs) = by (total-filter test f xs) (test x)
  where
    nothing : (a b : ℤ) → a ≡ b → (pos 0 +ℤ a) ≡ b
    nothing a b is = omega (arith, ints, is)

    by : total (λ x. cond (test x) (f x) (pos 0)) xs ≡ total f (filter test xs) → (t : Bool)
        → (cond t (f x) (pos 0) +ℤ total (λ x. cond (test x) (f x) (pos 0)) xs) ≡ total f (cond t (x ∷ filter test xs) (filter test xs))
    by rest true = ap (λ z. f x +ℤ z) rest
    by rest false = nothing (total (λ x. cond (test x) (f x) (pos 0)) xs) (total f (filter test xs)) rest

-- a sum of sums
together : (a b c d e : ℤ) → c ≡ (d +ℤ e) → ((a +ℤ b) +ℤ c) ≡ ((a +ℤ d) +ℤ (b +ℤ e))
together a b c d e is = omega (arith, ints, is)

pub total-sum : {X : Type 0} (f g : X → ℤ) (xs : List X) → total (λ x. f x +ℤ g x) xs ≡ (total f xs +ℤ total g xs)
total-sum f g [] = refl
total-sum f g (x ∷ xs) = together (f x) (g x) (total (λ x. f x +ℤ g x) xs) (total f xs) (total g xs) (total-sum f g xs)

-- ---- lists joined and in another order

more_split : (z : ℤ) (p q m n : ℕ) (s : ℤ) → s ≡ (pos p -ℤ pos q) → m ≡ up z + p → n ≡ down z + q → (z +ℤ s) ≡ (pos m -ℤ pos n)
more_split z p q m n s is first second = omega (arith, ints, is, first, second)

split : {X : Type 0} (f : X → ℤ) (xs : List X) → total f xs ≡ (pos (sum_by (λ x. up (f x)) xs) -ℤ pos (sum_by (λ x. down (f x)) xs))
split f [] = refl
split f (x ∷ xs) =
    more_split (f x) (sum_by (λ x. up (f x)) xs) (sum_by (λ x. down (f x)) xs) (sum_by (λ x. up (f x)) (x ∷ xs)) (sum_by (λ x. down (f x)) (x ∷ xs)) (total f xs) (split f xs)
    (sum_by-cons (λ x. up (f x)) x xs) (sum_by-cons (λ x. down (f x)) x xs)

-- a sum is the same in another order
pub total-permutation : {X : Type 0} (f : X → ℤ) (xs ys : List X) → IsPermutation xs ys → total f ys ≡ total f xs
total-permutation f xs ys moved =
    split f ys
    ∙ ap₂ (λ m n. pos m -ℤ pos n) (sum_by-IsPermutation (λ x. up (f x)) xs ys moved) (sum_by-IsPermutation (λ x. down (f x)) xs ys moved)
    ∙ sym (split f xs)

added : (a b c d : ℤ) → a ≡ (b +ℤ c) → (d +ℤ a) ≡ ((d +ℤ b) +ℤ c)
added a b c d is = omega (arith, ints, is)

pub total-append : {X : Type 0} (f : X → ℤ) (xs ys : List X) → total f (xs ++ ys) ≡ (total f xs +ℤ total f ys)
total-append f [] ys = omega (arith, ints)
total-append f (x ∷ xs) ys = added (total f (xs ++ ys)) (total f xs) (total f ys) (f x) (total-append f xs ys)

-- one more
pub total-more : {X : Type 0} (f : X → ℤ) (xs : List X) (x : X) → total f (xs ++ x ∷ []) ≡ (total f xs +ℤ f x)
total-more f xs x = total-append f xs (x ∷ []) ∙ ap (λ z. total f xs +ℤ z) (alone (f x))
  where
    alone : (a : ℤ) → (a +ℤ pos 0) ≡ a
    alone a = omega (arith, ints)
