-- Lists as bags: what a permutation keeps, and what a filter and a map hold.
use Rattle.std.proofs.Common.{◌≡◌, ◌≢◌, ℕ, zero, suc, ◌<◌, List, [], ◌∷◌, length, get_or, map, take, refl, sym, ap, ◌∙◌, subst₂, get_or-take, length-take-le, arith, ◌⊎◌, inl, inr}
use Rattle.std.specs.List.{AllPairs, Contains, swap}
use Rattle.std.specs.List.Sorted.{IsPermutation}
use Rattle.std.proofs.lemmas.Bool.{cases_eq, cases_lt}
use Rattle.std.proofs.lemmas.List.Edits.{Swapped, swapped_from_swap, length-swap}
use Rattle.std.proofs.lemmas.List.Sorted.{IsPermutation-keeps}
use Rattle.i_tree.proofs.RootLemmas.Lists.{Contains-here, Contains-there}

-- where the element comes from that stands at m once those at a and b have changed places
data From (a b m k : ℕ) : Type 0 where
  of_second : m ≡ a → k ≡ b → From a b m k
  of_first : m ≡ b → k ≡ a → From a b m k
  of_itself : m ≢ a → m ≢ b → k ≡ m → From a b m k

from : (a b m : ℕ) → (k : ℕ) × From a b m k
from a b m = elim (cases_eq m a) [
  | inl is ↦ (b, of_second is (omega arith))
  | inr away ↦ elim (cases_eq m b) [
    | inl is ↦ (a, of_first is (omega arith))
    | inr too ↦ (m, of_itself away too (omega arith))
  ]
]

-- different places come from different ones
from_different : (a b i j k l : ℕ) → From a b i k → From a b j l → i ≢ j → k ≢ l
from_different a b i j k l (of_second p q) (of_second r s) differ same = differ (omega arith)
from_different a b i j k l (of_second p q) (of_first r s) differ same = differ (omega arith)
from_different a b i j k l (of_second p q) (of_itself r t s) differ same = t (omega arith)
from_different a b i j k l (of_first p q) (of_second r s) differ same = differ (omega arith)
from_different a b i j k l (of_first p q) (of_first r s) differ same = differ (omega arith)
from_different a b i j k l (of_first p q) (of_itself r t s) differ same = r (omega arith)
from_different a b i j k l (of_itself p u q) (of_second r s) differ same = u (omega arith)
from_different a b i j k l (of_itself p u q) (of_first r s) differ same = p (omega arith)
from_different a b i j k l (of_itself p u q) (of_itself r t s) differ same = differ (omega arith)

from_within : (a b m k n : ℕ) → From a b m k → a < n → b < n → m < n → k < n
from_within a b m k n (of_second p q) inside other within = omega arith
from_within a b m k n (of_first p q) inside other within = omega arith
from_within a b m k n (of_itself p u q) inside other within = omega arith

from_value : {X : Type 0} (f g : ℕ → X) (a b m k : ℕ) → Swapped f g a b → From a b m k → g m ≡ f k
from_value f g a b m k swapped (of_second p q) = ap g p ∙ swapped.0 ∙ ap f (sym q)
from_value f g a b m k swapped (of_first p q) = ap g p ∙ swapped.1 ∙ ap f (sym q)
from_value f g a b m k swapped (of_itself p u q) = swapped.2 m p u ∙ ap f (sym q)

module _ {X : Type 0} (R : X → X → Type 0) (turned : (x y : X) → R x y → R y x) where
  -- any two elements at different places stand in the relation
  different : (xs : List X) → AllPairs R xs → (i j : ℕ) (d : X) → i ≢ j → i < length xs → j < length xs → R (get_or xs i d) (get_or xs j d)
  different xs all i j d differ first second = elim (cases_lt i j) [
    | inl below ↦ all i j d below second
    | inr upto ↦ turned (get_or xs j d) (get_or xs i d) (all j i d (elim (cases_lt j i) [ inl above ↦ above | inr low ↦ absurd (differ (omega arith)) ]) first)
  ]

  AllPairs-swap : (xs : List X) (a b : ℕ) → a < length xs → b < length xs → AllPairs R xs → AllPairs R (swap xs a b)
  AllPairs-swap xs a b inside other all i j d below within =
      let swapped = swapped_from_swap xs (swap xs a b) a b d inside other refl in
      let size : length (swap xs a b) ≡ length xs = length-swap xs a b in
      let (k, one_from) = from a b i in
      let (l, other_from) = from a b j in
      let f : ℕ → X = λ n. get_or xs n d in
      let g : ℕ → X = λ n. get_or (swap xs a b) n d in
      subst₂ R (sym (from_value f g a b i k swapped one_from)) (sym (from_value f g a b j l swapped other_from))
      (different xs all k l d (from_different a b i j k l one_from other_from (λ same. omega arith))
      (from_within a b i k (length xs) one_from inside other (omega arith)) (from_within a b j l (length xs) other_from inside other (omega arith)))

  -- what holds of any two elements holds of any two of the same list in another order
  pub AllPairs-permutation : (xs ys : List X) → IsPermutation xs ys → AllPairs R xs → AllPairs R ys
  AllPairs-permutation xs ys same all =
      IsPermutation-keeps xs (AllPairs R) all (λ zs i j first second so_far. AllPairs-swap zs i j first second so_far) ys same

module _ {X : Type 0} where
  -- an element of a list is the first one or one of the others
  pub here_or_there : (y : X) (xs : List X) (x : X) → Contains (y ∷ xs) x → (y ≡ x) ⊎ Contains xs x
  here_or_there y xs x (zero, inside, is) = inl is
  here_or_there y xs x (suc k, inside, is) = inr (k, omega arith, is)

  -- an element of a list whose elements differ is none of the earlier ones
  pub not_before : (xs : List X) (k : ℕ) (x : X) → k < length xs → AllPairs (λ y z. y ≢ z) xs → get_or xs k x ≡ x → Contains (take k xs) x → ⊥
  not_before xs k x inside once is (i, within, held) =
      let size : length (take k xs) ≡ k = length-take-le k xs (omega arith) in
      once i k x (omega arith) inside (sym (get_or-take k xs i x (omega arith)) ∙ held ∙ sym is)

module _ {X Y : Type 0} (f : X → Y) where
  pub Contains-map : (xs : List X) (x : X) → Contains xs x → Contains (map f xs) (f x)
  Contains-map [] x (place, within, is) = absurd (omega arith)
  Contains-map (y ∷ ys) x (zero, within, is) = (0, omega arith, ap f is)
  Contains-map (y ∷ ys) x (suc place, within, is) = Contains-there (f y) (map f ys) (f x) (Contains-map ys x (place, omega arith, is))

  pub Contains-from_map : (xs : List X) (y : Y) → Contains (map f xs) y → (x : X) × Contains xs x × (f x ≡ y)
  Contains-from_map [] y (place, within, is) = absurd (omega arith)
  Contains-from_map (x ∷ xs) y (zero, within, is) = (x, Contains-here x xs, is)
  Contains-from_map (x ∷ xs) y (suc place, within, is) =
      let (found, inside, same) = Contains-from_map xs y (place, omega arith, is) in
      (found, Contains-there x xs found inside, same)
