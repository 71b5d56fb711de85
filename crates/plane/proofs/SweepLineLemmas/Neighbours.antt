-- The last that an order doesn't call Greater and the first that it does, where it calls those in front Less and those behind Greater.
use Rattle.std.proofs.Common.{◌≡◌, ◌≢◌, ◌≤◌, Option, None, Some, List, [], ◌∷◌, ◌++◌, get_or, ap, subst, arith}
use Rattle.std.specs.List.{All}
use Rattle.std.specs.Ordering.{ordering_index}
use Rattle.std.specs.declared.cmp.Ordering.{Ordering}
use Rattle.std.specs.declared.cmp.Ordering.TheVariants.{Less, Equal, Greater}
use Rattle.std.proofs.lemmas.List.Elements.{All-head, All-tail, All-weaker}
use Rattle.i_tree.proofs.RootLemmas.Along.{Rises}
use Rattle.i_tree.proofs.RootLemmas.Joined.{AllPairs-append}
use Rattle.i_tree.specs.Root.Along.{AreNeighbours, IsFirst, IsLast, IsMonotoneAlong}
use Rattle.plane.proofs.SweepLineLemmas.Adjacent.{All-at}

module _ {X : Type 0} (P : X → Type 0) where
  -- two cuts of one list at the last element that meets P
  last_same : (xs : List X) (x : X) (ys ts : List X) (t : X) (us : List X) → xs ++ x ∷ ys ≡ ts ++ t ∷ us
      → P x → All (λ y. ¬ (P y)) ys → P t → All (λ y. ¬ (P y)) us → t ≡ x
  last_same [] x ys [] t us is meets none meets_too none_too = cc
  last_same [] x ys (z ∷ ts) t us is meets none meets_too none_too =
      let rest : ys ≡ ts ++ t ∷ us = cc in
      absurd (All-at (λ y. ¬ (P y)) ts t us (subst (All (λ y. ¬ (P y))) rest none) meets_too)
  last_same (z ∷ xs) x ys [] t us is meets none meets_too none_too =
      let rest : us ≡ xs ++ x ∷ ys = cc in
      absurd (All-at (λ y. ¬ (P y)) xs x ys (subst (All (λ y. ¬ (P y))) rest none_too) meets)
  last_same (w ∷ xs) x ys (z ∷ ts) t us is meets none meets_too none_too =
      let rest : xs ++ x ∷ ys ≡ ts ++ t ∷ us = cc in
      last_same xs x ys ts t us rest meets none meets_too none_too

  -- and at the first
  first_same : (xs : List X) (x : X) (ys ts : List X) (t : X) (us : List X) → xs ++ x ∷ ys ≡ ts ++ t ∷ us
      → P x → All (λ y. ¬ (P y)) xs → P t → All (λ y. ¬ (P y)) ts → t ≡ x
  first_same [] x ys [] t us is meets none meets_too none_too = cc
  first_same [] x ys (z ∷ ts) t us is meets none meets_too none_too =
      let here : x ≡ z = cc in
      absurd (All-head (λ y. ¬ (P y)) z ts none_too (subst P here meets))
  first_same (z ∷ xs) x ys [] t us is meets none meets_too none_too =
      let here : t ≡ z = cc in
      absurd (All-head (λ y. ¬ (P y)) z xs none (subst P here meets_too))
  first_same (w ∷ xs) x ys (z ∷ ts) t us is meets none meets_too none_too =
      let rest : xs ++ x ∷ ys ≡ ts ++ t ∷ us = cc in
      first_same xs x ys ts t us rest meets (All-tail (λ y. ¬ (P y)) w xs none) meets_too (All-tail (λ y. ¬ (P y)) z ts none_too)

module _ {K V : Type 0} (P : K × V → Type 0) where
  IsLast-is : (front : List (K × V)) (last : K × V) (back : List (K × V)) (found : Option (K × V)) → P last → All (λ pair. ¬ (P pair)) back → IsLast P (front ++ last ∷ back) found → found ≡ Some last
  IsLast-is front last back None meets none is = absurd (All-at (λ pair. ¬ (P pair)) front last back is meets)
  IsLast-is front last back (Some pair) meets none (before, behind, cut, meets_too, none_too) =
      ap (λ (one : K × V). Some one) (last_same P front last back before pair behind cut meets none meets_too none_too)

  IsFirst-is : (front : List (K × V)) (first : K × V) (back : List (K × V)) (found : Option (K × V)) → P first → All (λ pair. ¬ (P pair)) front → IsFirst P (front ++ first ∷ back) found → found ≡ Some first
  IsFirst-is front first back None meets none is = absurd (All-at (λ pair. ¬ (P pair)) front first back is meets)
  IsFirst-is front first back (Some pair) meets none (before, behind, cut, meets_too, none_too) =
      ap (λ (one : K × V). Some one) (first_same P front first back before pair behind cut meets none meets_too none_too)

pub less_first : (r s : Ordering) → r ≡ Less → ordering_index r ≤ ordering_index s
less_first r s less = omega (arith, ap ordering_index less)

pub greater_last : (r s : Ordering) → s ≡ Greater → ordering_index r ≤ ordering_index s
greater_last Less s greater = omega (arith, ap ordering_index greater)
greater_last Equal s greater = omega (arith, ap ordering_index greater)
greater_last Greater s greater = omega (arith, ap ordering_index greater)

module _ {K V : Type 0} (order : K → Ordering) where
  -- an order is monotone along those that it calls Less and those behind them that it calls Greater
  pub IsMonotoneAlong-between : (front back : List (K × V)) → All (λ pair. order pair.0 ≡ Less) front → All (λ pair. order pair.0 ≡ Greater) back → IsMonotoneAlong order (front ++ back)
  IsMonotoneAlong-between front back less greater =
      AllPairs-append (Rises order) front back
      (λ i j d below within. less_first (order (get_or front i d).0) (order (get_or front j d).0) (less i d (omega (arith, below, within))))
      (λ i j d below within. greater_last (order (get_or back i d).0) (order (get_or back j d).0) (greater j d within))
      (λ i d inside j e within. less_first (order (get_or front i d).0) (order (get_or back j e).0) (less i d inside))

  -- its neighbours are the last of the ones and the first of the others
  pub last_neighbour : (rest : List (K × V)) (last : K × V) (back : List (K × V)) (found : Option (K × V) × Option (K × V))
      → order last.0 ≡ Less → All (λ pair. order pair.0 ≡ Greater) back → AreNeighbours order (rest ++ last ∷ back) found → found.0 ≡ Some last
  last_neighbour rest last back found less greater are =
      IsLast-is (λ (pair : K × V). order pair.0 ≢ Greater) rest last back found.0
      (λ above. absurd (cc (less, above)))
      (All-weaker (λ (pair : K × V). order pair.0 ≡ Greater) (λ pair. ¬ (order pair.0 ≢ Greater)) (λ pair above apart. apart above) back greater)
      are.0

  pub first_neighbour : (front : List (K × V)) (first : K × V) (rest : List (K × V)) (found : Option (K × V) × Option (K × V))
      → All (λ pair. order pair.0 ≡ Less) front → order first.0 ≡ Greater → AreNeighbours order (front ++ first ∷ rest) found → found.1 ≡ Some first
  first_neighbour front first rest found less greater are =
      IsFirst-is (λ (pair : K × V). order pair.0 ≡ Greater) front first rest found.1 greater
      (All-weaker (λ (pair : K × V). order pair.0 ≡ Less) (λ pair. ¬ (order pair.0 ≡ Greater)) (λ pair below above. absurd (cc (below, above))) front less)
      are.1
