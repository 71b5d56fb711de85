-- A closure that compares with one key is monotone.
use Rattle.std.proofs.Common.{◌≡◌, ◌≤◌, List, get_or, refl, arith}
use Rattle.std.specs.Cmp.{IsTotalOrder}
use Rattle.std.specs.Ordering.{on, ordering_index}
use Rattle.std.specs.declared.cmp.Ordering.{Ordering}
use Rattle.std.specs.declared.cmp.Ordering.TheVariants.{Less, Equal, Greater}
use Rattle.i_tree.specs.Root.Answer.{IsMonotone}

module _ {K N V : Type 0} {cmp : N → N → Ordering} (o : IsTotalOrder cmp) (number : K → N) where
  pub IsMonotone-compare : (sought : N) (pairs : List (K × V)) → IsMonotone (on number cmp) (λ key. cmp (number key) sought) pairs
  IsMonotone-compare sought pairs i d inside j e within = rises (number (get_or pairs i d).0) (number (get_or pairs j e).0)
    where
      rises : (a b : N) → cmp a b ≡ Less → ordering_index (cmp a sought) ≤ ordering_index (cmp b sought)
      rises a b below = by_answer (cmp b sought) refl
        where
          at_most_greater : (r : Ordering) → ordering_index r ≤ 2
          at_most_greater Less = omega arith
          at_most_greater Equal = omega arith
          at_most_greater Greater = omega arith

          by_answer : (r : Ordering) → cmp b sought ≡ r → ordering_index (cmp a sought) ≤ ordering_index (cmp b sought)
          by_answer r e = grind (arith, at_most_greater)
