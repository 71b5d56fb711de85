-- The earliest exchange that a heap tells.
use Rattle.std.proofs.Common.{◌≡◌, ℤ, ◌≤ℤ◌, true, false, List, map, refl, ◌∙◌, sym}
use Rattle.std.specs.BinaryHeap.{IsUpperBound}
use Rattle.std.specs.List.{All}
use Rattle.std.specs.Ordering.{int_cmp, is_lt, ordering_then}
use Rattle.std.specs.declared.cmp.Ordering.{Ordering}
use Rattle.std.specs.declared.cmp.Ordering.TheVariants.{Less}
use Rattle.std.specs.declared.cmp.Reverse.{Reverse}
use Rattle.std.proofs.lemmas.Int.{by_lt_z}
use Rattle.std.proofs.lemmas.List.Elements.{All-from_recursion, All-map, All-weaker}
use Rattle.plane.specs.declared.columns.exchanges.Exchange.{Exchange}
use Rattle.plane.proofs.SweepLineLemmas.Comparisons.{says_less}

-- where the moment of the one isn't told Less than that of the other, it isn't
from_not_less : (a b : ℤ) (rest : Ordering) → is_lt (ordering_then (int_cmp a b) rest) ≡ false → b ≤ℤ a
from_not_less a b rest is =
    by_lt_z a b
    (λ less. let less_told : int_cmp a b ≡ Less = says_less a b less in
    let told : is_lt (ordering_then (int_cmp a b) rest) ≡ true = rw less_told refl in
    let both : true ≡ false = sym told ∙ is in cc)
    (λ upto. upto)

-- of a heap in the order of moments, turned round, the greatest is the earliest
pub earliest_from_greatest : (last : Exchange → Exchange → Ordering) (first : Reverse Exchange) (items : List (Reverse Exchange))
    → IsUpperBound (λ one other. ordering_then (int_cmp other.0.moment one.0.moment) (last other.0 one.0)) first items
    → All (λ exchange. first.0.moment ≤ℤ exchange.moment) (map (λ item. item.0) items)
earliest_from_greatest last first items bound =
    All-map (λ (exchange : Exchange). first.0.moment ≤ℤ exchange.moment) (λ (item : Reverse Exchange). item.0) items
    (All-weaker (λ (item : Reverse Exchange). is_lt (ordering_then (int_cmp item.0.moment first.0.moment) (last item.0 first.0)) ≡ false) (λ item. first.0.moment ≤ℤ item.0.moment)
    (λ item is. from_not_less item.0.moment first.0.moment (last item.0 first.0) is)
    items (All-from_recursion _ items bound))
