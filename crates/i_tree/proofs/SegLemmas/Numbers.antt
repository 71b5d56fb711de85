-- What a comparison of two layout numbers says of the numbers that they stand for.
use Rattle.std.proofs.Common.{◌≡◌, ℕ, ◌<◌, ◌≤◌, ℤ, ◌<ℤ◌, ◌≤ℤ◌, Bool, false, Option, Some, IsTrue, ◌↔◌, ap, sym, ◌∙◌, arith}
use Rattle.std.specs.Ordering.{MatchOrdering, nat_cmp, int_cmp, is_lt, is_le, is_some_and, partial_lt, partial_le}
use Rattle.std.specs.declared.cmp.Ordering.{Ordering}
use Rattle.std.specs.declared.cmp.Ordering.TheVariants.{Less, Equal, Greater}
use Rattle.std.proofs.lemmas.Cmp.{ranked, int_ranked}
use Rattle.std.proofs.lemmas.Int.{ints}
use Rattle.i_tree.specs.Seg.Buckets.{Accepts}

module _ {N : Type 0} (partial-cmp : N → N → Option Ordering) (cmp : N → N → Ordering) (agrees : (x y : N) → partial-cmp x y ≡ Some (cmp x y)) where
  -- an unsigned number that isn't below another is at least that one
  module _ (number : N → ℕ) (order : (x y : N) → cmp x y ≡ nat_cmp (number x) (number y)) where
    pub number_not_lt : (x y : N) → partial_lt partial-cmp x y ≡ false → number y ≤ number x
    number_not_lt x y refuted = told (cmp x y) (ranked (number x) (number y) (cmp x y) (order x y)) (sym (ap (is_some_and is_lt) (agrees x y)) ∙ refuted)
      where
        told : (r : Ordering) → MatchOrdering r (number x < number y) (number x ≡ number y) (number y < number x) → is_lt r ≡ false → number y ≤ number x
        told Less h refuted = cc
        told Equal h refuted = omega arith
        told Greater h refuted = omega arith

  module _ (whole : N → ℤ) (order : (x y : N) → cmp x y ≡ int_cmp (whole x) (whole y)) where
    whole_not_lt : (x y : N) → partial_lt partial-cmp x y ≡ false → whole y ≤ℤ whole x
    whole_not_lt x y refuted = told (cmp x y) (int_ranked (whole x) (whole y) (cmp x y) (order x y)) (sym (ap (is_some_and is_lt) (agrees x y)) ∙ refuted)
      where
        told : (r : Ordering) → MatchOrdering r (whole x <ℤ whole y) (whole x ≡ whole y) (whole y <ℤ whole x) → is_lt r ≡ false → whole y ≤ℤ whole x
        told Less h refuted = cc
        told Equal h refuted = omega (arith, ints)
        told Greater h refuted = omega (arith, ints)

    -- a range that goes upwards from the start on is accepted where it doesn't pass the end
    pub accepts_upto : (start end low high : N) (width : ℕ) (answer : Bool) → partial_lt partial-cmp low start ≡ false → partial_lt partial-cmp high low ≡ false → answer ≡ partial_le partial-cmp high end
        → IsTrue answer ↔ Accepts (record { start = whole start; end = whole end; width = width }) (whole low) (whole high)
    accepts_upto start end low high width answer above upwards upto =
        told answer (cmp high end) (int_ranked (whole high) (whole end) (cmp high end) (order high end)) (upto ∙ ap (is_some_and is_le) (agrees high end))
      where
        told : (answer : Bool) (r : Ordering) → MatchOrdering r (whole high <ℤ whole end) (whole high ≡ whole end) (whole end <ℤ whole high) → answer ≡ is_le r → IsTrue answer ↔ Accepts (record { start = whole start; end = whole end; width = width }) (whole low) (whole high)
        told answer Less h is = (λ _. record { above = whole_not_lt low start above; order = whole_not_lt high low upwards; below = omega (arith, ints) }, λ _. is)
        told answer Equal h is = (λ _. record { above = whole_not_lt low start above; order = whole_not_lt high low upwards; below = omega (arith, ints) }, λ _. is)
        told answer Greater h is = (λ answered. cc, λ accepted. let below = accepted.below in absurd (omega (arith, ints)))
