-- What a total order answers of two things by what it answers of them in the other order.
use Rattle.std.proofs.Common.{arith, ◌≡◌, ◌≢◌, true, false, not, refl, sym, ap, ◌∙◌}
use Rattle.std.specs.Cmp.{IsTotalOrder}
use Rattle.std.specs.Ordering.{is_ge, is_gt, is_lt, ordering_reverse}
use Rattle.std.specs.declared.cmp.Ordering.{Ordering}
use Rattle.std.specs.declared.cmp.Ordering.TheVariants.{Less, Equal, Greater}
use Rattle.std.proofs.lemmas.Bool.{not-true}

gt-reverse : (r : Ordering) → is_gt (ordering_reverse r) ≡ is_lt r
gt-reverse r = grind arith

ge-reverse : (r : Ordering) → is_ge (ordering_reverse r) ≡ not (is_gt r)
ge-reverse r = grind arith

module _ {T : Type 0} {cmp : T → T → Ordering} (o : IsTotalOrder cmp) where
  pub gt-reversed : (a b : T) → is_gt (cmp a b) ≡ is_lt (cmp b a)
  gt-reversed a b = ap is_gt (o.antisymm a b) ∙ gt-reverse (cmp b a)

  pub ge-reversed : (a b : T) → is_ge (cmp a b) ≡ not (is_gt (cmp b a))
  ge-reversed a b = ap is_ge (o.antisymm a b) ∙ ge-reverse (cmp b a)

  -- what is at or after another isn't exceeded by it, and the other way round
  pub at_or_after-reversed : (a b : T) → is_ge (cmp a b) ≡ true → is_gt (cmp b a) ≡ false
  at_or_after-reversed a b h = not-true (is_gt (cmp b a)) (sym (ge-reversed a b) ∙ h)

  pub not_after-reversed : (a b : T) → is_gt (cmp b a) ≡ false → is_ge (cmp a b) ≡ true
  not_after-reversed a b h = ge-reversed a b ∙ ap not h

  -- what is neither less nor equal is greater
  pub above : (a b : T) → cmp a b ≢ Less → cmp a b ≢ Equal → cmp b a ≡ Less
  above a b apart_less apart_equal = by_answer (cmp a b) (cmp b a) (o.antisymm b a) apart_less apart_equal
    where
      by_answer : (r s : Ordering) → s ≡ ordering_reverse r → r ≢ Less → r ≢ Equal → s ≡ Less
      by_answer Less s e apart_less apart_equal = absurd (apart_less refl)
      by_answer Equal s e apart_less apart_equal = absurd (apart_equal refl)
      by_answer Greater s e apart_less apart_equal = e
