-- The order along the status: how its comparisons, one after another, are read.
use Rattle.std.proofs.Common.{◌≡◌, ◌≢◌, ◌==◌, ◌<ℤ◌, ℤ, not, true, false, refl, sym, arith}
use Rattle.std.specs.Cmp.{int_cmp_is}
use Rattle.std.proofs.lemmas.Int.{ints, by_lt_z}
use Rattle.std.specs.Ordering.{int_cmp, ordering_index}
use Rattle.std.specs.declared.cmp.Ordering.{Ordering}
use Rattle.std.specs.declared.cmp.Ordering.TheVariants.{Less, Equal, Greater}
use Rattle.plane.specs.SweepLine.Active.{then_cmp}
use Rattle.plane.proofs.SweepLineLemmas.Comparisons.{says_less, says_greater}

-- the first comparison tells where it isn't Equal
pub then_cmp-unequal : (first second : Ordering) → not (ordering_index first == 1) ≡ true → first ≡ then_cmp first second
then_cmp-unequal Less second unequal = refl
then_cmp-unequal Equal second unequal = cc
then_cmp-unequal Greater second unequal = refl

-- and the second where it is
pub then_cmp-equal : (first second : Ordering) → not (ordering_index first == 1) ≡ false → second ≡ then_cmp first second
then_cmp-equal Less second equal = cc
then_cmp-equal Equal second equal = refl
then_cmp-equal Greater second equal = cc

-- the same of two numbers that are compared first
pub then_cmp-differ : (a b : ℤ) (second : Ordering) → a ≢ b → int_cmp a b ≡ then_cmp (int_cmp a b) second
then_cmp-differ a b second differ =
    by_lt_z a b (λ below. rw (says_less a b below) refl)
    (λ upto.
    let above : b <ℤ a = omega (arith, ints, upto, differ) in
    rw (says_greater a b above) refl)

pub then_cmp-same : (a b : ℤ) (second : Ordering) → a ≡ b → second ≡ then_cmp (int_cmp a b) second
then_cmp-same a b second same = rw (sym (int_cmp_is a b Equal same)) refl
