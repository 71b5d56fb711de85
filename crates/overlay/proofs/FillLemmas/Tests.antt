-- Tests of whole numbers, and which edges are over a stretch.
use Rattle.std.proofs.Common.{◌≡◌, ℤ, ◌<ℤ◌, ◌≤ℤ◌, Bool, true, false, not, refl, arith, sym, ◌∙◌}
use Rattle.std.specs.Int.Signed.{lt_z}
use Rattle.std.specs.Ordering.{int_eq}
use Rattle.std.proofs.lemmas.Bool.{and_parts, and_right}
use Rattle.std.proofs.lemmas.Bool.Decides.{Decides-int_eq}
use Rattle.std.proofs.lemmas.Int.{ints, by_lt_z}
use Rattle.plane.specs.declared.edge.Edge.{Edge}
use Rattle.overlay.specs.Fill.Counts.{is_over}

-- what the test of less says
pub lt_true : (a b : ℤ) → a <ℤ b → lt_z a b ≡ true
lt_true a b h = grind (arith, ints)

pub lt_false : (a b : ℤ) → b ≤ℤ a → lt_z a b ≡ false
lt_false a b h = grind (arith, ints)

pub lt_is : (a b : ℤ) → lt_z a b ≡ true → a <ℤ b
lt_is a b e = omega (arith, ints)

lt_not : (a b : ℤ) → lt_z a b ≡ false → b ≤ℤ a
lt_not a b e = omega (arith, ints)

-- two such tests that imply each other
pub lt_same : (a b c d : ℤ) → (a <ℤ b → c <ℤ d) → (c <ℤ d → a <ℤ b) → lt_z a b ≡ lt_z c d
lt_same a b c d there back =
    by_lt_z a b
    (λ less. lt_true a b less ∙ sym (lt_true c d (there less)))
    (λ upto. lt_false a b upto ∙ sym (lt_false c d (by_lt_z c d (λ less. let h = back less in absurd (omega (arith, ints, h, upto))) (λ h. h))))

-- what the test of equality says
pub int_eq-true : (a b : ℤ) → a ≡ b → int_eq a b ≡ true
int_eq-true a b same = (Decides-int_eq a b).1 same

pub int_eq-false : (a b : ℤ) → (a ≡ b → ⊥) → int_eq a b ≡ false
int_eq-false a b differ = by (int_eq a b) refl
  where
    by : (t : Bool) → int_eq a b ≡ t → int_eq a b ≡ false
    by true e = absurd (differ ((Decides-int_eq a b).0 e))
    by false e = e

-- ---- over the stretch from x to x + 1

-- an edge is over the stretches from its start's x up to its end's
pub over_true : (x : ℤ) (edge : Edge) → edge.x0 ≤ℤ x → x <ℤ edge.x1 → is_over x edge ≡ true
over_true x edge from before = rw (lt_false x edge.x0 from, lt_true x edge.x1 before) refl

-- before the edge starts, and from where it ends on
pub over_early : (x : ℤ) (edge : Edge) → x <ℤ edge.x0 → is_over x edge ≡ false
over_early x edge early = rw (lt_true x edge.x0 early) refl

pub over_late : (x : ℤ) (edge : Edge) → edge.x1 ≤ℤ x → is_over x edge ≡ false
over_late x edge late = and_right (not (lt_z x edge.x0)) (lt_z x edge.x1) (lt_false x edge.x1 late)

-- and over no others
pub over_is : (x : ℤ) (edge : Edge) → is_over x edge ≡ true → (edge.x0 ≤ℤ x) × (x <ℤ edge.x1)
over_is x edge e = let both = and_parts (not (lt_z x edge.x0)) (lt_z x edge.x1) e in (lt_not x edge.x0 (not_true (lt_z x edge.x0) both.0), lt_is x edge.x1 both.1)
  where
    not_true : (t : Bool) → not t ≡ true → t ≡ false
    not_true true h = cc
    not_true false h = refl
