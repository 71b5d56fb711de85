-- Numbers that are joined by links fall into classes. Each class has a number that stands for it.
use Rattle.std.proofs.Common.{◌≡◌, ◌==◌, ℕ, zero, suc, Bool, true, false, cond, List, [], ◌∷◌, ap, refl, sym, subst, ◌∙◌, arith}
use Rattle.std.specs.List.{Contains}
use Rattle.std.proofs.lemmas.Bool.Decides.{Decides-eqb}
use Rattle.i_tree.proofs.RootLemmas.Lists.{Contains-here, Contains-there}

-- The number that stands for the class of this one: each link makes one class of two.
abbrev pub class_of : List (ℕ × ℕ) → ℕ → ℕ
class_of [] one = one
class_of (link ∷ links) one = cond (class_of links one == class_of links link.0) (class_of links link.1) (class_of links one)

-- what is linked is of one class
pub class-linked : (links : List (ℕ × ℕ)) (link : ℕ × ℕ) → Contains links link → class_of links link.0 ≡ class_of links link.1
class-linked [] link (k, within, is) = absurd (omega (arith, within))
class-linked (first ∷ links) link (zero, within, is) =
    let here = class_of links first.0 in
    let there = class_of links first.1 in
    subst (λ (one : ℕ × ℕ). class_of (first ∷ links) one.0 ≡ class_of (first ∷ links) one.1) is
    (by (here == here) (there == here) here there ((Decides-eqb here here).1 refl))
  where
    by : (s t : Bool) (here there : ℕ) → s ≡ true → cond s there here ≡ cond t there there
    by true true here there told = refl
    by true false here there told = refl
    by false t here there told = cc
class-linked (first ∷ links) link (suc k, within, is) =
    ap (λ (class : ℕ). cond (class == class_of links first.0) (class_of links first.1) class) (class-linked links link (k, omega (arith, within), is))

-- And in one class are only numbers that stand in each relation that the linked ones stand in.
module _ (R : ℕ → ℕ → Type 0) (itself : (one : ℕ) → R one one) (over : (one mid other : ℕ) → R one mid → R mid other → R one other) where
  pub class-joins : (links : List (ℕ × ℕ)) → ((link : ℕ × ℕ) → Contains links link → R link.0 link.1 × R link.1 link.0)
      → (one other : ℕ) → class_of links one ≡ class_of links other → R one other
  class-joins [] each one other same = subst (R one) same (itself one)
  class-joins (first ∷ links) each one other same =
      let (there, back) = each first (Contains-here first links) in
      by (class-joins links (λ link held. each link (Contains-there first links link held))) there back
      (class_of links one == class_of links first.0) (class_of links other == class_of links first.0) refl refl same
    where
      alike : (a b : ℕ) → (class_of links a == class_of links b) ≡ true → class_of links a ≡ class_of links b
      alike a b told = (Decides-eqb (class_of links a) (class_of links b)).0 told

      by : ((a b : ℕ) → class_of links a ≡ class_of links b → R a b) → R first.0 first.1 → R first.1 first.0
          → (s t : Bool) → (class_of links one == class_of links first.0) ≡ s → (class_of links other == class_of links first.0) ≡ t
          → cond s (class_of links first.1) (class_of links one) ≡ cond t (class_of links first.1) (class_of links other) → R one other
      by rest there back true true is is_too same =
          rest one other (alike one first.0 is ∙ sym (alike other first.0 is_too))
      by rest there back true false is isnt same =
          over one first.0 other (rest one first.0 (alike one first.0 is)) (over first.0 first.1 other there (rest first.1 other same))
      by rest there back false true isnt is same =
          over one first.1 other (rest one first.1 same) (over first.1 first.0 other back (rest first.0 other (sym (alike other first.0 is))))
      by rest there back false false isnt isnt_too same = rest one other same
