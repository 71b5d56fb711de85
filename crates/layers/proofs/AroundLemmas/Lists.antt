-- Items of lists of which something holds.
use Rattle.std.proofs.Common.{◌⊎◌, inl, inr, zero, suc, List, [], ◌∷◌, ◌++◌, sym, subst, arith}
use Rattle.std.specs.List.{Any}

module _ {X : Type 0} (P : X → Type 0) where
  pub Any-none : ¬ (Any P [])
  Any-none (k, x, within, is, holds) = omega (arith, within)

  pub Any-head : (x : X) (xs : List X) → P x → Any P (x ∷ xs)
  Any-head x xs holds = (0, x, omega arith, cc, holds)

  pub Any-tail : (x : X) (xs : List X) → Any P xs → Any P (x ∷ xs)
  Any-tail x xs (k, y, within, is, holds) = (suc k, y, omega (arith, within), is, holds)

  pub Any-cons_cases : (x : X) (xs : List X) → Any P (x ∷ xs) → P x ⊎ Any P xs
  Any-cons_cases x xs (zero, y, within, is, holds) = inl (subst P (sym is) holds)
  Any-cons_cases x xs (suc k, y, within, is, holds) = inr (k, y, omega (arith, within), is, holds)

  pub Any-append_left : (xs ys : List X) → Any P xs → Any P (xs ++ ys)
  Any-append_left [] ys some = absurd (Any-none some)
  Any-append_left (x ∷ xs) ys some = elim (Any-cons_cases x xs some) [
    | inl here ↦ Any-head x (xs ++ ys) here
    | inr there ↦ Any-tail x (xs ++ ys) (Any-append_left xs ys there)
  ]

  pub Any-append_right : (xs ys : List X) → Any P ys → Any P (xs ++ ys)
  Any-append_right [] ys some = some
  Any-append_right (x ∷ xs) ys some = Any-tail x (xs ++ ys) (Any-append_right xs ys some)

  pub Any-append_cases : (xs ys : List X) → Any P (xs ++ ys) → Any P xs ⊎ Any P ys
  Any-append_cases [] ys some = inr some
  Any-append_cases (x ∷ xs) ys some = elim (Any-cons_cases x (xs ++ ys) some) [
    | inl here ↦ inl (Any-head x xs here)
    | inr there ↦ elim (Any-append_cases xs ys there) [
      | inl first ↦ inl (Any-tail x xs first)
      | inr second ↦ inr second
    ]
  ]
