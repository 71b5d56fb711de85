-- That some edge of a boundary isn't vertical.
use Rattle.std.proofs.Common.{◌≡◌, [], ◌∷◌, inl, inr, true, false, List, refl, sym, subst, ◌∙◌, arith}
use Rattle.std.specs.List.{All, Contains}
use Rattle.std.specs.List.Sorted.{IsPermutation}
use Rattle.std.specs.Ordering.{int_eq}
use Rattle.std.proofs.lemmas.Bool.{cases_Bool}
use Rattle.std.proofs.lemmas.Bool.Decides.{Decides-int_eq}
use Rattle.std.proofs.lemmas.List.Sorted.{Contains-permutation, IsPermutation-sym}
use Rattle.i_tree.proofs.RootLemmas.Lists.{Contains-here}
use Rattle.plane.specs.declared.edge.Edge.{Edge}
use Rattle.overlay.specs.Polygons.{HasSloped}
use Rattle.overlay.specs.Fill.Filled.{IsNextInColumn}

-- where one is vertical, another isn't
pub HasSloped-next : (edges : List Edge) → All (λ edge. edge.x1 ≡ edge.x0 → IsNextInColumn edges edge) edges → HasSloped edges
HasSloped-next [] next some = absurd (some refl)
HasSloped-next (first ∷ others) next some = elim (cases_Bool (int_eq first.x1 first.x0)) [
  | inl is ↦
      let (edge, held, sloped, _) = (next 0 first (omega arith) ((Decides-int_eq first.x1 first.x0).0 is)).from in
      (edge, held, λ (same : edge.x0 ≡ edge.x1). sloped (sym same))
  | inr isnt ↦ (first, Contains-here first others, λ (same : first.x0 ≡ first.x1). never (sym ((Decides-int_eq first.x1 first.x0).1 (sym same)) ∙ isnt))
]
  where
    never : true ≡ false → ⊥
    never h = cc

-- in another order they are the same edges
pub HasSloped-permuted : (edges others : List Edge) → IsPermutation edges others → HasSloped others → HasSloped edges
HasSloped-permuted [] others moved sloped some = absurd (some refl)
HasSloped-permuted (first ∷ rest) others moved sloped some =
    let among = Contains-permutation (first ∷ rest) others first moved (Contains-here first rest) in
    let (edge, held, is) = sloped (λ empty. none (subst (λ (list : List Edge). Contains list first) empty among)) in
    (edge, Contains-permutation others (first ∷ rest) edge (IsPermutation-sym (first ∷ rest) others moved) held, is)
  where
    none : Contains [] first → ⊥
    none (k, within, is) = omega (arith, within)
