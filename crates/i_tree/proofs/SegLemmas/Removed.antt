-- What a removal by the last item's move leaves behind a place.
use Rattle.std.proofs.Common.{◌≡◌, ℕ, ◌+◌, ◌-◌, ◌<◌, List, ◌∷◌, length, get_or, set, take, drop, ap, sym, ◌∙◌, arith, IsPermutation}
use Rattle.std.specs.List.{swap_remove}
use Rattle.std.proofs.lemmas.List.{drop-set, drop-take, drop_more, get_or-drop, length-drop}
use Rattle.std.proofs.lemmas.List.Sorted.{IsPermutation-swap_remove}

module _ {X : Type 0} where
  -- the items from a place on, after the one there was removed by the last one's move into its place
  pub drop-swap_remove : (xs : List X) (i : ℕ) (d : X) → i < length xs → drop i (swap_remove xs i d) ≡ swap_remove (drop i xs) 0 d
  drop-swap_remove xs i d within =
      let last : get_or xs (length xs - 1) d ≡ get_or (drop i xs) (length (drop i xs) - 1) d =
      ap (λ (at : ℕ). get_or xs at d) (omega (arith, length-drop i xs)) ∙ sym (get_or-drop i xs (length (drop i xs) - 1) d) in
      let rest : length xs - 1 ≡ i + (length (drop i xs) - 1) = omega (arith, length-drop i xs) in
      ap (λ (count : ℕ). drop i (take count (set xs i (get_or xs (length xs - 1) d)))) rest
      ∙ drop-take i (length (drop i xs) - 1) (set xs i (get_or xs (length xs - 1) d))
      ∙ ap (λ (items : List X). take (length (drop i xs) - 1) items) (
      drop-set xs i (get_or xs (length xs - 1) d) within
      ∙ ap (λ (item : X). item ∷ drop (i + 1) xs) last
      ∙ sym (ap (λ (items : List X). set items 0 (get_or (drop i xs) (length (drop i xs) - 1) d)) (drop_more xs i d within))
      )

  -- the items from the removed one on are it and those that are there then
  pub removed-behind : (xs : List X) (i : ℕ) (x : X) → i < length xs → x ≡ get_or xs i x → IsPermutation (drop i xs) (x ∷ drop i (swap_remove xs i x))
  removed-behind xs i x within is = grind (arith, drop-swap_remove, IsPermutation-swap_remove, length-drop, get_or-drop)
