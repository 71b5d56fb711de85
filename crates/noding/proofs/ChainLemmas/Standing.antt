-- Where each list stands among the items of all, by where it stops.
use Rattle.std.proofs.Common.{◌≡◌, ◌<◌, ◌≤◌, ◌+◌, ℕ, zero, suc, List, [], ◌∷◌, length, take, get_or, refl, ap, ◌∙◌, arith}
use Rattle.std.proofs.lemmas.List.{length-append}
use Rattle.std.proofs.lemmas.List.Folds.{length-flat_map-take}
use Rattle.noding.specs.Offsets.{AreJoined, between, offsets}
use Rattle.noding.proofs.ChainLemmas.Offsets.{joined, list-between, offset-at}

module _ {X : Type 0} where
  -- each list stops somewhere
  pub length-offsets : (start : ℕ) (lists : List (List X)) → length (offsets start lists) ≡ length lists
  length-offsets start [] = refl
  length-offsets start (list ∷ lists) = ap suc (length-offsets (start + length list) lists)

  length-joined : (lists : List (List X)) (i : ℕ) (d : List X) → i < length lists → length (joined (take (suc i) lists)) ≡ length (joined (take i lists)) + length (get_or lists i d)
  length-joined [] i d within = absurd (omega (arith, within))
  length-joined (list ∷ lists) zero d within = omega (arith, length-append list [])
  length-joined (list ∷ lists) (suc i) d within =
      let later = length-joined lists i d (omega (arith, within)) in
      omega (arith, later, length-append list (joined (take (suc i) lists)), length-append list (joined (take i lists)))

  -- The list at this place begins where those before it stop, it stops within all items, and from there to here it stands.
  pub record IsNext (lists : List (List X)) (items : List X) (ends : List ℕ) (i start : ℕ) : Type 0 where
    pub inside : i < length lists
    pub rising : start ≤ get_or ends i 0
    pub within : get_or ends i 0 ≤ length items
    pub is : between start (get_or ends i 0) items ≡ get_or lists i []
    pub stops : get_or ends i 0 ≡ length (joined (take (i + 1) lists))

  pub IsNext-at : (lists : List (List X)) (items : List X) (ends : List ℕ) (i start : ℕ) → AreJoined lists items ends → i < length ends → start ≡ length (joined (take i lists)) → IsNext lists items ends i start
  IsNext-at lists items ends i start (items_are, ends_are) before begins =
      let inside : i < length lists = omega (arith, before, ap length ends_are, length-offsets 0 lists) in
      let first : get_or ends i 0 ≡ get_or (offsets 0 lists) i 0 = ap (λ (all : List ℕ). get_or all i 0) ends_are in
      let stops : get_or ends i 0 ≡ length (joined (take (suc i) lists)) = omega (arith, first, offset-at 0 lists i 0 inside) in
      let one : suc i ≡ i + 1 = omega arith in
      let longer = length-joined lists i [] inside in
      let all = length-flat_map-take (λ (list : List X). list) lists i [] inside in record {
        inside = inside;
        rising = omega (arith, begins, stops, longer);
        within = omega (arith, stops, longer, all, ap length items_are);
        is = ap (λ (xs : List X). between start (get_or ends i 0) xs) items_are
            ∙ ap (λ (n : ℕ). between n (get_or ends i 0) (joined lists)) begins
            ∙ ap (λ (n : ℕ). between (length (joined (take i lists))) n (joined lists)) stops
            ∙ list-between lists i [] inside;
        stops = stops ∙ ap (λ (n : ℕ). length (joined (take n lists))) one;
      }
