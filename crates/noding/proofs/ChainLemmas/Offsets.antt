-- Lists in one list, by where each stops.
use Rattle.std.proofs.Common.{◌≡◌, ℕ, zero, suc, ◌+◌, ◌<◌, List, [], ◌∷◌, ◌++◌, length, get_or, take, drop, sym, ap, ap₂, ◌∙◌, append-nil, arith}
use Rattle.std.specs.List.{flat_map}
use Rattle.std.proofs.lemmas.List.{length-append}
use Rattle.std.proofs.Math.Seq.{drop-append-add, take-append_seam}
use Rattle.noding.specs.Offsets.{between, offsets}

module _ {X : Type 0} where
  -- the lists one after another
  abbrev pub joined : List (List X) → List X
  joined lists = flat_map (λ list. list) lists

  -- where a list stops
  pub offset-at : (start : ℕ) (lists : List (List X)) (k d : ℕ) → k < length lists → get_or (offsets start lists) k d ≡ start + length (joined (take (suc k) lists))
  offset-at start [] k d within = absurd (omega (arith, within))
  offset-at start (list ∷ lists) zero d within = ap (λ (l : List X). start + length l) (sym (append-nil list))
  offset-at start (list ∷ lists) (suc k) d within =
      offset-at (start + length list) lists k d (omega (arith, within)) ∙ omega (arith, length-append list (joined (take (suc k) lists)))

  -- each list stands from where the one before it stops up to where it stops itself
  pub list-between : (lists : List (List X)) (k : ℕ) (d : List X) → k < length lists → between (length (joined (take k lists))) (length (joined (take (suc k) lists))) (joined lists) ≡ get_or lists k d
  list-between [] k d within = absurd (omega (arith, within))
  list-between (list ∷ lists) zero d within =
      ap (λ (n : ℕ). take n (list ++ joined lists)) (omega (arith, ap (λ (l : List X). length l) (append-nil list))) ∙ take-append_seam list (joined lists)
  list-between (list ∷ lists) (suc k) d within =
      let before = joined (take k lists) in
      let upto = joined (take (suc k) lists) in
      ap₂ (λ (n : ℕ) (rest : List X). take n rest)
      (omega (arith, length-append list before, length-append list upto))
      (ap (λ (n : ℕ). drop n (list ++ joined lists)) (length-append list before) ∙ drop-append-add list (joined lists) (length before))
      ∙ list-between lists k d (omega (arith, within))
