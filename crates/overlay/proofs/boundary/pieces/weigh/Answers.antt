use Rattle.std.proofs.Common.{◌≡◌, ◌<◌, ◌+◌, ◌++◌, ◌∷◌, [], ℕ, List, ap, ap₂, arith, drop, get_or, length, map, suc, sym, take, ℤ, ◌∙◌, append_assoc, append-nil, of_z, rules, to_z, w64}
use Rattle.std.specs.List.{slice_set}
use Rattle.std.proofs.Math.Seq.{drop-cons, get_or-append_seam, set-append_seam}
use Rattle.std.proofs.lemmas.List.{length-map, length-take-le, map-append, take_all, drop_all, take_more}
use Rattle.overlay.specs.declared.fill.pieces.Piece.{Piece}
use Rattle.overlay.specs.Fill.Sweep.{no_piece}
use Rattle.overlay.specs.Joined.{weighed}
use Rattle.overlay.proofs.boundary.pieces.weigh.Goals as goal

module _ (f : Piece → Piece) (xs now : List Piece) (k : ℕ) (is : now ≡ map f (take k xs) ++ drop k xs) (within : k < length xs) where
  front : length (map f (take k xs)) ≡ k
  front = length-map (take k xs) f ∙ length-take-le k xs (omega (arith, within))

  split : now ≡ map f (take k xs) ++ get_or xs k no_piece ∷ drop (suc k) xs
  split = is ∙ ap (λ (rest : List Piece). map f (take k xs) ++ rest) (drop-cons xs k no_piece within)

  here : get_or now k no_piece ≡ get_or xs k no_piece
  here = ap₂ (λ (list : List Piece) (n : ℕ). get_or list n no_piece) split (sym front) ∙ get_or-append_seam (map f (take k xs)) (get_or xs k no_piece) (drop (suc k) xs) no_piece

  next : (y : Piece) → y ≡ f (get_or xs k no_piece) → slice_set now k y ≡ map f (take (k + 1) xs) ++ drop (k + 1) xs
  next y same =
      ap₂ (λ (list : List Piece) (n : ℕ). slice_set list n y) split (sym front)
      ∙ set-append_seam (map f (take k xs)) (get_or xs k no_piece) (drop (suc k) xs) y
      ∙ ap (λ (z : Piece). map f (take k xs) ++ z ∷ drop (suc k) xs) same
      ∙ sym (append_assoc (map f (take k xs)) (f (get_or xs k no_piece) ∷ []) (drop (suc k) xs))
      ∙ ap (λ (list : List Piece). list ++ drop (suc k) xs) (sym (map-append f (take k xs) (get_or xs k no_piece ∷ [])) ∙ ap (map f) (sym (take_more xs k no_piece within)))
      ∙ ap (λ (n : ℕ). map f (take (k + 1) xs) ++ drop n xs) step
    where
      step : suc k ≡ k + 1
      step = omega arith

pub loop-piece-preserved : goal.loop-piece-preserved
loop-piece-preserved c =
    let stretch = c.args.stretch in
    let now = c.loop-piece.pieces in
    let k = c.loop-piece.piece-index in
    let subject : to_z w64 (of_z w64 stretch.subject) ≡ stretch.subject = search rules in
    let clip : to_z w64 (of_z w64 stretch.clip) ≡ stretch.clip = search rules in
    let within : k < length c.args.pieces.now = omega (arith, c.loop-piece-test.true) in
    next (weighed stretch) c.args.pieces.now now k c.loop-piece.invariant within
    (record { edge = (get_or now k no_piece).edge; subject = to_z w64 (of_z w64 stretch.subject); clip = to_z w64 (of_z w64 stretch.clip) })
    (ap₂ (λ (a b : ℤ). record { edge = (get_or now k no_piece).edge; subject = a; clip = b }) subject clip ∙ ap (weighed stretch) (here (weighed stretch) c.args.pieces.now now k c.loop-piece.invariant within))

pub returns : goal.returns
returns c =
    let pieces = c.args.pieces.now in
    let k = c.loop-piece.piece-index in
    let past = c.loop-piece-test.false in
    c.loop-piece.invariant
    ∙ ap₂ (λ (front rest : List Piece). map (weighed c.args.stretch) front ++ rest) (take_all k pieces past) (drop_all k pieces past)
    ∙ append-nil (map (weighed c.args.stretch) pieces)
