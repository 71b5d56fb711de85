-- Parts of a list of pieces of different edges: whichever of a part are asked for, they weigh at most what those of all may.
use Rattle.std.proofs.Common.{◌≡◌, ◌≢◌, ◌++◌, [], ◌∷◌, Bool, true, false, not, cond, ◌&&◌, ℕ, ℤ, pos, ◌+ℤ◌, List, get_or, take, drop, refl, sym, subst, ◌∙◌, arith, append-nil, append_assoc}
use Rattle.std.specs.List.{All, AllPairs}
use Rattle.std.proofs.lemmas.Int.{ints}
use Rattle.std.proofs.lemmas.List.{take-append-drop}
use Rattle.i_tree.proofs.RootLemmas.Joined.{AllPairs-front}
use Rattle.plane.specs.declared.edge.Edge.{Edge}
use Rattle.plane.specs.Meet.Crosses.{IsWithin}
use Rattle.plane.proofs.SweepLineLemmas.Adjacent.{AllPairs-before}
use Rattle.overlay.specs.declared.fill.pieces.Piece.{Piece}
use Rattle.overlay.specs.Fill.Pieces.{total}
use Rattle.overlay.specs.Fill.Sweep.{WeighUpto}
use Rattle.overlay.specs.Fill.Turned.{asked}
use Rattle.overlay.proofs.FillLemmas.Small.{same_edge, same_is, same_itself}
use Rattle.overlay.proofs.FillLemmas.Totals.{total-more, total-same}

abbrev Differ : Piece → Piece → Type 0
Differ one other = one.edge ≢ other.edge

-- ---- but for one edge

-- the edges asked for, but for this one
abbrev but : (Edge → Bool) → Edge → Edge → Bool
but test edge other = test other && not (same_edge other edge)

never_here : (t u : Bool) (w : ℤ) → u ≡ true → cond (t && not u) w (pos 0) ≡ pos 0
never_here true true w is = refl
never_here false true w is = refl
never_here true false w is = cc
never_here false false w is = cc

as_there : (t u : Bool) (w : ℤ) → u ≡ false → cond (t && not u) w (pos 0) ≡ cond t w (pos 0)
as_there true false w is = refl
as_there false false w is = refl
as_there true true w is = cc
as_there false true w is = cc

unlike : (one other : Edge) → one ≢ other → same_edge one other ≡ false
unlike one other differ = by (same_edge one other) refl
  where
    by : (t : Bool) → same_edge one other ≡ t → same_edge one other ≡ false
    by true e = absurd (differ (same_is one other e))
    by false e = e

module _ (test : Edge → Bool) (weigh : Piece → ℤ) (piece : Piece) where
  -- the piece of this edge weighs nothing then, and the others what they weigh
  alone : asked (but test piece.edge) weigh piece ≡ pos 0
  alone = never_here (test piece.edge) (same_edge piece.edge piece.edge) (weigh piece) (same_itself piece.edge)

  others : (pieces : List Piece) → All (λ one. one.edge ≢ piece.edge) pieces → total (asked (but test piece.edge) weigh) pieces ≡ total (asked test weigh) pieces
  others pieces differ =
      total-same (asked (but test piece.edge) weigh) (asked test weigh) pieces
      (λ i d within. let one = get_or pieces i d in as_there (test one.edge) (same_edge one.edge piece.edge) (weigh one) (unlike one.edge piece.edge (differ i d within)))

  no_more : (a b c : ℤ) → a ≡ c → b ≡ pos 0 → (a +ℤ b) ≡ c
  no_more a b c is none = omega (arith, ints, is, none)

  but_last : (pieces : List Piece) → All (λ one. one.edge ≢ piece.edge) pieces → total (asked (but test piece.edge) weigh) (pieces ++ piece ∷ []) ≡ total (asked test weigh) pieces
  but_last pieces differ =
      total-more (asked (but test piece.edge) weigh) pieces piece
      ∙ no_more (total (asked (but test piece.edge) weigh) pieces) (asked (but test piece.edge) weigh piece) (total (asked test weigh) pieces) (others pieces differ) alone

-- ---- the part in front

weigh-last : (most : ℕ) (pieces : List Piece) (piece : Piece) → All (λ one. one.edge ≢ piece.edge) pieces → WeighUpto most (pieces ++ piece ∷ []) → WeighUpto most pieces
weigh-last most pieces piece differ weigh = λ test. (
  subst (IsWithin most) (but_last test (λ p. p.subject) piece pieces differ) (weigh (but test piece.edge)).0,
  subst (IsWithin most) (but_last test (λ p. p.clip) piece pieces differ) (weigh (but test piece.edge)).1,
)

weigh-front : (most : ℕ) (front back : List Piece) → AllPairs Differ (front ++ back) → WeighUpto most (front ++ back) → WeighUpto most front
weigh-front most front [] distinct weigh = subst (WeighUpto most) (append-nil front) weigh
weigh-front most front (piece ∷ back) distinct weigh =
    let same : front ++ piece ∷ back ≡ (front ++ piece ∷ []) ++ back = sym (append_assoc front (piece ∷ []) back) in
    let apart = subst (AllPairs Differ) same distinct in
    weigh-last most front piece (AllPairs-before Differ front piece [] (AllPairs-front Differ (front ++ piece ∷ []) back apart)) (weigh-front most (front ++ piece ∷ []) back apart (subst (WeighUpto most) same weigh))

-- Of pieces the first so many.
pub weigh-first_ones : (most : ℕ) (pieces : List Piece) → AllPairs (λ one other. one.edge ≢ other.edge) pieces → WeighUpto most pieces → (count : ℕ) → WeighUpto most (take count pieces)
weigh-first_ones most pieces distinct weigh count =
    let whole = sym (take-append-drop count pieces) in
    weigh-front most (take count pieces) (drop count pieces) (subst (AllPairs Differ) whole distinct) (subst (WeighUpto most) whole weigh)
