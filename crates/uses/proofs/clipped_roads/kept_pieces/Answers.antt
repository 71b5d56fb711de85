use Rattle.std.proofs.Common.{◌≡◌, ◌⊎◌, inl, inr, ◌++◌, [], ◌∷◌, ℕ, List, Option, length, drop, ap, sym, ◌∙◌, refl}
use Rattle.std.proofs.lemmas.List.{append-nil}
use Rattle.std.proofs.lemmas.Slice.Zip.{Zip-so_far, either_empty_from_Zip}
use Rattle.plane.specs.declared.edge.Edge.{Edge}
use Rattle.uses.specs.Roads.{kept}
use Rattle.uses.proofs.clipped_roads.kept_pieces.Goals as goal

-- where one list is empty nothing is kept
kept-none : (bounds pieces : List Edge) (places : List (Option ℕ)) → (pieces ≡ []) ⊎ (places ≡ []) → kept bounds pieces places ≡ []
kept-none bounds [] places none = refl
kept-none bounds (piece ∷ pieces) [] none = refl
kept-none bounds (piece ∷ pieces) (place ∷ places) (inl none) = cc
kept-none bounds (piece ∷ pieces) (place ∷ places) (inr none) = cc

-- what is left of two lists is what is left of those that they are
left : {A B : Type 0} (xs xs' now : List A) (ys ys' now' : List B) (k : ℕ) → now ≡ drop k xs → xs ≡ xs' → now' ≡ drop k ys → ys ≡ ys' → (now ≡ []) ⊎ (now' ≡ []) → (drop k xs' ≡ []) ⊎ (drop k ys' ≡ [])
left {A} {B} xs xs' now ys ys' now' k is same is' same' (inl none) = inl (ap (λ (list : List A). drop k list) (sym same) ∙ sym is ∙ none)
left {A} {B} xs xs' now ys ys' now' k is same is' same' (inr none) = inr (ap (λ (list : List B). drop k list) (sym same') ∙ sym is' ∙ none)

pub returns : goal.returns
returns c =
    let bounds = c.args.bounds.now in
    let pieces = c.args.pieces.now in
    let places = c.args.places.now in
    let k = length c.loop-piece.yielded in
    let so_far = Zip-so_far c.loop-piece.yielded c.into_iter-piece-iterator.result c.loop-piece.piece-iterator c.loop-piece.yielded_by in
    let first = ap (λ it. it.a.rest.now) c.into_iter-piece-iterator.ensures.into_iter_gives ∙ ap (λ it. it.rest.now) c.zip-piece-items.ensures.first ∙ c.iter.ensures.rest in
    let second = ap (λ it. it.b.rest.now) c.into_iter-piece-iterator.ensures.into_iter_gives ∙ c.zip-piece-items.ensures.second.0 in
    let empty = either_empty_from_Zip c.loop-piece.piece-iterator c.next.new.self c.next.result c.in-None.is c.next.ensures.steps in
    let none = kept-none bounds (drop k pieces) (drop k places) (left _ pieces _ _ places _ k so_far.0 first so_far.1 second empty) in
    sym (append-nil c.loop-piece.inside.items) ∙ ap (λ (rest : List Edge). c.loop-piece.inside.items ++ rest) (sym none) ∙ c.loop-piece.invariant
