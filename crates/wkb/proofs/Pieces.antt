-- Pieces that are written one after the other.
use Rattle.std.proofs.Common.{◌≡◌, ℕ, ◌+◌, ◌≤◌, arith, length, length-append, get_or, List, [], ◌∷◌, ◌++◌, map, sym, ap, ◌∙◌, append_assoc}
use Rattle.std.specs.List.{flat_map, range_with_len}
use Rattle.grid.specs.declared.position.Position.{Position}
use Rattle.wkb.specs.Spelling.{four, place, ring}
use Rattle.std.proofs.lemmas.Grind.{flat_map-append}
use Rattle.std.proofs.lemmas.List.{append-nil}
use Rattle.std.proofs.lemmas.List.Concat.{flat_map-cons}
use Rattle.std.proofs.lemmas.List.FromFn.{map-range_with_len_more}

flat_map_one : {X : Type 0} (f : X → List ℕ) (x : X) → flat_map f (x ∷ []) ≡ f x
flat_map_one f x = flat_map-cons f x [] ∙ append-nil (f x)

-- One piece more is written behind those before.
pub one_piece_more : {X : Type 0} (f : X → List ℕ) (piece : ℕ → X) (start count index more : ℕ) (old so_far new : List ℕ)
    → start + count ≡ index → more ≡ count + 1 → so_far ≡ old ++ flat_map f (map piece (range_with_len start count)) → new ≡ so_far ++ f (piece index)
    → new ≡ old ++ flat_map f (map piece (range_with_len start more))
one_piece_more f piece start count index more old so_far new here one_more before after =
    let front = map piece (range_with_len start count) in
    after
    ∙ ap (λ (bytes : List ℕ). bytes ++ f (piece index)) before
    ∙ append_assoc old (flat_map f front) (f (piece index))
    ∙ ap (λ (bytes : List ℕ). old ++ (flat_map f front ++ bytes)) (sym (flat_map_one f (piece index)))
    ∙ ap (λ (bytes : List ℕ). old ++ bytes) (sym (flat_map-append f front (piece index ∷ [])))
    ∙ ap (λ (pieces : List _). old ++ flat_map f pieces) (sym (map-range_with_len_more piece start count index here))
    ∙ ap (λ (n : ℕ). old ++ flat_map f (map piece (range_with_len start n))) (sym one_more)

-- What was written in two or three steps.
pub two_steps : (old a b one two : List ℕ) → one ≡ old ++ a → two ≡ one ++ b → two ≡ old ++ (a ++ b)
two_steps old a b one two first second = second ∙ ap (λ (bytes : List ℕ). bytes ++ b) first ∙ append_assoc old a b

pub three_steps : (old a b c one two three : List ℕ) → one ≡ old ++ a → two ≡ one ++ b → three ≡ two ++ c → three ≡ old ++ (a ++ b ++ c)
three_steps old a b c one two three first second third = two_steps old (a ++ b) c two three (two_steps old a b one two first second) third

-- A ring that has positions, as it is written: these, and the first of them again.
pub ring-is : (positions : List Position) → 1 ≤ length positions → ring positions ≡ four (length positions + 1) ++ flat_map place positions ++ place (get_or positions 0 (record { x = 0; y = 0 }))
unfolding ring
ring-is [] some = absurd (omega arith)
ring-is (first ∷ others) some =
    let count : length ((first ∷ others) ++ first ∷ []) ≡ length (first ∷ others) + 1 = length-append (first ∷ others) (first ∷ []) in
    ap (λ (n : ℕ). four n ++ flat_map place ((first ∷ others) ++ first ∷ [])) count
    ∙ ap (λ (bytes : List ℕ). four (length (first ∷ others) + 1) ++ bytes) (flat_map-append place (first ∷ others) (first ∷ []) ∙ ap (λ (bytes : List ℕ). flat_map place (first ∷ others) ++ bytes) (flat_map_one place first))
    ∙ sym (append_assoc (four (length (first ∷ others) + 1)) (flat_map place (first ∷ others)) (place first))
