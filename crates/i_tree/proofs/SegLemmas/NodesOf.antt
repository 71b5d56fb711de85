-- Facts on the nodes of a mask.
use Rattle.std.proofs.Common.{◌≡◌, ℕ, zero, suc, ◌+◌, ◌*◌, ◌%◌, ◌^◌, ◌<◌, ◌≤◌, Bool, true, false, cond, List, [], ◌∷◌, bit_and, get_or, length, refl, ap, sym, ◌∙◌, subst, inl, inr, arith}
use Rattle.std.specs.Bool.{◌==◌}
use Rattle.std.specs.Int.{w64, bit_not, trailing_zeros}
use Rattle.std.specs.Int.Count.{trailing_of_zero}
use Rattle.std.proofs.lemmas.Bool.{cases_lt, cond-true, cond-false}
use Rattle.std.proofs.lemmas.Nat.Bits.{bit_at-trailing_zeros, bit_at_clear_same, bit_at_clear_other}
use Rattle.i_tree.specs.Seg.Nodes.{has_node, IsLowest, nodes_from, nodes_of, lowest}

-- masks that agree from a node on have the same nodes there
same_from : (more node one other : ℕ) → ((at : ℕ) → node ≤ at → at < node + more → has_node one at ≡ has_node other at) → nodes_from more node one ≡ nodes_from more node other
unfolding nodes_from
same_from zero node one other agree = refl
same_from (suc more) node one other agree =
    ap (λ (has : Bool). cond has (node ∷ nodes_from more (suc node) one) (nodes_from more (suc node) one)) (agree node (omega arith) (omega arith))
    ∙ ap (λ (rest : List ℕ). cond (has_node other node) (node ∷ rest) rest) (same_from more (suc node) one other (λ at above below. agree at (omega arith) (omega arith)))

-- where one mask has a lowest node and the other is without it, the one's nodes are it and the other's
lowest_first : (more node lowest one other : ℕ) → node ≤ lowest → lowest < node + more → has_node one lowest ≡ true → ((at : ℕ) → at < lowest → has_node one at ≡ false)
    → has_node other lowest ≡ false → ((at : ℕ) → at < node + more → (at ≡ lowest → ⊥) → has_node other at ≡ has_node one at)
    → nodes_from more node one ≡ lowest ∷ nodes_from more node other
unfolding nodes_from
lowest_first zero node lowest one other above below there none_below gone kept = absurd (omega arith)
lowest_first (suc more) node lowest one other above below there none_below gone kept =
    elim (cases_lt node lowest) [
      | inl before ↦
          let passed = none_below node before in
          let passed_too = kept node (omega arith) (λ same. absurd (omega arith)) ∙ passed in
          cond-false (has_node one node) (node ∷ nodes_from more (suc node) one) (nodes_from more (suc node) one) passed
          ∙ lowest_first more (suc node) lowest one other (omega arith) (omega arith) there none_below gone (λ at within other_node. kept at (omega arith) other_node)
          ∙ ap (λ (rest : List ℕ). lowest ∷ rest) (sym (cond-false (has_node other node) (node ∷ nodes_from more (suc node) other) (nodes_from more (suc node) other) passed_too))
      | inr from ↦
          let here : lowest ≡ node = omega arith in
          let has = subst (λ (at : ℕ). has_node one at ≡ true) here there in
          let lacks = subst (λ (at : ℕ). has_node other at ≡ false) here gone in
          cond-true (has_node one node) (node ∷ nodes_from more (suc node) one) (nodes_from more (suc node) one) has
          ∙ ap (λ (rest : List ℕ). node ∷ rest) (same_from more (suc node) one other (λ at past within. sym (kept at (omega arith) (λ same. absurd (omega arith)))))
          ∙ ap (λ (first : ℕ). first ∷ nodes_from more (suc node) other) (sym here)
          ∙ ap (λ (rest : List ℕ). lowest ∷ rest) (sym (cond-false (has_node other node) (node ∷ nodes_from more (suc node) other) (nodes_from more (suc node) other) lacks))
    ]

-- the place of the lowest one is the lowest node
pub lowest-is : (mask : ℕ) → 0 < mask → mask < 2 ^ 64 → IsLowest mask (trailing_zeros w64 mask)
lowest-is mask some fits =
    let place = bit_at-trailing_zeros w64 mask some fits in
    record {
      within = place.0;
      there = ap (λ (bit : ℕ). bit == 1) place.1;
      none_below = λ other below. ap (λ (bit : ℕ). bit == 1) (place.2 other below);
    }

-- a mask's nodes are its lowest one and those of the mask without it
pub nodes_of-lowest : (mask lowest : ℕ) → IsLowest mask lowest → nodes_of mask ≡ lowest ∷ nodes_of (bit_and mask (bit_not w64 (1 * 2 ^ lowest % 2 ^ 64)))
unfolding nodes_of
nodes_of-lowest mask lowest is =
    lowest_first 64 0 lowest mask (bit_and mask (bit_not w64 (1 * 2 ^ lowest % 2 ^ 64))) (omega arith) is.within is.there is.none_below
    (ap (λ (bit : ℕ). bit == 1) (bit_at_clear_same w64 mask lowest is.within))
    (λ at within other. ap (λ (bit : ℕ). bit == 1) (bit_at_clear_other w64 mask lowest is.within at within other))

pub nodes_of-fewer : (mask lowest : ℕ) → IsLowest mask lowest → length (nodes_of (bit_and mask (bit_not w64 (1 * 2 ^ lowest % 2 ^ 64)))) < length (nodes_of mask)
nodes_of-fewer mask lowest is = let longer = ap length (nodes_of-lowest mask lowest is) in omega arith

pub nodes_of-zero : nodes_of 0 ≡ []
unfolding nodes_of nodes_from
nodes_of-zero = refl

-- a mask without nodes has 64 trailing zeros; else their number is the lowest node
pub trailing-lowest : (mask : ℕ) → mask < 2 ^ 64 → trailing_zeros w64 mask ≡ lowest mask
trailing-lowest mask fits =
    elim (cases_lt 0 mask) [
      | inl some ↦ ap (λ (nodes : List ℕ). get_or nodes 0 64) (sym (nodes_of-lowest mask (trailing_zeros w64 mask) (lowest-is mask some fits)))
      | inr none ↦
          let empty : 0 ≡ mask = omega arith in
          subst (λ (whole : ℕ). trailing_zeros w64 whole ≡ lowest whole) empty (trailing_of_zero 64 ∙ ap (λ (nodes : List ℕ). get_or nodes 0 64) (sym nodes_of-zero))
    ]
