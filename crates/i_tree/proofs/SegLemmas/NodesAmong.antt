-- Which numbers are among the nodes of a mask, and its lowest one.
use Rattle.std.proofs.Common.{◌≡◌, ℕ, zero, suc, ◌+◌, ◌^◌, ◌<◌, ◌≤◌, Bool, true, false, not, ◌||◌, nat_eq, cond, List, [], ◌∷◌, bit_and, min, refl, ap, sym, ◌∙◌, subst, inl, inr, arith}
use Rattle.std.specs.Bool.{◌==◌}
use Rattle.std.specs.Int.{bit_at}
use Rattle.std.proofs.lemmas.Bool.{cases_lt, or_from, or_left, eq-eqb, ne_eqb, eqb-true}
use Rattle.std.proofs.lemmas.Bool.Decides.{nat_tests}
use Rattle.std.proofs.lemmas.Nat.{and_le_l}
use Rattle.std.proofs.lemmas.Nat.Bits.{bit_at_and}
use Rattle.i_tree.specs.Seg.Nodes.{has_node, lowest, nodes_from, nodes_of, IsLowest}
use Rattle.i_tree.proofs.SegLemmas.NodesOf.{lowest-is, trailing-lowest, nodes_of-zero}

-- the number is one of the list
abbrev pub is_among : List ℕ → ℕ → Bool
is_among [] number = false
is_among (node ∷ nodes) number = (number == node) || is_among nodes number

-- a number that isn't looked at is not among them
pub nodes_from-outside : (more node mask number : ℕ) → ((at : ℕ) → node ≤ at → at < node + more → number ≡ at → ⊥) → is_among (nodes_from more node mask) number ≡ false
unfolding nodes_from
nodes_from-outside zero node mask number out = refl
nodes_from-outside (suc more) node mask number out =
    added (has_node mask node) (ne_eqb number node (out node (omega arith) (omega arith)))
    (nodes_from-outside more (suc node) mask number (λ at above below. out at (omega arith) (omega arith)))
  where
    added : (has : Bool) → (number == node) ≡ false → is_among (nodes_from more (suc node) mask) number ≡ false → is_among (cond has (node ∷ nodes_from more (suc node) mask) (nodes_from more (suc node) mask)) number ≡ false
    added true other rest = or_from (number == node) (is_among (nodes_from more (suc node) mask) number) other rest
    added false other rest = rest

-- one that is looked at is among them where the mask has it
nodes_from-inside : (more node mask number : ℕ) → node ≤ number → number < node + more → is_among (nodes_from more node mask) number ≡ has_node mask number
unfolding nodes_from
nodes_from-inside zero node mask number above below = absurd (omega arith)
nodes_from-inside (suc more) node mask number above below =
    elim (cases_lt node number) [
      | inl before ↦
          behind (has_node mask node) (ne_eqb number node (λ same. absurd (omega arith))) ∙ nodes_from-inside more (suc node) mask number (omega arith) (omega arith)
      | inr upto ↦
          let here : number ≡ node = omega arith in
          first (has_node mask node) (eq-eqb number node here)
          (nodes_from-outside more (suc node) mask number (λ at past within same. absurd (omega arith)))
          ∙ ap (has_node mask) (sym here)
    ]
  where
    behind : (has : Bool) → (number == node) ≡ false → is_among (cond has (node ∷ nodes_from more (suc node) mask) (nodes_from more (suc node) mask)) number ≡ is_among (nodes_from more (suc node) mask) number
    behind true other = ap (λ (same : Bool). same || is_among (nodes_from more (suc node) mask) number) other
    behind false other = refl

    first : (has : Bool) → (number == node) ≡ true → is_among (nodes_from more (suc node) mask) number ≡ false → is_among (cond has (node ∷ nodes_from more (suc node) mask) (nodes_from more (suc node) mask)) number ≡ has
    first true same rest = or_left (number == node) (is_among (nodes_from more (suc node) mask) number) same
    first false same rest = rest

nodes_of-among : (mask number : ℕ) → number < 64 → is_among (nodes_of mask) number ≡ has_node mask number
unfolding nodes_of
nodes_of-among mask number within = nodes_from-inside 64 0 mask number (omega arith) (omega arith)

nodes_of-past : (mask : ℕ) → is_among (nodes_of mask) 64 ≡ false
unfolding nodes_of
nodes_of-past mask = nodes_from-outside 64 0 mask 64 (λ at above below same. absurd (omega arith))

-- a node of what two masks share is one of each
min_one : (a b : ℕ) → (min a b == 1) ≡ true → a < 2 → b < 2 → ((a == 1) ≡ true) × ((b == 1) ≡ true)
min_one a b one first second = (grind (arith, nat_tests), grind (arith, nat_tests))

pub shared : (one other node : ℕ) → has_node (bit_and one other) node ≡ true → (has_node one node ≡ true) × (has_node other node ≡ true)
shared one other node has =
    min_one (bit_at one node) (bit_at other node) (sym (ap (λ (bit : ℕ). bit == 1) (bit_at_and one other node)) ∙ has) (omega arith) (omega arith)

-- the lowest node of a mask that has one
pub lowest-least : (mask : ℕ) → 0 < mask → mask < 2 ^ 64 → IsLowest mask (lowest mask)
lowest-least mask some fits = subst (IsLowest mask) (trailing-lowest mask fits) (lowest-is mask some fits)

lowest-none : (mask : ℕ) → mask ≤ 0 → lowest mask ≡ 64
lowest-none mask none = grind (arith, nodes_of-zero)

module _ (placed asked : ℕ) (fits : placed < 2 ^ 63) where
  shared_fits : bit_and placed asked < 2 ^ 64
  shared_fits = omega (arith, and_le_l placed asked)

  -- the lowest node that is shared is one of the nodes that are asked, where one is shared
  pub lowest-among : is_among (nodes_of asked) (lowest (bit_and placed asked)) ≡ not (nat_eq (bit_and placed asked) 0)
  lowest-among =
      elim (cases_lt 0 (bit_and placed asked)) [
        | inl some ↦
            let least = lowest-least (bit_and placed asked) some shared_fits in
            nodes_of-among asked (lowest (bit_and placed asked)) least.within
            ∙ (shared placed asked (lowest (bit_and placed asked)) least.there).1
            ∙ sym (ap not (ne_eqb (bit_and placed asked) 0 (λ none. absurd (omega arith))))
        | inr none ↦
            ap (is_among (nodes_of asked)) (lowest-none (bit_and placed asked) none) ∙ nodes_of-past asked
            ∙ sym (ap not (eq-eqb (bit_and placed asked) 0 (omega arith)))
      ]

  -- and one of those that are placed
  pub lowest-placed : (node : ℕ) → node < 64 → (lowest (bit_and placed asked) == node) ≡ true → has_node placed node ≡ true
  lowest-placed node within same =
      let is : lowest (bit_and placed asked) ≡ node = eqb-true (lowest (bit_and placed asked)) node same in
      elim (cases_lt 0 (bit_and placed asked)) [
        | inl some ↦
            subst (λ (at : ℕ). has_node placed at ≡ true) is (shared placed asked (lowest (bit_and placed asked)) (lowest-least (bit_and placed asked) some shared_fits).there).0
        | inr none ↦ let past = lowest-none (bit_and placed asked) none in absurd (omega arith)
      ]
