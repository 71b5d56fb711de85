-- Which nodes a mask has that is made of a test, and which a list of a mask's nodes has.
use Rattle.std.proofs.Common.{◌≡◌, ℕ, zero, suc, ◌+◌, ◌*◌, ◌^◌, ◌<◌, ◌≤◌, Bool, true, false, cond, List, [], ◌∷◌, refl, ap, sym, ◌∙◌, subst, inl, inr, arith}
use Rattle.std.specs.List.{All, Contains}
use Rattle.std.proofs.lemmas.Bool.{cases_lt, cond-true}
use Rattle.std.proofs.lemmas.List.Elements.{All-nil, All-cons, Contains-append_right}
use Rattle.std.proofs.lemmas.Nat.{pow-add}
use Rattle.std.proofs.lemmas.Nat.Bits.{bit_at_above}
use Rattle.i_tree.specs.Seg.Nodes.{has_node, mask_below, nodes_where, nodes_from, nodes_of}

mask_below-lt : (bound : ℕ) (test : ℕ → Bool) → mask_below bound test < 2 ^ bound
unfolding mask_below
mask_below-lt zero test = omega arith
mask_below-lt (suc bound) test =
    let doubled : 2 ^ suc bound ≡ 2 * 2 ^ bound = ap (λ (exponent : ℕ). 2 ^ exponent) (let next : suc bound ≡ 1 + bound = omega arith in next) ∙ pow-add 2 1 bound in
    added (test bound) (mask_below bound test) (2 ^ bound) (2 ^ suc bound) doubled (mask_below-lt bound test)
  where
    added : (passes : Bool) (mask half whole : ℕ) → whole ≡ 2 * half → mask < half → mask + cond passes half 0 < whole
    added true mask half whole doubled below = omega arith
    added false mask half whole doubled below = omega arith

pub nodes_where-lt : (test : ℕ → Bool) → nodes_where test < 2 ^ 63
unfolding nodes_where
nodes_where-lt test = mask_below-lt 63 test

-- a mask below a power of two has nodes below its exponent alone
pub has_node-below : (mask bound node : ℕ) → mask < 2 ^ bound → has_node mask node ≡ true → node < bound
has_node-below mask bound node small has = grind (arith, cases_lt, bit_at_above)

-- the listed nodes are those that the mask has
nodes_from-have : (more node mask : ℕ) → All (λ at. has_node mask at ≡ true) (nodes_from more node mask)
unfolding nodes_from
nodes_from-have zero node mask = All-nil (λ at. has_node mask at ≡ true)
nodes_from-have (suc more) node mask = added (has_node mask node) refl (nodes_from-have more (suc node) mask)
  where
    added : (first : Bool) → has_node mask node ≡ first → All (λ at. has_node mask at ≡ true) (nodes_from more (suc node) mask) → All (λ at. has_node mask at ≡ true) (cond first (node ∷ nodes_from more (suc node) mask) (nodes_from more (suc node) mask))
    added true is rest = All-cons (λ at. has_node mask at ≡ true) node (nodes_from more (suc node) mask) is rest
    added false is rest = rest

pub nodes_of-have : (mask : ℕ) → All (λ node. has_node mask node ≡ true) (nodes_of mask)
unfolding nodes_of
nodes_of-have mask = nodes_from-have 64 0 mask

nodes_from-contains : (more node mask at : ℕ) → node ≤ at → at < node + more → has_node mask at ≡ true → Contains (nodes_from more node mask) at
unfolding nodes_from
nodes_from-contains zero node mask at above below has = absurd (omega arith)
nodes_from-contains (suc more) node mask at above below has =
    elim (cases_lt node at) [
      | inl before ↦ behind (has_node mask node) (nodes_from-contains more (suc node) mask at (omega arith) (omega arith) has)
      | inr upto ↦
          let here : node ≡ at = omega arith in
          let has_here = subst (λ (place : ℕ). has_node mask place ≡ true) (sym here) has in
          subst (λ (nodes : List ℕ). Contains nodes at) (sym (cond-true (has_node mask node) (node ∷ nodes_from more (suc node) mask) (nodes_from more (suc node) mask) has_here))
          (0, omega arith, here)
    ]
  where
    behind : (first : Bool) → Contains (nodes_from more (suc node) mask) at → Contains (cond first (node ∷ nodes_from more (suc node) mask) (nodes_from more (suc node) mask)) at
    behind true rest = Contains-append_right (node ∷ []) (nodes_from more (suc node) mask) at rest
    behind false rest = rest

pub nodes_of-contains : (mask node : ℕ) → node < 64 → has_node mask node ≡ true → Contains (nodes_of mask) node
unfolding nodes_of
nodes_of-contains mask node within has = nodes_from-contains 64 0 mask node (omega arith) (omega arith) has
