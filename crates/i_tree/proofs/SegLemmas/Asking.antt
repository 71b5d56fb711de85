-- What a walk finds that begins at the nodes of a query, and how many live copies it reads.
use Rattle.std.proofs.Common.{◌≡◌, ℕ, zero, suc, ◌+◌, ◌*◌, ◌^◌, ◌<◌, ◌≤◌, Bool, true, false, cond, not, nat_eq, Some, List, [], ◌∷◌, map, length, get_or, bit_and, min, refl, ap, sym, ◌∙◌, subst, arith, IsPermutation}
use Rattle.std.specs.Int.{bit_at}
use Rattle.std.specs.List.{All, filter, sum_by}
use Rattle.std.specs.declared.cmp.Ordering.{Ordering}
use Rattle.std.proofs.lemmas.Bool.{cond-true, cond-false, eqb-true, false_from_ne_true}
use Rattle.std.proofs.lemmas.List.Elements.{All-head, All-tail}
use Rattle.std.proofs.lemmas.List.Sorted.{IsPermutation-map, length_permutation}
use Rattle.std.proofs.lemmas.List.Sums.{sum_by-cons}
use Rattle.std.proofs.lemmas.Nat.Bits.{bit_at_and, bit_at-zero}
use Rattle.i_tree.specs.Seg.Buckets.{between, overlap}
use Rattle.i_tree.specs.Seg.Copies.{chunk_at, copies_at, copy_of, is_at, live_copies, found_among, Holds}
use Rattle.i_tree.specs.Seg.Members.{Member, values_of}
use Rattle.i_tree.specs.Seg.Nodes.{has_node, is_met, nodes_from, nodes_of, canonical_nodes, meeting_set}
use Rattle.i_tree.specs.Seg.Walk.{to_come, found_from, live_from}
use Rattle.i_tree.proofs.SegLemmas.Found.{found_among-shares}
use Rattle.i_tree.proofs.SegLemmas.Masks.{placed-meets, few-placed}
use Rattle.i_tree.proofs.SegLemmas.NodesWhere.{nodes_of-have, nodes_where-lt}

-- two tests that agree at each item of a list let the same items through
filter-same_tests : {X : Type 0} (p q : X → Bool) (xs : List X) → All (λ x. p x ≡ q x) xs → filter p xs ≡ filter q xs
filter-same_tests p q [] agree = refl
filter-same_tests p q (x ∷ xs) agree =
    ap (λ (passes : Bool). cond passes (x ∷ filter p xs) (filter p xs)) (All-head (λ x. p x ≡ q x) x xs agree)
    ∙ ap (λ (rest : List _). cond (q x) (x ∷ rest) rest) (filter-same_tests p q xs (All-tail (λ x. p x ≡ q x) x xs agree))

-- of the nodes of one mask, no more are nodes of another than it has
shared_from : (more node mask asked : ℕ) → length (filter (has_node mask) (nodes_from more node asked)) ≤ length (nodes_from more node mask)
unfolding nodes_from
shared_from zero node mask asked = omega arith
shared_from (suc more) node mask asked = told (has_node asked node) (has_node mask node) refl (shared_from more (suc node) mask asked)
  where
    told : (first second : Bool) → has_node mask node ≡ second → length (filter (has_node mask) (nodes_from more (suc node) asked)) ≤ length (nodes_from more (suc node) mask)
        → length (filter (has_node mask) (cond first (node ∷ nodes_from more (suc node) asked) (nodes_from more (suc node) asked))) ≤ length (cond second (node ∷ nodes_from more (suc node) mask) (nodes_from more (suc node) mask))
    told true true has rest = let longer = ap length (cond-true (has_node mask node) (node ∷ filter (has_node mask) (nodes_from more (suc node) asked)) (filter (has_node mask) (nodes_from more (suc node) asked)) has) in omega arith
    told true false lacks rest = let same = ap length (cond-false (has_node mask node) (node ∷ filter (has_node mask) (nodes_from more (suc node) asked)) (filter (has_node mask) (nodes_from more (suc node) asked)) lacks) in omega arith
    told false true has rest = omega arith
    told false false lacks rest = rest

-- masks without a common bit share no node
none_shared : (mask asked : ℕ) → bit_and mask asked ≡ 0 → (nodes : List ℕ) → All (λ node. has_node asked node ≡ true) nodes → filter (has_node mask) nodes ≡ []
none_shared mask asked apart [] have = refl
none_shared mask asked apart (node ∷ nodes) have =
    let there = eqb-true (bit_at asked node) 1 (All-head (λ node. has_node asked node ≡ true) node nodes have) in
    let both = sym (bit_at_and mask asked node) ∙ ap (λ (whole : ℕ). bit_at whole node) apart in
    cond-false (has_node mask node) (node ∷ filter (has_node mask) nodes) (filter (has_node mask) nodes)
    (false_from_ne_true (has_node mask node) (λ has. let own = eqb-true (bit_at mask node) 1 has in absurd (both_there (bit_at mask node) (bit_at asked node) own there (both ∙ bit_at-zero node))))
    ∙ none_shared mask asked apart nodes (All-tail (λ node. has_node asked node ≡ true) node nodes have)
  where
    both_there : (one other : ℕ) → one ≡ 1 → other ≡ 1 → min one other ≡ 0 → ⊥
    both_there one other first second none = omega arith

-- a mask shares at most eight nodes with another, where it has no more, and none where it has no common bit with it
few_shared : (mask asked : ℕ) → length (nodes_of mask) ≤ 8 → length (filter (has_node mask) (nodes_of asked)) ≤ cond (not (nat_eq (bit_and mask asked) 0)) 8 0
unfolding nodes_of
few_shared mask asked few = told (nat_eq (bit_and mask asked) 0) refl
  where
    told : (apart : Bool) → nat_eq (bit_and mask asked) 0 ≡ apart → length (filter (has_node mask) (nodes_from 64 0 asked)) ≤ cond (not apart) 8 0
    told true is = let none = ap length (none_shared mask asked (eqb-true (bit_and mask asked) 0 is) (nodes_of asked) (nodes_of-have asked)) in omega arith
    told false is = let most = shared_from 64 0 mask asked in omega arith

module _ {V : Type 0} (asked : ℕ) where
  abbrev shares : Member V → Bool
  shares member = not (nat_eq (bit_and (canonical_nodes member.interval) asked) 0)

  -- one more member has a copy at each node that it is placed at
  copies_more : (member : Member V) (members : List (Member V)) (nodes : List ℕ)
      → sum_by (λ node. length (copies_at node (member ∷ members))) nodes ≡ length (filter (has_node (canonical_nodes member.interval)) nodes) + sum_by (λ node. length (copies_at node members)) nodes
  copies_more member members [] = refl
  copies_more member members (node ∷ nodes) =
      sum_by-cons (λ node. length (copies_at node (member ∷ members))) node nodes
      ∙ told (is_at node member) (copies_more member members nodes) (sum_by-cons (λ node. length (copies_at node members)) node nodes)
    where
      told : (placed : Bool) → sum_by (λ node. length (copies_at node (member ∷ members))) nodes ≡ length (filter (has_node (canonical_nodes member.interval)) nodes) + sum_by (λ node. length (copies_at node members)) nodes
          → sum_by (λ node. length (copies_at node members)) (node ∷ nodes) ≡ length (copies_at node members) + sum_by (λ node. length (copies_at node members)) nodes
          → length (map copy_of (cond placed (member ∷ filter (is_at node) members) (filter (is_at node) members))) + sum_by (λ node. length (copies_at node (member ∷ members))) nodes
          ≡ length (cond placed (node ∷ filter (has_node (canonical_nodes member.interval)) nodes) (filter (has_node (canonical_nodes member.interval)) nodes)) + sum_by (λ node. length (copies_at node members)) (node ∷ nodes)
      told true rest first = omega (arith, rest, first)
      told false rest first = omega (arith, rest, first)

  -- the members have at most eight copies at the asked nodes for each that shares one
  few_copies : (members : List (Member V)) → All (λ member. length (nodes_of (canonical_nodes member.interval)) ≤ 8) members → sum_by (λ node. length (copies_at node members)) (nodes_of asked) ≤ 8 * length (filter shares members)
  few_copies [] few = none (nodes_of asked)
    where
      none : (nodes : List ℕ) → sum_by (λ node. length (copies_at {V = V} node [])) nodes ≤ 0
      none [] = omega arith
      none (node ∷ nodes) = omega (arith, sum_by-cons (λ node. length (copies_at {V = V} node [])) node nodes, none nodes)
  few_copies (member ∷ members) few =
      told (shares member) (copies_more member members (nodes_of asked))
      (few_shared (canonical_nodes member.interval) asked (All-head (λ member. length (nodes_of (canonical_nodes member.interval)) ≤ 8) member members few))
      (few_copies members (All-tail (λ member. length (nodes_of (canonical_nodes member.interval)) ≤ 8) member members few))
    where
      told : (found : Bool) → sum_by (λ node. length (copies_at node (member ∷ members))) (nodes_of asked) ≡ length (filter (has_node (canonical_nodes member.interval)) (nodes_of asked)) + sum_by (λ node. length (copies_at node members)) (nodes_of asked)
          → length (filter (has_node (canonical_nodes member.interval)) (nodes_of asked)) ≤ cond found 8 0
          → sum_by (λ node. length (copies_at node members)) (nodes_of asked) ≤ 8 * length (filter shares members)
          → sum_by (λ node. length (copies_at node (member ∷ members))) (nodes_of asked) ≤ 8 * length (cond found (member ∷ filter shares members) (filter shares members))
      told true more own rest = omega (arith, more, own, rest)
      told false more own rest = omega (arith, more, own, rest)

module _ {E V : Type 0} (expiration : V → E) (cmp : E → E → Ordering) (time : E) where
  -- a walk begins at the first copy of its first node
  from_start : (asked : ℕ) (nodes : List ℕ) (chunks : List (List (ℕ × V))) → found_from expiration cmp time asked 0 nodes chunks ≡ found_among expiration cmp (Some time) asked nodes chunks
  from_start asked [] chunks = refl
  from_start asked (node ∷ nodes) chunks = refl

  live_start : (nodes : List ℕ) (chunks : List (List (ℕ × V))) → live_from expiration cmp time 0 nodes chunks ≡ sum_by (λ node. length (live_copies expiration cmp (Some time) (chunk_at node chunks))) nodes
  live_start [] chunks = refl
  live_start (node ∷ nodes) chunks = sym (sum_by-cons (λ node. length (live_copies expiration cmp (Some time) (chunk_at node chunks))) node nodes)

  module _ (count : ℕ) (chunks : List (List (ℕ × V))) (members : List (Member V)) (small : count ≤ 63) (holds : Holds expiration cmp (Some time) count chunks members)
      (first last : ℕ) (order : first ≤ last) (within : last < 32) (asked : ℕ) (is : asked ≡ meeting_set (between first last)) where
    below : asked < 2 ^ 63
    below = subst (λ (mask : ℕ). mask < 2 ^ 63) (sym is) (nodes_where-lt (is_met (between first last)))

    found : IsPermutation (filter (shares asked) members) (to_come expiration cmp time asked asked 0 chunks)
    found =
        subst (λ (found : List (Member V)). IsPermutation (filter (shares asked) members) found) (sym (from_start asked (nodes_of asked) chunks))
        (found_among-shares expiration cmp (Some time) count chunks members asked small below holds)

    -- the walk yields the values of the members that overlap the interval
    pub asked-found : IsPermutation (values_of (filter (λ member. overlap member.interval (between first last)) members)) (values_of (to_come expiration cmp time asked asked 0 chunks))
    asked-found =
        IsPermutation-map (λ member. member.value) _ _
        (subst (λ (kept : List (Member V)). IsPermutation kept (to_come expiration cmp time asked asked 0 chunks))
        (filter-same_tests (shares asked) (λ member. overlap member.interval (between first last)) members
        (λ k d inside.
        ap (λ (mask : ℕ). not (nat_eq (bit_and (canonical_nodes (get_or members k d).interval) mask) 0)) is
        ∙ ap not (placed-meets (get_or members k d).interval.first (get_or members k d).interval.last (holds.order k d inside) (omega arith) first last order within)
        ∙ twice (overlap (get_or members k d).interval (between first last))))
        found)
      where
        twice : (test : Bool) → not (not test) ≡ test
        twice true = refl
        twice false = refl

    -- it reads at most eight live copies for each
    pub asked-reads : live_from expiration cmp time 0 (nodes_of asked) chunks ≤ 8 * length (to_come expiration cmp time asked asked 0 chunks)
    asked-reads =
        let start = live_start (nodes_of asked) chunks in
        let held = at_nodes (nodes_of asked) in
        let few = few_copies asked members (λ k d inside. let lies = holds.within k d inside in few-placed (get_or members k d).interval.first (get_or members k d).interval.last (holds.order k d inside) (omega arith)) in
        let same = length_permutation _ _ found in
        omega (arith, start, held, few, same)
      where
        at_nodes : (nodes : List ℕ) → sum_by (λ node. length (live_copies expiration cmp (Some time) (chunk_at node chunks))) nodes ≡ sum_by (λ node. length (copies_at node members)) nodes
        at_nodes [] = refl
        at_nodes (node ∷ nodes) =
            sum_by-cons (λ node. length (live_copies expiration cmp (Some time) (chunk_at node chunks))) node nodes
            ∙ ap (λ (here : ℕ). here + sum_by (λ node. length (live_copies expiration cmp (Some time) (chunk_at node chunks))) nodes) (length_permutation _ _ (holds.copies node))
            ∙ ap (λ (rest : ℕ). length (copies_at node members) + rest) (at_nodes nodes)
            ∙ sym (sum_by-cons (λ node. length (copies_at node members)) node nodes)
