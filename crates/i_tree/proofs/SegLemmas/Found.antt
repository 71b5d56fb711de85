-- What is found among the copies that chunks hold.
use Rattle.std.proofs.Common.{◌≡◌, ℕ, zero, suc, ◌+◌, ◌^◌, ◌<◌, ◌≤◌, Bool, true, false, not, leb, nat_eq, cond, List, [], ◌∷◌, get_or, map, bit_and, refl, ap, sym, ◌∙◌, subst, arith}
use Rattle.std.specs.Bool.{◌==◌}
use Rattle.std.specs.List.{All, filter}
use Rattle.std.specs.List.Sorted.{IsPermutation}
use Rattle.std.specs.declared.cmp.Ordering.{Ordering}
use Rattle.std.specs.declared.option.Option.{Option}
use Rattle.std.proofs.lemmas.Bool.{cond-false, false_from_ne_true, eqb-true, le-leb, and_from}
use Rattle.std.proofs.lemmas.List.Elements.{All-head, All-tail, filter_agree}
use Rattle.std.proofs.lemmas.List.Sorted.{IsPermutation-refl, IsPermutation-sym, IsPermutation-trans, IsPermutation-append, IsPermutation-map, All-permutation}
use Rattle.i_tree.specs.Seg.Buckets.{between}
use Rattle.i_tree.specs.Seg.Copies.{copy_of, member_of, is_at, copies_at, chunk_at, found_at, found_among, members_in, Holds}
use Rattle.i_tree.specs.Seg.Members.{Member}
use Rattle.i_tree.specs.Seg.Nodes.{has_node, lowest, is_canonical, nodes_from, nodes_of, canonical_nodes, meeting_set, interval_of}
use Rattle.i_tree.proofs.RootLemmas.Lists.{filter_all}
use Rattle.i_tree.proofs.SegLemmas.NodesAmong.{is_among, nodes_from-outside, lowest-among, lowest-placed}
use Rattle.i_tree.proofs.SegLemmas.Bags.{IsPermutation-filter, IsPermutation-filter_or}
use Rattle.i_tree.proofs.SegLemmas.Masks.{placed-decodes, placed-meets}
use Rattle.i_tree.proofs.SegLemmas.NodesWhere.{nodes_where-lt}

module _ {V : Type 0} where
  -- the member's interval can be read from the mask of its copy
  abbrev Decodes : Member V → Type 0
  Decodes member = interval_of (canonical_nodes member.interval) ≡ member.interval

  -- the lowest node that a member shares with those that are asked
  abbrev first_asked : ℕ → Member V → ℕ
  first_asked asked member = lowest (bit_and (canonical_nodes member.interval) asked)

  -- the copies at a node whose lowest asked node it is are of the members whose lowest asked node it is
  found-copies : (asked node : ℕ) → node < 64 → (members : List (Member V)) → All Decodes members
      → map member_of (filter (λ copy. lowest (bit_and copy.0 asked) == node) (copies_at node members)) ≡ filter (λ member. first_asked asked member == node) members
  found-copies asked node within [] decode = refl
  found-copies asked node within (member ∷ members) decode =
      step (is_at node member) (λ away. false_from_ne_true (first_asked asked member == node) (λ first. let at = lowest-placed (canonical_nodes member.interval) asked (nodes_where-lt (is_canonical member.interval)) node within first in cc))
      (found-copies asked node within members (All-tail Decodes member members decode))
    where
      rest : List (ℕ × V)
      rest = filter (λ copy. lowest (bit_and copy.0 asked) == node) (copies_at node members)

      kept : List (Member V)
      kept = filter (λ member. first_asked asked member == node) members

      own : (first : Bool) → map member_of rest ≡ kept → map member_of (cond first (copy_of member ∷ rest) rest) ≡ cond first (member ∷ kept) kept
      own first later = grind (arith, rest, All-head)

      step : (at : Bool) → (at ≡ false → (first_asked asked member == node) ≡ false) → map member_of rest ≡ kept
          → map member_of (filter (λ copy. lowest (bit_and copy.0 asked) == node) (map copy_of (cond at (member ∷ filter (is_at node) members) (filter (is_at node) members)))) ≡ cond (first_asked asked member == node) (member ∷ kept) kept
      step true never later = own (first_asked asked member == node) later
      step false never later = later ∙ sym (cond-false (first_asked asked member == node) (member ∷ kept) kept (never refl))

  -- each member shares a node with the set of all nodes
  shares_all : (member : Member V) → member.interval.first ≤ member.interval.last → member.interval.last < 32
      → not (nat_eq (bit_and (canonical_nodes member.interval) (meeting_set (between 0 31))) 0) ≡ true
  shares_all member order within =
      ap not (placed-meets member.interval.first member.interval.last order within 0 31 (omega arith) (omega arith)
      ∙ ap not (and_from (leb member.interval.first 31) (leb 0 member.interval.last) (le-leb member.interval.first 31 (omega arith)) (le-leb 0 member.interval.last (omega arith))))

module _ {E V : Type 0} (expiration : V → E) (cmp : E → E → Ordering) (latest : Option E) where
  module _ (count : ℕ) (chunks : List (List (ℕ × V))) (members : List (Member V)) (few : count ≤ 63) (holds : Holds expiration cmp latest count chunks members) where
    all_decode : All Decodes members
    all_decode k d within = grind (arith, placed-decodes)

    -- at a node are found the members whose lowest asked node it is
    found-at : (asked node : ℕ) → node < 64 → IsPermutation (filter (λ member. first_asked asked member == node) members) (found_at expiration cmp latest asked node (chunk_at node chunks))
    found-at asked node within =
        subst (λ (found : List (Member V)). IsPermutation found (found_at expiration cmp latest asked node (chunk_at node chunks))) (found-copies asked node within members all_decode)
        (IsPermutation-map member_of _ _ (IsPermutation-filter (λ copy. lowest (bit_and copy.0 asked) == node) _ _ (holds.copies node)))

    -- along the nodes of a mask from one on, no member is found twice
    found-from : (asked more node : ℕ) → node + more ≤ 64 → IsPermutation (filter (λ member. is_among (nodes_from more node asked) (first_asked asked member)) members) (found_among expiration cmp latest asked (nodes_from more node asked) chunks)
    unfolding nodes_from
    found-from asked zero node within = none members
      where
        none : (members : List (Member V)) → IsPermutation (filter (λ member. false) members) []
        none [] = IsPermutation-refl []
        none (member ∷ members) = none members
    found-from asked (suc more) node within =
        added (has_node asked node) (found-from asked more (suc node) (omega arith))
      where
        apart : (member : Member V) → (first_asked asked member == node) ≡ true → is_among (nodes_from more (suc node) asked) (first_asked asked member) ≡ false
        apart member first =
            let here = eqb-true (first_asked asked member) node first in
            nodes_from-outside more (suc node) asked (first_asked asked member) (λ at above below same. absurd (omega arith))

        added : (has : Bool) → IsPermutation (filter (λ member. is_among (nodes_from more (suc node) asked) (first_asked asked member)) members) (found_among expiration cmp latest asked (nodes_from more (suc node) asked) chunks)
            → IsPermutation (filter (λ member. is_among (cond has (node ∷ nodes_from more (suc node) asked) (nodes_from more (suc node) asked)) (first_asked asked member)) members)
            (found_among expiration cmp latest asked (cond has (node ∷ nodes_from more (suc node) asked) (nodes_from more (suc node) asked)) chunks)
        added true rest =
            IsPermutation-trans _ _ _
            (IsPermutation-filter_or (λ member. first_asked asked member == node) (λ member. is_among (nodes_from more (suc node) asked) (first_asked asked member)) apart members)
            (IsPermutation-append _ _ _ _ (found-at asked node (omega arith)) rest)
        added false rest = rest

    found-of : (asked : ℕ) → IsPermutation (filter (λ member. is_among (nodes_of asked) (first_asked asked member)) members) (found_among expiration cmp latest asked (nodes_of asked) chunks)
    unfolding nodes_of
    found-of asked = found-from asked 64 0 (omega arith)

    shares : (asked : ℕ) → IsPermutation (filter (λ member. not (nat_eq (bit_and (canonical_nodes member.interval) asked) 0)) members) (found_among expiration cmp latest asked (nodes_of asked) chunks)
    shares asked =
        subst (λ (found : List (Member V)). IsPermutation found (found_among expiration cmp latest asked (nodes_of asked) chunks))
        (filter_agree (λ member. is_among (nodes_of asked) (first_asked asked member)) (λ member. not (nat_eq (bit_and (canonical_nodes member.interval) asked) 0))
        (λ member. lowest-among (canonical_nodes member.interval) asked (nodes_where-lt (is_canonical member.interval))) members)
        (found-of asked)

    members-in : IsPermutation members (members_in expiration cmp latest chunks)
    members-in =
        subst (λ (found : List (Member V)). IsPermutation found (members_in expiration cmp latest chunks))
        (filter_all (λ member. not (nat_eq (bit_and (canonical_nodes member.interval) (meeting_set (between 0 31))) 0)) members
        (λ k d within. let below = holds.within k d within in shares_all (get_or members k d) (holds.order k d within) (omega arith)))
        (shares (meeting_set (between 0 31)))

  -- the nodes of a mask find each member once that is placed at one of them
  pub found_among-shares : (count : ℕ) (chunks : List (List (ℕ × V))) (members : List (Member V)) (asked : ℕ) → count ≤ 63 → asked < 2 ^ 63 → Holds expiration cmp latest count chunks members
      → IsPermutation (filter (λ member. not (nat_eq (bit_and (canonical_nodes member.interval) asked) 0)) members) (found_among expiration cmp latest asked (nodes_of asked) chunks)
  found_among-shares count chunks members asked few below holds = shares count chunks members few holds asked

  -- chunks hold what is found where all nodes are asked
  pub holds-members_in : (count : ℕ) (chunks : List (List (ℕ × V))) (members : List (Member V)) → count ≤ 63 → Holds expiration cmp latest count chunks members → IsPermutation members (members_in expiration cmp latest chunks)
  holds-members_in count chunks members few holds = members-in count chunks members few holds

  -- they hold what is found in them, in place of other members with the same copies
  pub holds-own : (count : ℕ) (chunks : List (List (ℕ × V))) (members : List (Member V)) → count ≤ 63 → Holds expiration cmp latest count chunks members → Holds expiration cmp latest count chunks (members_in expiration cmp latest chunks)
  holds-own count chunks members few holds =
      let same = members-in count chunks members few holds in
      record {
        chunk_for_each = holds.chunk_for_each;
        copies = λ node. IsPermutation-trans _ _ _ (IsPermutation-sym _ _ (IsPermutation-map copy_of _ _ (IsPermutation-filter (is_at node) _ _ same))) (holds.copies node);
        order = All-permutation (λ member. member.interval.first ≤ member.interval.last) members (members_in expiration cmp latest chunks) same holds.order;
        within = All-permutation (λ member. 32 + member.interval.last ≤ count) members (members_in expiration cmp latest chunks) same holds.within;
      }
