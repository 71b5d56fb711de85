-- What chunks hold once a value's copies are placed, and how many copies that adds.
use Rattle.std.proofs.Common.{◌≡◌, ℕ, zero, suc, ◌+◌, ◌<◌, ◌≤◌, Bool, true, false, cond, List, [], ◌∷◌, ◌++◌, map, length, refl, ap, sym, ◌∙◌, subst, arith}
use Rattle.std.specs.List.{All, filter}
use Rattle.std.specs.List.Sorted.{IsPermutation}
use Rattle.std.specs.declared.cmp.Ordering.{Ordering}
use Rattle.std.specs.declared.option.Option.{Option}
use Rattle.std.proofs.lemmas.Bool.{cases_lt, false_from_ne_true}
use Rattle.std.proofs.lemmas.List.{append-nil, get_or_past, length-append}
use Rattle.std.proofs.lemmas.List.Elements.{All-cons, filter-append}
use Rattle.std.proofs.lemmas.List.Sorted.{IsPermutation-sym, IsPermutation-trans, IsPermutation-cons, IsPermutation-to_front}
use Rattle.std.proofs.lemmas.List.Sums.{sum_by-cons}
use Rattle.i_tree.specs.Seg.Copies.{stored_copies, copy_of, is_at, copies_at, chunk_at, live_copies, Holds, PlacesCopies}
use Rattle.i_tree.specs.Seg.Members.{Member, is_live_yet, with_member}
use Rattle.i_tree.specs.Seg.Nodes.{has_node, nodes_from, nodes_of, canonical_nodes}
use Rattle.i_tree.proofs.SegLemmas.Masks.{placed-below}
use Rattle.i_tree.proofs.SegLemmas.NodesWhere.{has_node-below}

module _ {V : Type 0} where
  -- the copy that joins the chunk of a node
  abbrev joining : ℕ → V → ℕ → List (ℕ × V)
  joining mask value node = cond (has_node mask node) ((mask, value) ∷ []) []

  -- of the chunks from a node on, that of each node of the mask has one more copy
  copies_more : (mask : ℕ) (value : V) (node more : ℕ) (before after : List (List (ℕ × V))) → length before ≤ more → length after ≡ length before
      → ((at : ℕ) → at < length before → chunk_at at after ≡ chunk_at at before ++ joining mask value (node + at))
      → stored_copies after ≤ stored_copies before + length (nodes_from more node mask)
  unfolding nodes_from
  copies_more mask value node more [] [] within same joins = omega arith
  copies_more mask value node more [] (chunk ∷ after) within same joins = absurd (omega arith)
  copies_more mask value node more (chunk ∷ before) [] within same joins = absurd (omega arith)
  copies_more mask value node zero (chunk ∷ before) (grown ∷ after) within same joins = absurd (omega arith)
  copies_more mask value node (suc more) (chunk ∷ before) (grown ∷ after) within same joins =
      let rest : stored_copies after ≤ stored_copies before + length (nodes_from more (suc node) mask) =
      copies_more mask value (suc node) more before after (omega arith) (omega arith)
      (λ at below. joins (suc at) (omega arith) ∙ ap (λ (place : ℕ). chunk_at at before ++ joining mask value place) (let next : node + suc at ≡ suc node + at = omega arith in next)) in
      let first : length grown ≡ length (chunk ++ joining mask value node) =
      ap length (joins 0 (omega arith) ∙ ap (λ (place : ℕ). chunk ++ joining mask value place) (let here : node + 0 ≡ node = omega arith in here)) in
      counted (has_node mask node) first (sum_by-cons length chunk before) (sum_by-cons length grown after) rest
    where
      counted : (has : Bool) → length grown ≡ length (chunk ++ cond has ((mask, value) ∷ []) []) → stored_copies (chunk ∷ before) ≡ length chunk + stored_copies before → stored_copies (grown ∷ after) ≡ length grown + stored_copies after
          → stored_copies after ≤ stored_copies before + length (nodes_from more (suc node) mask)
          → stored_copies (grown ∷ after) ≤ stored_copies (chunk ∷ before) + length (cond has (node ∷ nodes_from more (suc node) mask) (nodes_from more (suc node) mask))
      counted true first old new rest = omega (arith, length-append {A = ℕ × V})
      counted false first old new rest = omega (arith, length-append {A = ℕ × V})

  -- so many more copies are stored at most
  pub placed-few : (mask : ℕ) (value : V) (before after : List (List (ℕ × V))) → length before ≤ 64 → PlacesCopies mask value before after → stored_copies after ≤ stored_copies before + length (nodes_of mask)
  unfolding nodes_of
  placed-few mask value before after within placed =
      copies_more mask value 0 64 before after within placed.count
      (λ node below. placed.chunks node below ∙ ap (λ (place : ℕ). chunk_at node before ++ joining mask value place) (let here : node ≡ 0 + node = omega arith in here))

module _ {E V : Type 0} (expiration : V → E) (cmp : E → E → Ordering) (latest : Option E) where
  module _ (count : ℕ) (before after : List (List (ℕ × V))) (members : List (Member V)) (member : Member V) (few : count ≤ 63)
      (order : member.interval.first ≤ member.interval.last) (below : 32 + member.interval.last ≤ count)
      (holds : Holds expiration cmp latest count before members) (placed : PlacesCopies (canonical_nodes member.interval) member.value before after) where
    -- nodes without a chunk are not in the mask
    no_chunk : (node : ℕ) → length before ≤ node → is_at node member ≡ false
    no_chunk node past = grind (arith, false_from_ne_true, placed-below, has_node-below)

    -- what joins the chunk of any node, also where there is no chunk
    joined : (node : ℕ) → chunk_at node after ≡ chunk_at node before ++ joining (canonical_nodes member.interval) member.value node
    joined node = grind (arith, cases_lt, get_or_past, no_chunk, append-nil)

    -- a live member's copy joins the live ones at each of its nodes, and none does where the member isn't live
    live_joined : (node : ℕ) → IsPermutation (copies_at node (with_member expiration cmp latest member members)) (live_copies expiration cmp latest (chunk_at node after))
    live_joined node =
        subst (λ (copies : List (ℕ × V)). IsPermutation (copies_at node (with_member expiration cmp latest member members)) copies)
        (sym (ap (live_copies expiration cmp latest) (joined node) ∙ filter-append (λ copy. is_live_yet expiration cmp latest copy.1) (chunk_at node before) (joining (canonical_nodes member.interval) member.value node)))
        (cases (is_live_yet expiration cmp latest member.value) (is_at node member) refl refl)
      where
        old : List (ℕ × V)
        old = live_copies expiration cmp latest (chunk_at node before)

        same : IsPermutation (copies_at node members) (old ++ [])
        same = subst (IsPermutation (copies_at node members)) (sym (append-nil old)) (holds.copies node)

        cases : (live has : Bool) → is_live_yet expiration cmp latest member.value ≡ live → is_at node member ≡ has
            → IsPermutation (map copy_of (filter (is_at node) (cond live (member ∷ members) members))) (old ++ live_copies expiration cmp latest (cond has (copy_of member ∷ []) []))
        cases true true alive there =
            subst (λ (has : Bool). IsPermutation (map copy_of (cond has (member ∷ filter (is_at node) members) (filter (is_at node) members))) (old ++ cond (is_live_yet expiration cmp latest member.value) (copy_of member ∷ []) [])) (sym there)
            (subst (λ (live : Bool). IsPermutation (copy_of member ∷ copies_at node members) (old ++ cond live (copy_of member ∷ []) [])) (sym alive)
            (IsPermutation-trans _ _ _ (IsPermutation-cons (copy_of member) _ _ (holds.copies node)) (IsPermutation-sym _ _ (IsPermutation-to_front old (copy_of member)))))
        cases true false alive away =
            subst (λ (has : Bool). IsPermutation (map copy_of (cond has (member ∷ filter (is_at node) members) (filter (is_at node) members))) (old ++ [])) (sym away) same
        cases false true gone there =
            subst (λ (live : Bool). IsPermutation (copies_at node members) (old ++ cond live (copy_of member ∷ []) [])) (sym gone) same
        cases false false gone away = same

    -- the chunks hold the member besides
    pub placed-holds : Holds expiration cmp latest count after (with_member expiration cmp latest member members)
    placed-holds = record {
      chunk_for_each = placed.count ∙ holds.chunk_for_each;
      copies = live_joined;
      order = joins (λ member. member.interval.first ≤ member.interval.last) order holds.order;
      within = joins (λ member. 32 + member.interval.last ≤ count) below holds.within;
    }
      where
        joins : (P : Member V → Type 0) → P member → All P members → All P (with_member expiration cmp latest member members)
        joins P own others = both (is_live_yet expiration cmp latest member.value)
          where
            both : (live : Bool) → All P (cond live (member ∷ members) members)
            both true = All-cons P member members own others
            both false = others
