-- A walk over the chunks of several nodes: what its part in the chunk of one node changes.
use Rattle.std.proofs.Common.{◌≡◌, ◌≢◌, ℕ, ◌+◌, ◌<◌, ◌≤◌, ◌⊎◌, true, List, [], ◌∷◌, ◌++◌, length, set, take, drop, refl, ap, sym, ◌∙◌, subst, append_assoc, length-set, inl, inr, arith, IsPermutation}
use Rattle.std.specs.List.{All, sum_by}
use Rattle.std.specs.declared.cmp.Ordering.{Ordering}
use Rattle.std.specs.declared.option.Option.TheVariants.{Some}
use Rattle.std.proofs.lemmas.Bool.{cases_lt, false≢true}
use Rattle.std.proofs.lemmas.List.{drop_all, get_or-set_same, get_or-set_other}
use Rattle.std.proofs.lemmas.List.Elements.{All-nil, All-head, All-tail}
use Rattle.std.proofs.lemmas.List.Sums.{sum_by-cons, sum_by-set}
use Rattle.std.proofs.lemmas.List.Sorted.{IsPermutation-refl, IsPermutation-trans, IsPermutation-append_left}
use Rattle.i_tree.specs.Root.Steps.{Counts, Makes}
use Rattle.i_tree.specs.Seg.Copies.{chunk_at, found_at, found_among, live_copies, stored_copies}
use Rattle.i_tree.specs.Seg.Members.{Member}
use Rattle.i_tree.specs.Seg.Nodes.{has_node, lowest as first, nodes_of}
use Rattle.i_tree.specs.Seg.Walk.{found_from, to_come, live_from, AllLive, LosesExpired, LosesExpiredAt, HasPassed, SameLive, Reads}
use Rattle.i_tree.proofs.SegLemmas.Losing.{LosesExpired-none}
use Rattle.i_tree.proofs.SegLemmas.NodesOf.{nodes_of-zero}

-- two numbers are the same or not
pub same_or_not : (one other : ℕ) → (one ≡ other) ⊎ (one ≢ other)
same_or_not one other = grind (arith, cases_lt)

-- `expiration` gives a value's expiration, `cmp` compares expirations.
module _ {E V : Type 0} (expiration : V → E) (cmp : E → E → Ordering) (time : E) where
  pub SameLive-refl : (chunks : List (List (ℕ × V))) → SameLive expiration cmp time chunks chunks
  SameLive-refl chunks = record { count = refl; live = λ node. IsPermutation-refl (live_copies expiration cmp (Some time) (chunk_at node chunks)) }

  pub SameLive-trans : (first second third : List (List (ℕ × V))) → SameLive expiration cmp time first second → SameLive expiration cmp time second third → SameLive expiration cmp time first third
  SameLive-trans first second third one other =
      record { count = other.count ∙ one.count; live = λ node. IsPermutation-trans _ _ _ (one.live node) (other.live node) }

  -- the chunk of one node becomes another list of copies
  module _ (chunks : List (List (ℕ × V))) (node : ℕ) (within : node < length chunks) (after : List (ℕ × V)) where
    abbrev changed : List (List (ℕ × V))
    changed = set chunks node after

    chunk_there : chunk_at node changed ≡ after
    chunk_there = get_or-set_same chunks node after [] within

    chunk_elsewhere : (other : ℕ) → other ≢ node → chunk_at other changed ≡ chunk_at other chunks
    chunk_elsewhere other differs = get_or-set_other chunks node other after [] differs

    pub SameLive-changed : IsPermutation (live_copies expiration cmp (Some time) (chunk_at node chunks)) (live_copies expiration cmp (Some time) after) → SameLive expiration cmp time chunks changed
    SameLive-changed same =
        record {
          count = length-set chunks node after;
          live = λ other. elim (same_or_not other node) [
            | inl here ↦
                subst (λ (at : ℕ). IsPermutation (live_copies expiration cmp (Some time) (chunk_at at chunks)) (live_copies expiration cmp (Some time) (chunk_at at changed))) (sym here)
                (subst (λ (copies : List (ℕ × V)). IsPermutation (live_copies expiration cmp (Some time) (chunk_at node chunks)) (live_copies expiration cmp (Some time) copies)) (sym chunk_there) same)
            | inr elsewhere ↦
                subst (λ (copies : List (ℕ × V)). IsPermutation (live_copies expiration cmp (Some time) (chunk_at other chunks)) (live_copies expiration cmp (Some time) copies)) (sym (chunk_elsewhere other elsewhere))
                (IsPermutation-refl (live_copies expiration cmp (Some time) (chunk_at other chunks)))
          ];
        }

    -- where copies went at the node that are not live, no others did anywhere
    pub LosesExpiredAt-changed : (asked : ℕ) → has_node asked node ≡ true → LosesExpired expiration cmp time (chunk_at node chunks) after → LosesExpiredAt expiration cmp time asked chunks changed
    LosesExpiredAt-changed asked has loses = grind (arith, same_or_not, chunk_there, chunk_elsewhere, LosesExpired-none, false≢true)

    module _ (asked left index : ℕ) (has : has_node left node ≡ true) (passed : HasPassed expiration cmp time asked left index chunks) where
      -- the walk stands further on at the node
      pub HasPassed-at : (index' : ℕ) → first left ≡ node → AllLive expiration cmp time (take index' after) → HasPassed expiration cmp time asked left index' changed
      HasPassed-at index' low live = grind (arith, chunk_elsewhere, false≢true, chunk_there)

      -- or leaves it
      pub HasPassed-next : (without : ℕ) → ((other : ℕ) → has_node without other ≡ true → has_node left other ≡ true) → ((other : ℕ) → other ≢ node → has_node without other ≡ has_node left other)
          → AllLive expiration cmp time after → HasPassed expiration cmp time asked without 0 changed
      HasPassed-next without fewer same live = grind (arith, same_or_not, chunk_there, chunk_elsewhere, All-nil)

    -- what is found at other nodes, and the live copies there, are as they were
    found_elsewhere : (asked : ℕ) (nodes : List ℕ) → All (λ other. other ≢ node) nodes → found_among expiration cmp (Some time) asked nodes changed ≡ found_among expiration cmp (Some time) asked nodes chunks
    found_elsewhere asked [] elsewhere = refl
    found_elsewhere asked (other ∷ nodes) elsewhere =
        ap (λ (copies : List (ℕ × V)). found_at expiration cmp (Some time) asked other copies ++ found_among expiration cmp (Some time) asked nodes changed) (chunk_elsewhere other (All-head (λ other. other ≢ node) other nodes elsewhere))
        ∙ ap (λ (rest : List (Member V)). found_at expiration cmp (Some time) asked other (chunk_at other chunks) ++ rest) (found_elsewhere asked nodes (All-tail (λ other. other ≢ node) other nodes elsewhere))

    abbrev live_at : List (List (ℕ × V)) → ℕ → ℕ
    live_at chunks at = length (live_copies expiration cmp (Some time) (chunk_at at chunks))

    live_elsewhere : (nodes : List ℕ) → All (λ other. other ≢ node) nodes → sum_by (live_at changed) nodes ≡ sum_by (live_at chunks) nodes
    live_elsewhere [] elsewhere = refl
    live_elsewhere (other ∷ nodes) elsewhere =
        let first = ap (λ (copies : List (ℕ × V)). length (live_copies expiration cmp (Some time) copies)) (chunk_elsewhere other (All-head (λ other. other ≢ node) other nodes elsewhere)) in
        let rest = live_elsewhere nodes (All-tail (λ other. other ≢ node) other nodes elsewhere) in
        sum_by-cons (live_at changed) other nodes ∙ ap (λ (first : ℕ). first + sum_by (live_at changed) nodes) first ∙ ap (λ (rest : ℕ). live_at chunks other + rest) rest ∙ sym (sum_by-cons (live_at chunks) other nodes)

    -- some members were found there, and others still are
    pub found-changed : (asked index index' : ℕ) (nodes : List ℕ) → All (λ other. other ≢ node) nodes → (taken : List (Member V))
        → IsPermutation (found_at expiration cmp (Some time) asked node (drop index (chunk_at node chunks))) (taken ++ found_at expiration cmp (Some time) asked node (drop index' after))
        → IsPermutation (found_from expiration cmp time asked index (node ∷ nodes) chunks) (taken ++ found_from expiration cmp time asked index' (node ∷ nodes) changed)
    found-changed asked index index' nodes elsewhere taken h = grind (arith, chunk_there, found_elsewhere, append_assoc, IsPermutation-append_left)

    -- the counts of the part
    pub Reads-changed : {S : Type 0} (Made : S → S → Counts → Type 0) (old new : S) (index index' : ℕ) (nodes : List ℕ) → All (λ other. other ≢ node) nodes
        → Makes Made old new (Reads (length (live_copies expiration cmp (Some time) (drop index (chunk_at node chunks)))) (length (live_copies expiration cmp (Some time) (drop index' after))) (length (chunk_at node chunks)) (length after))
        → Makes Made old new (Reads (live_from expiration cmp time index (node ∷ nodes) chunks) (live_from expiration cmp time index' (node ∷ nodes) changed) (stored_copies chunks) (stored_copies changed))
    Reads-changed Made old new index index' nodes elsewhere part = grind (arith, chunk_there, live_elsewhere, sum_by-set)

  -- at the end of a node's copies the walk stands at the next node's first one
  module _ (node index : ℕ) (nodes : List ℕ) (chunks : List (List (ℕ × V))) (ended : length (chunk_at node chunks) ≤ index) where
    pub found-next : (asked : ℕ) → found_from expiration cmp time asked index (node ∷ nodes) chunks ≡ found_from expiration cmp time asked 0 nodes chunks
    found-next asked = ap (λ (copies : List (ℕ × V)). found_at expiration cmp (Some time) asked node copies ++ found_among expiration cmp (Some time) asked nodes chunks) (drop_all index (chunk_at node chunks) ended) ∙ from_first asked nodes
      where
        from_first : (asked : ℕ) (nodes : List ℕ) → found_among expiration cmp (Some time) asked nodes chunks ≡ found_from expiration cmp time asked 0 nodes chunks
        from_first asked [] = refl
        from_first asked (other ∷ nodes) = refl

    pub live-next : live_from expiration cmp time index (node ∷ nodes) chunks ≡ live_from expiration cmp time 0 nodes chunks
    live-next =
        let none = ap (λ (copies : List (ℕ × V)). length (live_copies expiration cmp (Some time) copies)) (drop_all index (chunk_at node chunks) ended) in
        omega (arith, none, from_first nodes)
      where
        from_first : (nodes : List ℕ) → sum_by (λ later. length (live_copies expiration cmp (Some time) (chunk_at later chunks))) nodes ≡ live_from expiration cmp time 0 nodes chunks
        from_first [] = refl
        from_first (other ∷ nodes) = sum_by-cons (λ later. length (live_copies expiration cmp (Some time) (chunk_at later chunks))) other nodes

  -- nothing comes where no node is left
  pub to_come-ended : (asked left index : ℕ) (chunks : List (List (ℕ × V))) → left ≡ 0 → to_come expiration cmp time asked left index chunks ≡ []
  to_come-ended asked left index chunks none = ap (λ (nodes : List ℕ). found_from expiration cmp time asked index nodes chunks) (ap nodes_of none ∙ nodes_of-zero)
