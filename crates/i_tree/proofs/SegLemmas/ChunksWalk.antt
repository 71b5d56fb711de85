-- A walk over the chunks of a query's nodes: what it has found, read and left so far.
use Rattle.std.proofs.Common.{◌≡◌, ◌≢◌, ℕ, ◌*◌, ◌%◌, ◌^◌, ◌<◌, ◌≤◌, true, List, [], ◌∷◌, ◌++◌, Vec, length, get_or, set, take, drop, bit_and, ap, sym, ◌∙◌, subst, length-set, inl, inr, arith, IsPermutation}
use Rattle.std.specs.Bool.{◌==◌}
use Rattle.std.specs.Int.{w64, bit_not}
use Rattle.std.specs.List.{All}
use Rattle.std.specs.declared.cmp.Ordering.{Ordering}
use Rattle.std.specs.declared.option.Option.TheVariants.{Some}
use Rattle.std.proofs.lemmas.Bool.{cases_lt, false≢true, false_from_ne_true}
use Rattle.std.proofs.lemmas.List.{drop_all, take_all, get_or-set_same, get_or-map, length-map, map-set}
use Rattle.std.proofs.lemmas.List.Elements.{All-weaker}
use Rattle.std.proofs.lemmas.List.Sorted.{IsPermutation-refl, IsPermutation-trans}
use Rattle.std.proofs.lemmas.Nat.{and_le_l}
use Rattle.std.proofs.lemmas.Nat.Bits.{bit_at_clear_same, bit_at_clear_other}
use Rattle.i_tree.specs.Root.Steps.{Counts, Accumulates, Makes}
use Rattle.i_tree.specs.Seg.Copies.{chunk_at, copies_in, found_at, live_copies, stored_copies}
use Rattle.i_tree.specs.Seg.Members.{Member}
use Rattle.i_tree.specs.Seg.Nodes.{has_node, lowest as first, nodes_of, IsLowest}
use Rattle.i_tree.specs.Seg.Walk.{found_from, to_come, live_from, AllLive, LosesExpired, LosesExpiredAt, HasPassed, SameLive, Reads}
use Rattle.i_tree.proofs.SegLemmas.NodesAmong.{shared}
use Rattle.i_tree.proofs.SegLemmas.Losing.{LosesExpiredAt-none, LosesExpiredAt-trans}
use Rattle.i_tree.proofs.SegLemmas.NodesOf.{nodes_of-lowest}
use Rattle.i_tree.proofs.SegLemmas.NodesWhere.{has_node-below, nodes_of-have}
use Rattle.i_tree.proofs.SegLemmas.Walk.{Reads-none, Reads-trans}
use Rattle.i_tree.proofs.SegLemmas.NodesWalk.{SameLive-refl, SameLive-trans, SameLive-changed, LosesExpiredAt-changed, HasPassed-at, HasPassed-next, found-changed, Reads-changed, found-next, live-next}

module _ {E V : Type 0} (expiration : V → E) (cmp : E → E → Ordering) (time : E) where
  -- `Made` says of two states of a counter which counts were made from the one to the other.
  module _ {S : Type 0} (Made : S → S → Counts → Type 0) (asked : ℕ) where
    -- What a walk has done so far: what is still to come is what was, the nodes' live copies are what they were, copies went that
    -- are not live, and no others, those that it passed are live, and the counts are those of a part of a walk.
    pub record InChunks (old new : S) (before : List (List (ℕ × V))) (left index : ℕ) (after : List (List (ℕ × V))) (left' index' : ℕ) : Type 0 where
      pub within : left' < 2 ^ length after
      pub found : IsPermutation (to_come expiration cmp time asked left index before) (to_come expiration cmp time asked left' index' after)
      pub live : SameLive expiration cmp time before after
      pub loses : LosesExpiredAt expiration cmp time asked before after
      pub passed : HasPassed expiration cmp time asked left' index' after
      pub steps : Makes Made old new (Reads (live_from expiration cmp time index (nodes_of left) before) (live_from expiration cmp time index' (nodes_of left') after) (stored_copies before) (stored_copies after))

    module _ (law : Accumulates Made) where
      pub InChunks-start : (state : S) (chunks : List (List (ℕ × V))) (left index : ℕ) → left < 2 ^ length chunks → HasPassed expiration cmp time asked left index chunks → InChunks state state chunks left index chunks left index
      InChunks-start state chunks left index within passed =
          record {
            within = within;
            found = IsPermutation-refl (to_come expiration cmp time asked left index chunks);
            live = SameLive-refl expiration cmp time chunks;
            loses = LosesExpiredAt-none expiration cmp time asked chunks;
            passed = passed;
            steps = Reads-none law state (live_from expiration cmp time index (nodes_of left) chunks) (stored_copies chunks);
          }

      -- A part in the chunk of the lowest node, which `part` becomes.
      module _ {A : Type 0} (old mid new : S) (before : List (List (ℕ × V))) (left0 index0 : ℕ) (chunks : List (Vec (ℕ × V) A)) (left index : ℕ) (so_far : InChunks old mid before left0 index0 (copies_in chunks) left index)
          (node : ℕ) (lowest : IsLowest left node) (chunk part : Vec (ℕ × V) A) (index' : ℕ)
          (live : IsPermutation (live_copies expiration cmp (Some time) (get_or chunks node chunk).items) (live_copies expiration cmp (Some time) part.items))
          (loses : LosesExpired expiration cmp time (get_or chunks node chunk).items part.items)
          (passed : AllLive expiration cmp time (take index (get_or chunks node chunk).items) → AllLive expiration cmp time (take index' part.items))
          (steps : Makes Made mid new (Reads (length (live_copies expiration cmp (Some time) (drop index (get_or chunks node chunk).items))) (length (live_copies expiration cmp (Some time) (drop index' part.items))) (length (get_or chunks node chunk).items) (length part.items))) where
        abbrev without : ℕ
        without = bit_and left (bit_not w64 (1 * 2 ^ node % 2 ^ 64))

        within_chunks : node < length chunks
        within_chunks = let few = has_node-below left (length (copies_in chunks)) node so_far.within lowest.there in omega (arith, length-map chunks (λ (chunk : Vec (ℕ × V) A). chunk.items))

        within_copies : node < length (copies_in chunks)
        within_copies = has_node-below left (length (copies_in chunks)) node so_far.within lowest.there

        old_is : (get_or chunks node chunk).items ≡ chunk_at node (copies_in chunks)
        old_is = sym (get_or-map (λ (chunk : Vec (ℕ × V) A). chunk.items) chunks node chunk [] within_chunks)

        after_is : set (copies_in chunks) node part.items ≡ copies_in (set chunks node part)
        after_is = sym (map-set (λ (chunk : Vec (ℕ × V) A). chunk.items) chunks node part)

        elsewhere : All (λ other. other ≢ node) (nodes_of without)
        elsewhere =
            All-weaker (λ other. has_node without other ≡ true) (λ other. other ≢ node)
            (λ other has same. absurd (false≢true (sym (ap (λ (bit : ℕ). bit == 1) (bit_at_clear_same w64 left node lowest.within)) ∙ ap (has_node without) (sym same) ∙ has)))
            (nodes_of without) (nodes_of-have without)

        to_come_now : (index : ℕ) (chunks : List (List (ℕ × V))) → to_come expiration cmp time asked left index chunks ≡ found_from expiration cmp time asked index (node ∷ nodes_of without) chunks
        to_come_now index chunks = ap (λ (nodes : List ℕ). found_from expiration cmp time asked index nodes chunks) (nodes_of-lowest left node lowest)

        live_now : (index : ℕ) (chunks : List (List (ℕ × V))) → live_from expiration cmp time index (nodes_of left) chunks ≡ live_from expiration cmp time index (node ∷ nodes_of without) chunks
        live_now index chunks = ap (λ (nodes : List ℕ). live_from expiration cmp time index nodes chunks) (nodes_of-lowest left node lowest)

        pub InChunks-taken : (taken : List (Member V))
            → IsPermutation (found_at expiration cmp (Some time) asked node (drop index (get_or chunks node chunk).items)) (taken ++ found_at expiration cmp (Some time) asked node (drop index' part.items))
            → IsPermutation (to_come expiration cmp time asked left0 index0 before) (taken ++ to_come expiration cmp time asked left index' (copies_in (set chunks node part)))
        InChunks-taken taken h =
            IsPermutation-trans _ _ _ so_far.found
            (subst (λ (found : List (Member V)). IsPermutation found (taken ++ to_come expiration cmp time asked left index' (copies_in (set chunks node part)))) (sym (to_come_now index (copies_in chunks)))
            (subst (λ (found : List (Member V)). IsPermutation (found_from expiration cmp time asked index (node ∷ nodes_of without) (copies_in chunks)) (taken ++ found)) (sym (to_come_now index' (copies_in (set chunks node part))))
            (subst (λ (after : List (List (ℕ × V))). IsPermutation (found_from expiration cmp time asked index (node ∷ nodes_of without) (copies_in chunks)) (taken ++ found_from expiration cmp time asked index' (node ∷ nodes_of without) after)) after_is
            (found-changed expiration cmp time (copies_in chunks) node within_copies part.items asked index index' (nodes_of without) elsewhere taken
            (subst (λ (copies : List (ℕ × V)). IsPermutation (found_at expiration cmp (Some time) asked node (drop index copies)) (taken ++ found_at expiration cmp (Some time) asked node (drop index' part.items))) old_is h)))))

        pub InChunks-live : SameLive expiration cmp time before (copies_in (set chunks node part))
        InChunks-live =
            SameLive-trans expiration cmp time before (copies_in chunks) (copies_in (set chunks node part)) so_far.live
            (subst (λ (after : List (List (ℕ × V))). SameLive expiration cmp time (copies_in chunks) after) after_is
            (SameLive-changed expiration cmp time (copies_in chunks) node within_copies part.items
            (subst (λ (copies : List (ℕ × V)). IsPermutation (live_copies expiration cmp (Some time) copies) (live_copies expiration cmp (Some time) part.items)) old_is live)))

        pub InChunks-loses : LosesExpiredAt expiration cmp time asked before (copies_in (set chunks node part))
        InChunks-loses =
            LosesExpiredAt-trans expiration cmp time asked before (copies_in chunks) (copies_in (set chunks node part)) so_far.loses
            (subst (λ (after : List (List (ℕ × V))). LosesExpiredAt expiration cmp time asked (copies_in chunks) after) after_is
            (LosesExpiredAt-changed expiration cmp time (copies_in chunks) node within_copies part.items asked (so_far.passed.asks node lowest.there)
            (subst (λ (copies : List (ℕ × V)). LosesExpired expiration cmp time copies part.items) old_is loses)))

        lowest_is : first left ≡ node
        lowest_is = ap (λ (nodes : List ℕ). get_or nodes 0 64) (nodes_of-lowest left node lowest)

        -- the copies before the new index
        front_live : AllLive expiration cmp time (take index' part.items)
        front_live =
            passed (subst (λ (copies : List (ℕ × V)). AllLive expiration cmp time (take index copies)) (ap (λ (at : ℕ). chunk_at at (copies_in chunks)) lowest_is ∙ sym old_is) so_far.passed.copies)

        pub InChunks-passed : HasPassed expiration cmp time asked left index' (copies_in (set chunks node part))
        InChunks-passed =
            subst (λ (after : List (List (ℕ × V))). HasPassed expiration cmp time asked left index' after) after_is
            (HasPassed-at expiration cmp time (copies_in chunks) node within_copies part.items asked left index lowest.there so_far.passed index' lowest_is front_live)

        same_elsewhere : asked < 2 ^ 64 → (other : ℕ) → other ≢ node → has_node without other ≡ has_node left other
        same_elsewhere fits other differs =
            elim (cases_lt other 64) [
              | inl within ↦ ap (λ (bit : ℕ). bit == 1) (bit_at_clear_other w64 left node lowest.within other within differs)
              | inr past ↦
                  false_from_ne_true (has_node without other) (λ has. outside other past ((shared left (bit_not w64 (1 * 2 ^ node % 2 ^ 64)) other has).0))
                  ∙ sym (false_from_ne_true (has_node left other) (outside other past))
            ]
          where
            outside : (other : ℕ) → 64 ≤ other → has_node left other ≡ true → ⊥
            outside other past has = let below = has_node-below asked 64 other fits (so_far.passed.asks other has) in omega arith

        pub InChunks-steps : Makes Made old new (Reads (live_from expiration cmp time index0 (nodes_of left0) before) (live_from expiration cmp time index' (nodes_of left) (copies_in (set chunks node part))) (stored_copies before) (stored_copies (copies_in (set chunks node part))))
        InChunks-steps =
            Reads-trans law old mid new _ (live_from expiration cmp time index (nodes_of left) (copies_in chunks)) _ _ (stored_copies (copies_in chunks)) _ so_far.steps
            (subst (λ (live : ℕ). Makes Made mid new (Reads live (live_from expiration cmp time index' (nodes_of left) (copies_in (set chunks node part))) (stored_copies (copies_in chunks)) (stored_copies (copies_in (set chunks node part))))) (sym (live_now index (copies_in chunks)))
            (subst (λ (live : ℕ). Makes Made mid new (Reads (live_from expiration cmp time index (node ∷ nodes_of without) (copies_in chunks)) live (stored_copies (copies_in chunks)) (stored_copies (copies_in (set chunks node part))))) (sym (live_now index' (copies_in (set chunks node part))))
            (subst (λ (after : List (List (ℕ × V))). Makes Made mid new (Reads (live_from expiration cmp time index (node ∷ nodes_of without) (copies_in chunks)) (live_from expiration cmp time index' (node ∷ nodes_of without) after) (stored_copies (copies_in chunks)) (stored_copies after))) after_is
            (Reads-changed expiration cmp time (copies_in chunks) node within_copies part.items Made mid new index index' (nodes_of without) elsewhere
            (subst (λ (copies : List (ℕ × V)). Makes Made mid new (Reads (length (live_copies expiration cmp (Some time) (drop index copies))) (length (live_copies expiration cmp (Some time) (drop index' part.items))) (length copies) (length part.items))) old_is steps)))))

        -- nothing more was found there
        pub InChunks-next : asked < 2 ^ 64 → length part.items ≤ index' → found_at expiration cmp (Some time) asked node (drop index (get_or chunks node chunk).items) ≡ [] → InChunks old new before left0 index0 (copies_in (set chunks node part)) without 0
        InChunks-next fits ended none =
            let there = ap (chunk_at node) (sym after_is) ∙ get_or-set_same (copies_in chunks) node part.items [] within_copies in
            let past = subst (λ (copies : List (ℕ × V)). length copies ≤ index') (sym there) ended in
            let nothing_left = ap (found_at expiration cmp (Some time) asked node) (drop_all index' part.items ended) in
            record {
              within = let fewer = and_le_l left (bit_not w64 (1 * 2 ^ node % 2 ^ 64)) in
                  subst (λ (count : ℕ). without < 2 ^ count) (sym (length-map (set chunks node part) (λ (chunk : Vec (ℕ × V) A). chunk.items) ∙ length-set chunks node part ∙ sym (length-map chunks (λ (chunk : Vec (ℕ × V) A). chunk.items)))) (let small = so_far.within in omega arith);
              found = subst (λ (found : List (Member V)). IsPermutation (to_come expiration cmp time asked left0 index0 before) found)
                  (to_come_now index' (copies_in (set chunks node part)) ∙ found-next expiration cmp time node index' (nodes_of without) (copies_in (set chunks node part)) past asked)
                  (InChunks-taken [] (subst (λ (found : List (Member V)). IsPermutation (found_at expiration cmp (Some time) asked node (drop index (get_or chunks node chunk).items)) found) (none ∙ sym nothing_left) (IsPermutation-refl (found_at expiration cmp (Some time) asked node (drop index (get_or chunks node chunk).items)))));
              live = InChunks-live;
              loses = InChunks-loses;
              passed =
                  subst (λ (after : List (List (ℕ × V))). HasPassed expiration cmp time asked without 0 after) after_is
                  (HasPassed-next expiration cmp time (copies_in chunks) node within_copies part.items asked left index lowest.there so_far.passed without
                  (λ other there. (shared left (bit_not w64 (1 * 2 ^ node % 2 ^ 64)) other there).0) (same_elsewhere fits)
                  (subst (λ (copies : List (ℕ × V)). AllLive expiration cmp time copies) (take_all index' part.items ended) front_live));
              steps = subst (λ (live : ℕ). Makes Made old new (Reads (live_from expiration cmp time index0 (nodes_of left0) before) live (stored_copies before) (stored_copies (copies_in (set chunks node part)))))
                  (live_now index' (copies_in (set chunks node part)) ∙ live-next expiration cmp time node index' (nodes_of without) (copies_in (set chunks node part)) past)
                  InChunks-steps;
            }
