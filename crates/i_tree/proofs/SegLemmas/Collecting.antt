-- A walk that appends what it finds, one value after another.
use Rattle.std.proofs.Common.{◌≡◌, ℕ, ◌+◌, ◌*◌, ◌^◌, ◌<◌, ◌≤◌, Some, List, [], ◌∷◌, ◌++◌, length, ap, sym, ◌∙◌, subst, append_assoc, length-append, arith, IsPermutation}
use Rattle.std.specs.List.{sum_by}
use Rattle.std.specs.declared.cmp.Ordering.{Ordering}
use Rattle.std.proofs.lemmas.List.{append-nil, length-map}
use Rattle.std.proofs.lemmas.List.Sorted.{IsPermutation-trans, IsPermutation-map, IsPermutation-append_right, length_permutation}
use Rattle.i_tree.specs.Root.Steps.{Counts, Accumulates, Makes}
use Rattle.std.proofs.lemmas.List.Sums.{sum_by-cons}
use Rattle.i_tree.specs.Seg.Copies.{chunk_at, found_at, found_among, live_copies, stored_copies}
use Rattle.i_tree.specs.Seg.Members.{Member, live_members, values_of}
use Rattle.i_tree.specs.Seg.Nodes.{nodes_of}
use Rattle.i_tree.specs.Seg.Segments.{Contents}
use Rattle.i_tree.specs.Seg.Walk.{to_come, found_from, live_from, LosesExpiredAt, Cleans, HasPassed, Reads, Collects, StopsCollecting}
use Rattle.i_tree.proofs.RootLemmas.Lists.{length-filter_le}
use Rattle.i_tree.proofs.SegLemmas.Losing.{LosesExpiredAt-trans, Cleans-ended}
use Rattle.i_tree.proofs.SegLemmas.NodesOf.{nodes_of-zero}
use Rattle.i_tree.proofs.SegLemmas.Walk.{Reads-trans}

module _ {E V : Type 0} (expiration : V → E) (cmp : E → E → Ordering) (time : E) where
  -- `Made` says of two states of a counter which counts were made from the one to the other, and the walk began at the first
  -- copy of the lowest asked node.
  module _ {S : Type 0} (Made : S → S → Counts → Type 0) (asked : ℕ) (before : Contents E V) (old : S) where
    -- a walk of the tree has come so far
    pub record IsWalked (tree : Contents E V) (left index : ℕ) (new : S) : Type 0 where
      pub few : length tree.chunks ≤ 63
      pub within : left < 2 ^ length tree.chunks
      pub latest : tree.latest ≡ Some time
      pub buckets : tree.buckets ≡ before.buckets
      pub members : IsPermutation (live_members expiration cmp time before.members) tree.members
      pub loses : LosesExpiredAt expiration cmp time asked before.chunks tree.chunks
      pub passed : HasPassed expiration cmp time asked left index tree.chunks
      pub steps : Makes Made old new (Reads (live_from expiration cmp time 0 (nodes_of asked) before.chunks) (live_from expiration cmp time index (nodes_of left) tree.chunks) (stored_copies before.chunks) (stored_copies tree.chunks))

    -- and further
    pub IsWalked-on : Accumulates Made → (mid new : S) (tree tree' : Contents E V) (left index left' index' : ℕ) → IsWalked tree left index mid
        → length tree'.chunks ≡ length tree.chunks → left' < 2 ^ length tree'.chunks → tree'.latest ≡ tree.latest → tree'.buckets ≡ tree.buckets → IsPermutation tree.members tree'.members
        → LosesExpiredAt expiration cmp time asked tree.chunks tree'.chunks → HasPassed expiration cmp time asked left' index' tree'.chunks
        → Makes Made mid new (Reads (live_from expiration cmp time index (nodes_of left) tree.chunks) (live_from expiration cmp time index' (nodes_of left') tree'.chunks) (stored_copies tree.chunks) (stored_copies tree'.chunks))
        → IsWalked tree' left' index' new
    IsWalked-on law mid new tree tree' left index left' index' so_far count within latest buckets members loses passed steps =
        record {
          few = let few = so_far.few in omega (arith, few, count);
          within = within;
          latest = latest ∙ so_far.latest;
          buckets = buckets ∙ so_far.buckets;
          members = IsPermutation-trans _ _ _ so_far.members members;
          loses = LosesExpiredAt-trans expiration cmp time asked before.chunks tree.chunks tree'.chunks so_far.loses loses;
          passed = passed;
          steps = Reads-trans law old mid new _ _ _ _ _ _ so_far.steps steps;
        }

    -- a finished walk's counts, where a live copy is read for each of so many values, and at most eight
    pub IsWalked-ended : (tree : Contents E V) (left index : ℕ) (new : S) (values : ℕ) → live_from expiration cmp time 0 (nodes_of asked) before.chunks ≤ 8 * values → values ≤ live_from expiration cmp time 0 (nodes_of asked) before.chunks
        → left ≡ 0 → IsWalked tree left index new → Makes Made old new (Collects values (stored_copies before.chunks) (stored_copies tree.chunks))
    IsWalked-ended tree left index new values few each ended walked = grind (arith, nodes_of-zero)

    -- and what it cleans up: no node is left
    pub IsWalked-cleans : (tree : Contents E V) (left index : ℕ) (new : S) → left ≡ 0 → IsWalked tree left index new → Cleans expiration cmp time asked before.chunks tree.chunks
    IsWalked-cleans tree left index new ended walked = Cleans-ended expiration cmp time asked left index before.chunks tree.chunks ended walked.loses walked.passed

    -- the counts of one that was left
    pub IsWalked-left : (tree : Contents E V) (left index : ℕ) (new : S) (values : ℕ) → live_from expiration cmp time 0 (nodes_of asked) before.chunks ≤ 8 * values → IsWalked tree left index new
        → Makes Made old new (StopsCollecting values (stored_copies before.chunks) (stored_copies tree.chunks))
    IsWalked-left tree left index new values few walked = grind arith

  -- each member that is found is of a live copy
  found_live : (asked node : ℕ) (copies : List (ℕ × V)) → length (found_at expiration cmp (Some time) asked node copies) ≤ length (live_copies expiration cmp (Some time) copies)
  found_live asked node copies = grind (arith, length-map, length-filter_le)

  found_among-live : (asked : ℕ) (nodes : List ℕ) (chunks : List (List (ℕ × V))) → length (found_among expiration cmp (Some time) asked nodes chunks) ≤ sum_by (λ node. length (live_copies expiration cmp (Some time) (chunk_at node chunks))) nodes
  found_among-live asked [] chunks = omega arith
  found_among-live asked (node ∷ nodes) chunks =
      let both = length-append (found_at expiration cmp (Some time) asked node (chunk_at node chunks)) (found_among expiration cmp (Some time) asked nodes chunks) in
      let summed = sum_by-cons (λ node. length (live_copies expiration cmp (Some time) (chunk_at node chunks))) node nodes in
      omega (arith, both, summed, found_live asked node (chunk_at node chunks), found_among-live asked nodes chunks)

  found_from-live : (asked index : ℕ) (nodes : List ℕ) (chunks : List (List (ℕ × V))) → length (found_from expiration cmp time asked index nodes chunks) ≤ live_from expiration cmp time index nodes chunks
  found_from-live asked index [] chunks = omega arith
  found_from-live asked index (node ∷ nodes) chunks = grind (arith, length-append, found_live, found_among-live)

  module _ (asked : ℕ) (before after : List (List (ℕ × V))) (answers : List V) (same : after ≡ before) (found : IsPermutation answers (values_of (to_come expiration cmp time asked asked 0 after))) where
    as_many : length (to_come expiration cmp time asked asked 0 after) ≡ length answers
    as_many = grind (arith, length-map, length_permutation)

    -- at most eight live copies are read for each answer, where they are for each member that comes
    pub reads-few : live_from expiration cmp time 0 (nodes_of asked) after ≤ 8 * length (to_come expiration cmp time asked asked 0 after) → live_from expiration cmp time 0 (nodes_of asked) before ≤ 8 * length answers
    reads-few few =
        subst (λ (chunks : List (List (ℕ × V))). live_from expiration cmp time 0 (nodes_of asked) chunks ≤ 8 * length answers) same (omega (arith, few, as_many))

    -- and one is
    pub reads-each : length answers ≤ live_from expiration cmp time 0 (nodes_of asked) before
    reads-each = grind (arith, as_many, found_from-live)

-- The answers are, in some order, those that were appended to the list and those of the members that are still to come.
pub record IsAppended {V : Type 0} (answers kept items : List V) (come : List (Member V)) : Type 0 where
  pub found : List V
  pub is : items ≡ kept ++ found
  pub rest : IsPermutation answers (found ++ values_of come)

module _ {V : Type 0} (answers kept items : List V) (come : List (Member V)) (so_far : IsAppended answers kept items come) where
  -- one more was found, and is appended
  pub IsAppended-more : (value : V) (come' : List (Member V)) → (member : Member V) × (member.value ≡ value) × IsPermutation come (member ∷ come') → IsAppended answers kept (items ++ value ∷ []) come'
  IsAppended-more value come' one =
      record {
        found = so_far.found ++ value ∷ [];
        is = ap (λ (before : List V). before ++ value ∷ []) so_far.is ∙ append_assoc kept so_far.found (value ∷ []);
        rest = subst (λ (all : List V). IsPermutation answers all) (sym (append_assoc so_far.found (value ∷ []) (values_of come')))
            (IsPermutation-trans _ _ _ so_far.rest
            (IsPermutation-append_right so_far.found (values_of come) (value ∷ values_of come')
            (subst (λ (first : V). IsPermutation (values_of come) (first ∷ values_of come')) one.1 (IsPermutation-map (λ member. member.value) come (one.0 ∷ come') one.2))));
      }

  -- fewer were appended than there are answers, as long as one comes
  pub IsAppended-fewer : {value : V} {come' : List (Member V)} → (member : Member V) × (member.value ≡ value) × IsPermutation come (member ∷ come') → length items < length kept + length answers
  IsAppended-fewer {come' = come'} one =
      let as_many = length_permutation answers (so_far.found ++ values_of come) so_far.rest in
      let values = length-map come (λ member. member.value) in
      let some = length_permutation come (one.0 ∷ come') one.2 in
      omega (arith, length-append so_far.found (values_of come), length-append kept so_far.found, ap length so_far.is)

  -- none is left
  pub IsAppended-all : come ≡ [] → (found : List V) × IsPermutation answers found × (items ≡ kept ++ found)
  IsAppended-all none =
      (so_far.found, subst (λ (all : List V). IsPermutation answers all) (ap (λ (rest : List (Member V)). so_far.found ++ values_of rest) none ∙ append-nil so_far.found) so_far.rest, so_far.is)
