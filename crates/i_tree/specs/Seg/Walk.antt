-- A walk over the copies of the nodes of a query. `asked` is the mask of these nodes, and `left` that of those to which the
-- walk still has to go; in the first of them it goes on at `index`.
use Rattle.std.specs.Prelude.{◌≡◌, ℕ, ◌+◌, ◌*◌, ◌^◌, ◌<◌, ◌≤◌, true, false, List, [], ◌∷◌, ◌++◌, length, take, drop, sum_by, All, IsPermutation, MatchOption}
use Rattle.std.specs.declared.cmp.Ordering.{Ordering}
use Rattle.std.specs.declared.option.Option.{Option}
use Rattle.std.specs.declared.option.Option.TheVariants.{None, Some}
use Rattle.i_tree.specs.declared.seg.walk.Cursor.{Cursor}
use Rattle.i_tree.specs.Root.Steps.{Counts, Makes}
use Rattle.i_tree.specs.Seg.Copies.{chunk_at, found_at, found_among, live_copies, stored_copies}
use Rattle.i_tree.specs.Seg.Members.{Member}
use Rattle.i_tree.specs.Root.Live.{is_live}
use Rattle.i_tree.specs.Seg.Nodes.{has_node, lowest, nodes_of}

-- one of the members that were to come is yielded, and the others still come; or `None`, where none came
abbrev pub Yields : {V : Type 0} → Option V → List (Member V) → List (Member V) → Type 0
Yields result before after =
    MatchOption result (before ≡ []) (λ value. (member : Member _) × (member.value ≡ value) × IsPermutation before (member ∷ after))

module _ {E V : Type 0} (expiration : V → E) (cmp : E → E → Ordering) (time : E) where
  -- what the walk still finds at the nodes of a list, the first of them from an index on
  abbrev pub found_from : ℕ → ℕ → List ℕ → List (List (ℕ × V)) → List (Member V)
  found_from asked index [] chunks = []
  found_from asked index (node ∷ nodes) chunks =
      found_at expiration cmp (Some time) asked node (drop index (chunk_at node chunks))
      ++ found_among expiration cmp (Some time) asked nodes chunks

  -- what the walk still finds
  abbrev pub to_come : ℕ → ℕ → ℕ → List (List (ℕ × V)) → List (Member V)
  to_come asked left index chunks = found_from asked index (nodes_of left) chunks

  -- how many live copies the walk still reads
  abbrev pub live_from : ℕ → List ℕ → List (List (ℕ × V)) → ℕ
  live_from index [] chunks = 0
  live_from index (node ∷ nodes) chunks =
      length (live_copies expiration cmp (Some time) (drop index (chunk_at node chunks)))
      + sum_by (λ later. length (live_copies expiration cmp (Some time) (chunk_at later chunks))) nodes

  -- each of some copies is live
  abbrev pub AllLive : List (ℕ × V) → Type 0
  AllLive copies = All (λ copy. is_live expiration cmp time copy.1 ≡ true) copies

  -- some copies go that are not live; the others stay, in some order
  pub record LosesExpired (before after : List (ℕ × V)) : Type 0 where
    pub gone : List (ℕ × V)
    pub expired : All (λ copy. is_live expiration cmp time copy.1 ≡ false) gone
    pub rest : IsPermutation before (gone ++ after)

  -- A query, or a part of it: the nodes that are asked lose copies that are not live, and no others. At every other node the
  -- copies are as they were.
  pub record LosesExpiredAt (asked : ℕ) (before after : List (List (ℕ × V))) : Type 0 where
    pub met : (node : ℕ) → has_node asked node ≡ true → LosesExpired (chunk_at node before) (chunk_at node after)
    pub others : (node : ℕ) → has_node asked node ≡ false → chunk_at node after ≡ chunk_at node before

  -- A whole query: at each node that is asked all copies are live now, and are the live ones of before, in some order. At
  -- every other node the copies are as they were.
  pub record Cleans (asked : ℕ) (before after : List (List (ℕ × V))) : Type 0 where
    pub live : (node : ℕ) → has_node asked node ≡ true → AllLive (chunk_at node after)
    pub met : (node : ℕ) → has_node asked node ≡ true
        → IsPermutation (live_copies expiration cmp (Some time) (chunk_at node before)) (chunk_at node after)
    pub others : (node : ℕ) → has_node asked node ≡ false → chunk_at node after ≡ chunk_at node before

  -- Where a walk stands, it has cleaned up behind it: the nodes that are left are asked, all copies at the asked nodes that
  -- are not left are live, and so are those before the index at the first node that is left.
  pub record HasPassed (asked left index : ℕ) (chunks : List (List (ℕ × V))) : Type 0 where
    pub asks : (node : ℕ) → has_node left node ≡ true → has_node asked node ≡ true
    pub nodes : (node : ℕ) → has_node asked node ≡ true → has_node left node ≡ false → AllLive (chunk_at node chunks)
    pub copies : AllLive (take index (chunk_at (lowest left) chunks))

  -- each node has the same live copies, in some order
  pub record SameLive (before after : List (List (ℕ × V))) : Type 0 where
    pub count : length after ≡ length before
    pub live : (node : ℕ) → IsPermutation (live_copies expiration cmp (Some time) (chunk_at node before)) (live_copies expiration cmp (Some time) (chunk_at node after))

-- What a part of a walk counts: it tests each copy that it reads, live or not, and removes those that are not. So many live copies
-- were still to be read, and so many are now; so many copies were stored, and so many are now.
pub record Reads (live_before live_after stored_before stored_after : ℕ) (made : Counts) : Type 0 where
  pub comparisons : made.comparisons ≡ 0
  pub rotations : made.rotations ≡ 0
  pub tests : made.tests + live_after ≡ made.removals + live_before
  pub tested : made.removals ≤ made.tests
  pub removals : stored_after + made.removals ≡ stored_before

-- A finished walk that found so many values: beside those that it removes, it tests a copy for each, and at most eight. So many
-- copies were stored, and so many are now.
pub record Collects (found stored_before stored_after : ℕ) (made : Counts) : Type 0 where
  pub comparisons : made.comparisons ≡ 0
  pub rotations : made.rotations ≡ 0
  pub tests : made.tests ≤ 8 * found + made.removals
  pub tested : made.removals + found ≤ made.tests
  pub removals : stored_after + made.removals ≡ stored_before

-- A walk that was left, for a query of so many answers: it tests each copy that it removes, and beside these at most eight for
-- each answer.
pub record StopsCollecting (answers stored_before stored_after : ℕ) (made : Counts) : Type 0 where
  pub comparisons : made.comparisons ≡ 0
  pub rotations : made.rotations ≡ 0
  pub tests : made.tests ≤ 8 * answers + made.removals
  pub tested : made.removals ≤ made.tests
  pub removals : stored_after + made.removals ≡ stored_before

-- `Made` says of two states of a counter which counts were made from the one to the other.
module _ {E V S : Type 0} (expiration : V → E) (cmp : E → E → Ordering) (time : E) (Made : S → S → Counts → Type 0) where
  -- A step of a walk in the chunk of one node, from an index on: it yields the next member that is found there, or `None` at the
  -- end of the chunk. The live copies stay. What it has passed is live.
  pub record StepsInChunk (asked node index : ℕ) (before : List (ℕ × V)) (old : S) (result : Option V) (index' : ℕ) (after : List (ℕ × V)) (new : S) : Type 0 where
    pub found : Yields result
        (found_at expiration cmp (Some time) asked node (drop index before))
        (found_at expiration cmp (Some time) asked node (drop index' after))
    pub ended : result ≡ None → length after ≤ index'
    pub live : IsPermutation (live_copies expiration cmp (Some time) before) (live_copies expiration cmp (Some time) after)
    pub loses : LosesExpired expiration cmp time before after
    pub passed : AllLive expiration cmp time (take index before) → AllLive expiration cmp time (take index' after)
    pub steps : Makes Made old new (Reads
        (length (live_copies expiration cmp (Some time) (drop index before)))
        (length (live_copies expiration cmp (Some time) (drop index' after)))
        (length before) (length after))

  -- A step of a walk over the chunks of the nodes that are asked, from a cursor on: it yields the next member that is found, or
  -- `None` once no node is left. The nodes keep their live copies, and lose others only where they are asked. What it has passed
  -- is live.
  pub record StepsOn (asked : ℕ) (from : Cursor) (before : List (List (ℕ × V))) (old : S) (result : Option V) (to : Cursor) (after : List (List (ℕ × V))) (new : S) : Type 0 where
    pub within : to.left < 2 ^ length after
    pub found : Yields result
        (to_come expiration cmp time asked from.left from.index before)
        (to_come expiration cmp time asked to.left to.index after)
    pub ended : result ≡ None → to.left ≡ 0
    pub live : SameLive expiration cmp time before after
    pub loses : LosesExpiredAt expiration cmp time asked before after
    pub passed : HasPassed expiration cmp time asked to.left to.index after
    pub steps : Makes Made old new (Reads
        (live_from expiration cmp time from.index (nodes_of from.left) before)
        (live_from expiration cmp time to.index (nodes_of to.left) after)
        (stored_copies before) (stored_copies after))
