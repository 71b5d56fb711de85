-- Copies of values at the nodes of the heap. A copy is a mask and a value: the set of nodes that the value is placed at. A
-- list of chunks has the copies of each node, from node 0 on.
use Rattle.std.specs.Prelude.{◌≡◌, ℕ, ◌+◌, ◌<◌, ◌≤◌, Bool, true, ◌==◌, if◌then◌else◌, List, [], ◌∷◌, ◌++◌, map, filter, flat_map, length, get_or, slice_get, sum_by, All, IsPermutation, IsSomeAnd, bit_and, vec_len, vec_capacity}
use Rattle.std.specs.declared.cmp.Ordering.{Ordering}
use Rattle.std.specs.declared.option.Option.{Option}
use Rattle.std.specs.declared.vec.Vec.{Vec}
use Rattle.i_tree.specs.Seg.Buckets.{between}
use Rattle.i_tree.specs.Seg.Members.{Member, is_live_yet}
use Rattle.i_tree.specs.Seg.Nodes.{has_node, lowest, nodes_of, canonical_nodes, meeting_set, interval_of}

module _ {V : Type 0} where
  -- the copies of a node, of which there are none where it has no chunk
  abbrev pub chunk_at : ℕ → List (List (ℕ × V)) → List (ℕ × V)
  chunk_at node chunks = get_or chunks node []

  -- how many copies are stored
  abbrev pub stored_copies : List (List (ℕ × V)) → ℕ
  stored_copies chunks = sum_by length chunks

  -- the copy of a member: the nodes that its interval is placed at, and its value
  abbrev pub copy_of : Member V → ℕ × V
  copy_of member = (canonical_nodes member.interval, member.value)

  -- the member that a copy is of
  abbrev pub member_of : ℕ × V → Member V
  member_of copy = record { interval = interval_of copy.0; value = copy.1 }

  -- the member is placed at the node
  abbrev pub is_at : ℕ → Member V → Bool
  is_at node member = has_node (canonical_nodes member.interval) node

  -- the copies that members have at a node: one for each that is placed there
  abbrev pub copies_at : ℕ → List (Member V) → List (ℕ × V)
  copies_at node members = map copy_of (filter (is_at node) members)

  -- the copies of each chunk
  abbrev pub copies_in : {A : Type 0} → List (Vec (ℕ × V) A) → List (List (ℕ × V))
  copies_in chunks = map (λ chunk. chunk.items) chunks

  -- at each node of the mask there is a chunk, and room in it
  abbrev pub HasRoom : {A : Type 0} → ℕ → List (Vec (ℕ × V) A) → Type 0
  HasRoom mask chunks = (node : ℕ) → has_node mask node ≡ true
      → IsSomeAnd (slice_get chunks node) (λ chunk. vec_len chunk < vec_capacity chunk)

  -- a copy of the value joins the chunk of each node of the mask, at its end
  pub record PlacesCopies (mask : ℕ) (value : V) (before after : List (List (ℕ × V))) : Type 0 where
    pub count : length after ≡ length before
    pub chunks : (node : ℕ) → node < length before
        → chunk_at node after ≡ chunk_at node before ++ (if has_node mask node then (mask, value) ∷ [] else [])

-- `expiration` gives a value's expiration, `cmp` compares expirations, and `latest` is the latest time.
module _ {E V : Type 0} (expiration : V → E) (cmp : E → E → Ordering) (latest : Option E) where
  -- the copies that are live at the latest time
  abbrev pub live_copies : List (ℕ × V) → List (ℕ × V)
  live_copies copies = filter (λ copy. is_live_yet expiration cmp latest copy.1) copies

  -- of the copies of a node, the members that are live and placed at no lower node of those that are asked
  abbrev pub found_at : ℕ → ℕ → List (ℕ × V) → List (Member V)
  found_at asked node copies = map member_of (filter (λ copy. lowest (bit_and copy.0 asked) == node) (live_copies copies))

  -- what is found at the nodes of a list, one node after the other
  abbrev pub found_among : ℕ → List ℕ → List (List (ℕ × V)) → List (Member V)
  found_among asked nodes chunks = flat_map (λ node. found_at asked node (chunk_at node chunks)) nodes

  -- the members that the chunks hold: what is found where all nodes are asked
  abbrev pub members_in : List (List (ℕ × V)) → List (Member V)
  members_in chunks = found_among (meeting_set (between 0 31)) (nodes_of (meeting_set (between 0 31))) chunks

  -- each node's live copies are one for each of the members that is placed there, whose intervals lie in the buckets
  pub record Holds (count : ℕ) (chunks : List (List (ℕ × V))) (members : List (Member V)) : Type 0 where
    pub chunk_for_each : length chunks ≡ count
    pub copies : (node : ℕ) → IsPermutation (copies_at node members) (live_copies (chunk_at node chunks))
    pub order : All (λ member. member.interval.first ≤ member.interval.last) members
    pub within : All (λ member. 32 + member.interval.last ≤ count) members
