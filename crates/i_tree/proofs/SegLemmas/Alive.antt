-- That what is found is live.
use Rattle.std.proofs.Common.{◌≡◌, ℕ, true, List, [], ◌∷◌, bit_and}
use Rattle.std.specs.Bool.{◌==◌}
use Rattle.std.specs.declared.cmp.Ordering.{Ordering}
use Rattle.std.specs.declared.option.Option.{Option}
use Rattle.std.proofs.lemmas.List.Elements.{All-nil, All-append, All-map, All-filter, filter_passes}
use Rattle.i_tree.specs.Seg.Buckets.{between}
use Rattle.i_tree.specs.Seg.Copies.{chunk_at, found_at, found_among, live_copies, member_of, members_in}
use Rattle.i_tree.specs.Seg.Members.{Member, is_live_yet, AllLiveYet}
use Rattle.i_tree.specs.Seg.Nodes.{lowest, meeting_set, nodes_of}

-- `expiration` gives a value's expiration, `cmp` compares expirations, and `latest` is the latest time.
module _ {E V : Type 0} (expiration : V → E) (cmp : E → E → Ordering) (latest : Option E) where
  abbrev IsAlive : Member V → Type 0
  IsAlive member = is_live_yet expiration cmp latest member.value ≡ true

  found_at-live : (asked node : ℕ) (copies : List (ℕ × V)) → AllLiveYet expiration cmp latest (found_at expiration cmp latest asked node copies)
  found_at-live asked node copies =
      All-map IsAlive member_of _
      (All-filter (λ copy. lowest (bit_and copy.0 asked) == node) (λ copy. is_live_yet expiration cmp latest copy.1 ≡ true) (live_copies expiration cmp latest copies)
      (filter_passes (λ copy. is_live_yet expiration cmp latest copy.1) copies))

  found_among-live : (asked : ℕ) (nodes : List ℕ) (chunks : List (List (ℕ × V))) → AllLiveYet expiration cmp latest (found_among expiration cmp latest asked nodes chunks)
  found_among-live asked [] chunks = All-nil IsAlive
  found_among-live asked (node ∷ nodes) chunks =
      All-append IsAlive (found_at expiration cmp latest asked node (chunk_at node chunks)) (found_among expiration cmp latest asked nodes chunks)
      (found_at-live asked node (chunk_at node chunks)) (found_among-live asked nodes chunks)

  -- the members that chunks hold are live
  pub members_in-live : (chunks : List (List (ℕ × V))) → AllLiveYet expiration cmp latest (members_in expiration cmp latest chunks)
  members_in-live chunks = found_among-live (meeting_set (between 0 31)) (nodes_of (meeting_set (between 0 31))) chunks
