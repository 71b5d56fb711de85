-- An insertion, from the clauses of the calls that it makes.
use Rattle.std.proofs.Common.{ℕ, ◌+◌, ◌^◌, ◌<◌, ◌≤◌, ℤ, List, arith}
use Rattle.std.specs.List.Sorted.{IsPermutation}
use Rattle.std.specs.declared.cmp.Ordering.{Ordering}
use Rattle.std.specs.declared.option.Option.{Option}
use Rattle.std.proofs.Math.Nat.{pow-le-pow_right}
use Rattle.std.proofs.lemmas.Int.{ints}
use Rattle.i_tree.specs.Seg.Buckets.{Buckets, Accepts, interval, bucket, chunk_count}
use Rattle.i_tree.specs.Seg.Copies.{stored_copies, members_in, Holds, PlacesCopies}
use Rattle.i_tree.specs.Seg.Members.{Member, member_over, with_member}
use Rattle.i_tree.specs.Seg.Nodes.{canonical_nodes}
use Rattle.i_tree.proofs.SegLemmas.Filters.{bucket-rises}
use Rattle.i_tree.proofs.SegLemmas.Found.{holds-members_in, holds-own}
use Rattle.i_tree.proofs.SegLemmas.Masks.{few-placed}
use Rattle.i_tree.proofs.SegLemmas.Placing.{placed-few, placed-holds}

module _ (buckets : Buckets) (low high : ℤ) (wide : 0 < buckets.width) (accepted : Accepts buckets low high) where
  pub accepted-order : bucket buckets low ≤ bucket buckets high
  accepted-order = bucket-rises buckets low high wide accepted.above accepted.order

  -- the last bucket of the range has a chunk
  pub accepted-within : 32 + bucket buckets high ≤ chunk_count buckets
  accepted-within = grind (arith, bucket-rises, ints)

  pub accepted-below : (mask : ℕ) → mask < 2 ^ (32 + bucket buckets high) → mask < 2 ^ chunk_count buckets
  accepted-below mask below = grind (arith, pow-le-pow_right, accepted-within)

  module _ {E V : Type 0} (expiration : V → E) (cmp : E → E → Ordering) (latest : Option E) (value : V) (before after : List (List (ℕ × V))) (members : List (Member V)) (few : chunk_count buckets ≤ 63)
      (holds : Holds expiration cmp latest (chunk_count buckets) before members) (placed : PlacesCopies (canonical_nodes (interval buckets low high)) value before after) where
    holds-joined : Holds expiration cmp latest (chunk_count buckets) after (with_member expiration cmp latest (member_over buckets low high value) members)
    holds-joined =
        placed-holds expiration cmp latest (chunk_count buckets) before after members (member_over buckets low high value) few accepted-order accepted-within holds placed

    -- the member joins what the chunks hold
    pub inserted-members : IsPermutation (with_member expiration cmp latest (member_over buckets low high value) members) (members_in expiration cmp latest after)
    inserted-members =
        holds-members_in expiration cmp latest (chunk_count buckets) after (with_member expiration cmp latest (member_over buckets low high value) members) few holds-joined

    pub inserted-holds : Holds expiration cmp latest (chunk_count buckets) after (members_in expiration cmp latest after)
    inserted-holds =
        holds-own expiration cmp latest (chunk_count buckets) after (with_member expiration cmp latest (member_over buckets low high value) members) few holds-joined

    pub inserted-few : stored_copies after ≤ stored_copies before + 8
    inserted-few =
        let long = holds.chunk_for_each in
        let within = accepted-within in
        let more = placed-few (canonical_nodes (interval buckets low high)) value before after (omega arith) placed in
        omega (arith, few-placed (bucket buckets low) (bucket buckets high) accepted-order (omega arith))
