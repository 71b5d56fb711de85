use Rattle.std.proofs.Common.{◌≡◌, ◌++◌, ◌+◌, ◌≤◌, map, reverse}
use Rattle.std.specs.Vec.{vec_len, vec_capacity}
use Rattle.itree_c.specs.Meetings.{pair_of}
use Rattle.itree_c.proofs.pairs.pairs_of.Given as goal

-- the places that are left stand before those that were written, and there is room for all
abbrev pub invariant-loop-written : goal.invariant-loop-written
invariant-loop-written l =
    (map pair_of (reverse l.fn.places.items) ≡ l.pairs.items ++ map pair_of (reverse l.places.items))
    × (vec_len l.places + l._written ≡ l.count) × (vec_len l.pairs ≡ l._written) × (l.count ≤ vec_capacity l.pairs)
