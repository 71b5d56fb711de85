-- What a caller of segments wants of its clauses, in a caller's words.
use Rattle.std.proofs.Common.{◌≡◌, zero, suc, Bool, ℤ, ◌≤ℤ◌, true, ◌⊎◌, inl, inr, List, [], ◌∷◌, map, Option, ap, sym, subst, arith, IsPermutation}
use Rattle.std.specs.List.{Contains, filter}
use Rattle.std.specs.declared.cmp.Ordering.{Ordering}
use Rattle.std.proofs.lemmas.Bool.{cond-true}
use Rattle.std.proofs.lemmas.List.Elements.{Contains-append_cases}
use Rattle.std.proofs.lemmas.List.Sorted.{Contains-permutation}
use Rattle.i_tree.specs.Seg.Buckets.{Buckets, Filters, Accepts, interval, overlap}
use Rattle.i_tree.specs.Seg.Members.{Member, is_live_yet, live_members, member_over, with_member, answer}
use Rattle.i_tree.specs.Root.Live.{is_live}
use Rattle.i_tree.proofs.RootLemmas.Lists.{Contains-here, Contains-there, Contains-filter}
-- What is live at a time is live at each earlier one.
pub use Rattle.i_tree.proofs.SegLemmas.Later.{live-before}
-- A value is live up to its expiration, where that is a number: `is_live` at a time is this of the expiration and the time.
pub use Rattle.i_tree.proofs.RootLemmas.Numbers.{ge-upto, int_ge-upto, int_upto-ge}
-- A query that cleans up, one part after another: no part yet, a further part, and the whole once the last one is. For a walk,
-- from `copies` of `iter_by_range` to `loses` and `cleans` of `GivesNext`.
pub use Rattle.i_tree.proofs.SegLemmas.Losing.{LosesExpiredAt-none, LosesExpiredAt-trans, Cleans-after}

-- what a function gives of an item is among what it gives of all
contains-map : {X Y : Type 0} (f : X → Y) (xs : List X) (x : X) → Contains xs x → Contains (map f xs) (f x)
contains-map f [] x (place, within, is) = absurd (omega arith)
contains-map f (y ∷ ys) x (zero, within, is) = (0, omega arith, ap f is)
contains-map f (y ∷ ys) x (suc place, within, is) = Contains-there (f y) (map f ys) (f x) (contains-map f ys x (place, omega arith, is))

-- `expiration` gives a value's expiration, and `cmp` compares expirations.
module _ {E V : Type 0} (expiration : V → E) (cmp : E → E → Ordering) where
  -- An insertion stores what is live at the latest time: the member is among those after it (`ok` of `insert_by_range`).
  pub is_stored : (latest : Option E) (member : Member V) (members after : List (Member V)) → is_live_yet expiration cmp latest member.value ≡ true
      → IsPermutation (with_member expiration cmp latest member members) after → Contains after member
  is_stored latest member members after live same =
      Contains-permutation (with_member expiration cmp latest member members) after member same
      (subst (λ (all : List (Member V)). Contains all member) (sym (cond-true (is_live_yet expiration cmp latest member.value) (member ∷ members) members live)) (Contains-here member members))

  -- `time` is that of a query.
  module _ (time : E) where
    -- A query finds what overlaps it: a value that is stored over the range from the low to the high number, and that is live
    -- at the time, is among what a query of the range from the least to the greatest finds, where the two ranges overlap.
    -- `found` is what `collect_by_range` appends (`ok`), or what a walk is still to yield (`found` of `iter_by_range`).
    pub finds_overlapping : (buckets : Buckets) (low high least greatest : ℤ) (value : V) (members : List (Member V)) (found : List V)
        → Contains members (member_over buckets low high value) → is_live expiration cmp time value ≡ true
        → Filters buckets → Accepts buckets low high → Accepts buckets least greatest → low ≤ℤ greatest → least ≤ℤ high
        → IsPermutation (answer expiration cmp time (interval buckets least greatest) members) found → Contains found value
    finds_overlapping buckets low high least greatest value members found stored live filters own asked first second answered =
        Contains-permutation (answer expiration cmp time (interval buckets least greatest) members) found value answered
        (contains-map (λ member. member.value) (filter meets (live_members expiration cmp time members)) member
        (Contains-filter meets (live_members expiration cmp time members) member (filters.misses_none low high least greatest own asked first second)
        (Contains-filter alive members member live stored)))
      where
        member : Member V
        member = member_over buckets low high value

        meets : Member V → Bool
        meets other = overlap other.interval (interval buckets least greatest)

        alive : Member V → Bool
        alive other = is_live expiration cmp time other.value

    -- A query keeps what is live: a member that is live at its time is one still, `after` being the members that the query
    -- leaves (`members` of `collect_by_range` and `iter_by_range`).
    pub stays_member : (member : Member V) (members after : List (Member V)) → Contains members member → is_live expiration cmp time member.value ≡ true
        → IsPermutation (live_members expiration cmp time members) after → Contains after member
    stays_member member members after stored live same =
        Contains-permutation (live_members expiration cmp time members) after member same
        (Contains-filter (λ other. is_live expiration cmp time other.value) members member live stored)

-- A walk yields each value that is to come: at a step it yields this one, or this one is to come still (`yields` of
-- `GivesNext`).
pub yields_or_comes : {V : Type 0} (value yielded : V) (before after : List V) → Contains before value → IsPermutation before (yielded ∷ after) → (yielded ≡ value) ⊎ Contains after value
yields_or_comes value yielded before after comes same =
    elim (Contains-append_cases (yielded ∷ []) after value (Contains-permutation before (yielded ∷ after) value same comes)) [
      | inl first ↦ inl (only first)
      | inr rest ↦ inr rest
    ]
  where
    only : Contains (yielded ∷ []) value → yielded ≡ value
    only (zero, within, is) = is
    only (suc place, within, is) = absurd (omega arith)
