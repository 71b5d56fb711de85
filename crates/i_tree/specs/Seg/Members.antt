-- What a tree of segments holds: a bag of values, each over some buckets. Lists of members are bags: their order is open.
use Rattle.std.specs.Prelude.{◌≡◌, ℤ, Bool, true, false, if◌then◌else◌, List, ◌∷◌, ◌++◌, map, filter, All, IsPermutation}
use Rattle.std.specs.declared.cmp.Ordering.{Ordering}
use Rattle.std.specs.declared.option.Option.{Option}
use Rattle.std.specs.declared.option.Option.TheVariants.{None, Some}
use Rattle.i_tree.specs.Root.Late.{is_late}
use Rattle.i_tree.specs.Root.Live.{is_live}
use Rattle.i_tree.specs.Seg.Buckets.{Buckets, Interval, interval, overlap}

-- a value over the buckets of its range
pub record Member (V : Type 0) : Type 0 where
  pub interval : Interval
  pub value : V

-- the value over the range from the low to the high number
abbrev pub member_over : {V : Type 0} → Buckets → ℤ → ℤ → V → Member V
member_over buckets low high value = record { interval = interval buckets low high; value = value }

-- the values of members
abbrev pub values_of : {V : Type 0} → List (Member V) → List V
values_of members = map (λ member. member.value) members

-- `expiration` gives a value's expiration, and `cmp` compares expirations.
module _ {E V : Type 0} (expiration : V → E) (cmp : E → E → Ordering) where
  -- a value is live at the latest time; where no time has come yet, each is
  abbrev pub is_live_yet : Option E → V → Bool
  is_live_yet None value = true
  is_live_yet (Some time) value = is_live expiration cmp time value

  -- each member is live at the latest time
  abbrev pub AllLiveYet : Option E → List (Member V) → Type 0
  AllLiveYet latest members = All (λ member. is_live_yet latest member.value ≡ true) members

  -- the members that are live at a time
  abbrev pub live_members : E → List (Member V) → List (Member V)
  live_members time members = filter (λ member. is_live expiration cmp time member.value) members

  -- the members and one more, which joins them where it is live at the latest time
  abbrev pub with_member : Option E → Member V → List (Member V) → List (Member V)
  with_member latest member members = if is_live_yet latest member.value then member ∷ members else members

  -- a member joins the others where it is live at the latest time, in some order
  abbrev pub Joins : Option E → Member V → List (Member V) → List (Member V) → Type 0
  Joins latest member before after = IsPermutation (with_member latest member before) after

  -- the answer to a query, in some order: the values of the members that are live at its time and overlap its interval
  abbrev pub answer : E → Interval → List (Member V) → List V
  answer time asked members =
      values_of (filter (λ member. overlap member.interval asked) (live_members time members))

-- the answers stand behind what a list had before, in some order
abbrev pub Appends : {V : Type 0} → List V → List V → List V → Type 0
Appends answers before after = (found : List _) × IsPermutation answers found × (after ≡ before ++ found)

-- the time is not before the latest one
abbrev pub NotBefore : {E : Type 0} → (E → E → Ordering) → Option E → E → Type 0
NotBefore cmp latest time = is_late cmp latest time ≡ false
