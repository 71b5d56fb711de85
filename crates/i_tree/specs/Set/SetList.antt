-- What contracts see of a `SetList` and of its handles, and what it promises beyond the trait.
use Rattle.std.specs.Prelude.{◌≡◌, ◌≢◌, ◌≤◌, ◌<◌, ◌+◌, ℕ, List, Result, IsOk, IsErrAnd, IfErr, OnOk, OnErr, length, slice_set, ⊤}
use Rattle.std.specs.List.{enumerate_from, insert, remove}
use Rattle.std.specs.List.Sorted.{IsPartitionPoint}
use Rattle.std.specs.declared.cmp.Ordering.{Ordering}
use Rattle.std.specs.declared.cmp.Ordering.TheVariants.{Less}
use Rattle.i_tree.specs.declared.Refusal.TheVariants.{OutOfMemory, NoHandle}
use Rattle.i_tree.specs.declared.Refused.{Refused}
use Rattle.i_tree.specs.declared.TheConstants.{EMPTY_REF}

-- the values, in order, and for how many more there is room
pub record Contents (V : Type 0) : Type 0 where
  pub values : List V
  pub spare : ℕ

module _ {V : Type 0} where
  -- each value behind its position
  abbrev pub numbered : List V → List (ℕ × V)
  numbered values = enumerate_from 0 values

  -- the contents with this value at the position
  abbrev pub value_put : Contents V → ℕ → V → Contents V
  value_put contents position value = record contents { values = slice_set contents.values position value }

-- the values in front of the place have keys below this one, and no others
abbrev pub IsPlaceFor : {K V : Type 0} → (V → K) → (K → K → Ordering) → K → List V → ℕ → Type 0
IsPlaceFor key_of cmp key values place = IsPartitionPoint (λ value. cmp (key_of value) key ≡ Less) (λ value. cmp (key_of value) key ≢ Less) values place

module _ {K V : Type 0} (key_of : V → K) (cmp : K → K → Ordering) where
  -- the value stands at the place of its key, and those behind it have moved up
  abbrev pub JoinsAtPlace : V → List V → List V → Type 0
  JoinsAtPlace value old new =
      (place : ℕ) × (place ≤ length old) × IsPlaceFor key_of cmp (key_of value) old place × (new ≡ insert old place value)

  -- an insertion is refused with `NoHandle` exactly where `EMPTY_REF` values are stored, else only where there was no room
  -- and memory was refused, and changes nothing then
  pub record SetListInserts (value : V) (old : Contents V) (result : Result ⊤ (Refused V)) (new : Contents V) : Type 0 where
    pub joins : OnOk result (JoinsAtPlace value old.values new.values)
    pub with_spare : length old.values < EMPTY_REF → 0 < old.spare → IsOk result
    pub err : OnErr result (new ≡ old)
    pub no_handle : length old.values ≡ EMPTY_REF → IsErrAnd result (λ refused. refused.cause ≡ NoHandle)
    pub refused : length old.values ≢ EMPTY_REF → IfErr result (λ refused. refused.cause ≡ OutOfMemory)
    pub room : length old.values + old.spare ≤ length new.values + new.spare

-- a deletion takes the value at its position out, and leaves room for one more
pub record SetListDeletes {V : Type 0} (position : ℕ) (old new : Contents V) : Type 0 where
  pub removed : new.values ≡ remove old.values position
  pub spare : new.spare ≡ old.spare + 1
  pub room : length new.values + new.spare ≡ length old.values + old.spare
