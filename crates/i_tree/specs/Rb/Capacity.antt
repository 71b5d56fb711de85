-- What contracts say of slots: of an empty tree, of a reservation, and of an insertion.
use Rattle.std.specs.Prelude.{◌≡◌, ◌≢◌, ◌<◌, ◌≤◌, ℕ, max, Result, IsOk, OnOk, OnErr, IfOk, IfErr, IsErrAnd}
use Rattle.i_tree.specs.declared.TheConstants.{EMPTY_REF}
use Rattle.i_tree.specs.declared.Refusal.{Refusal}
use Rattle.i_tree.specs.declared.Refusal.TheVariants.{OutOfMemory, NoHandle}
use Rattle.i_tree.specs.declared.Refused.{Refused}
use Rattle.i_tree.specs.Rb.Balance.{IsCore}
use Rattle.i_tree.specs.Rb.RbTree.{Contents, slots, slots_with_room}
use Rattle.i_tree.specs.Rb.Shape.{leaf}
use Rattle.i_tree.specs.Root.Causes.{RefusedFor}

module _ {T : Type 0} where
  -- An empty tree of `max(capacity, 8)` slots. It is refused with `NoHandle` exactly where `capacity` is above `EMPTY_REF`, and
  -- else only where the allocator refuses the slots.
  pub record MakesEmpty (capacity : ℕ) (result : Result (Contents T) Refusal) : Type 0 where
    pub empty : IfOk result (λ tree. tree.shape ≡ leaf)
    pub core : IfOk result (λ tree. IsCore tree.shape)
    pub no_handle : EMPTY_REF < capacity → IsErrAnd result (λ cause. cause ≡ NoHandle)
    pub refused : capacity ≤ EMPTY_REF → RefusedFor OutOfMemory result
    pub slots : IfOk result (λ tree. slots tree ≡ max capacity 8)

  -- So many slots in all, where there were fewer. It is refused as an empty tree of so many is, but never where there are so
  -- many slots. A refusal changes nothing.
  pub record Reserves (capacity : ℕ) {R : Type 0} (old new : Contents T) (result : Result R Refusal) : Type 0 where
    pub shape : new.shape ≡ old.shape
    pub no_handle : EMPTY_REF < capacity → IsErrAnd result (λ cause. cause ≡ NoHandle)
    pub refused : capacity ≤ EMPTY_REF → RefusedFor OutOfMemory result
    pub err : OnErr result (new ≡ old)
    pub with_slots : capacity ≤ slots old → IsOk result
    pub slots : OnOk result (slots new ≡ max (slots old) capacity)

  -- What takes a slot succeeds where one is free. Else the slots double, up to `EMPTY_REF` of them: it is refused with `NoHandle`
  -- exactly where all of these are in use, and with `OutOfMemory` only where the growth was refused. A refusal changes nothing.
  -- `cause_of` gives its cause, and `HandsBack` says what it hands back.
  pub record TakesSlotBy {R E : Type 0} (cause_of : E → Refusal) (HandsBack : E → Type 0) (old new : Contents T) (result : Result R E) : Type 0 where
    pub with_spare : 0 < old.spare → IsOk result
    pub err : OnErr result (new ≡ old)
    pub handed : IfErr result HandsBack
    pub no_handle : old.spare ≡ 0 → slots old ≡ EMPTY_REF → IsErrAnd result (λ refused. cause_of refused ≡ NoHandle)
    pub refused : slots old ≢ EMPTY_REF → IfErr result (λ refused. cause_of refused ≡ OutOfMemory)
    pub slots : OnOk result (slots new ≡ slots_with_room old)

  -- an insertion of the item takes a slot, and a refusal hands the item back
  abbrev pub TakesSlot : {R : Type 0} → T → Contents T → Contents T → Result R (Refused T) → Type 0
  TakesSlot item = TakesSlotBy (λ refused. refused.cause) (λ refused. refused.value ≡ item)
