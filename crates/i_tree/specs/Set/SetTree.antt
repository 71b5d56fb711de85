-- What a `SetTree` promises beyond the trait. Its contents are those of its core.
use Rattle.std.specs.Prelude.{◌≡◌, ◌≢◌, ◌<◌, ◌+◌, ◌++◌, ◌∷◌, ℕ, List, Result, IsOk, IsErrAnd, IfErr, OnOk, OnErr, ⊤}
use Rattle.i_tree.specs.Rb.Balance.{IsCore}
use Rattle.i_tree.specs.Rb.RbTree.{Contents, slots, slots_with_room}
use Rattle.i_tree.specs.Rb.Removal.{LosesAt}
use Rattle.i_tree.specs.Rb.Shape.{Shape, entries, occurs}
use Rattle.i_tree.specs.Set.Pairs.{HasHandle}
use Rattle.i_tree.specs.declared.Refusal.TheVariants.{OutOfMemory, NoHandle}
use Rattle.i_tree.specs.declared.Refused.{Refused}
use Rattle.i_tree.specs.declared.TheConstants.{EMPTY_REF}

module _ {V : Type 0} where
  -- the value stands at some place between the others, with a handle that none of them had
  abbrev pub JoinsWithHandle : V → Shape V → Shape V → Type 0
  JoinsWithHandle value old new =
      (front : List (ℕ × V)) × (handle : ℕ) × (back : List (ℕ × V))
      × (entries old ≡ front ++ back) × (entries new ≡ front ++ (handle, value) ∷ back) × (occurs handle old ≡ 0)

  -- an insertion succeeds where a slot is free, else the slots double, and live handles stay live; it is refused with
  -- `NoHandle` where all `EMPTY_REF` slots are in use, else where memory was refused, and changes nothing then
  pub record SetTreeInserts (value : V) (old : Contents V) (result : Result ⊤ (Refused V)) (new : Contents V) : Type 0 where
    pub joins : OnOk result (JoinsWithHandle value old.shape new.shape)
    pub keeps : (handle : ℕ) → HasHandle (entries old.shape) handle → HasHandle (entries new.shape) handle
    pub core : IsCore new.shape
    pub with_spare : 0 < old.spare → IsOk result
    pub err : OnErr result (new ≡ old)
    pub no_handle : old.spare ≡ 0 → slots old ≡ EMPTY_REF → IsErrAnd result (λ refused. refused.cause ≡ NoHandle)
    pub refused : slots old ≢ EMPTY_REF → IfErr result (λ refused. refused.cause ≡ OutOfMemory)
    pub slots : OnOk result (slots new ≡ slots_with_room old)

  -- a deletion leaves every other value its handle, or the next one alone has this handle now, and the slot is free
  pub record SetTreeDeletes (handle : ℕ) (old new : Contents V) : Type 0 where
    pub loses : (front : List (ℕ × V)) (value : V) (back : List (ℕ × V))
        → entries old.shape ≡ front ++ (handle, value) ∷ back → LosesAt handle front back (entries new.shape)
    pub core : IsCore new.shape
    pub spare : new.spare ≡ old.spare + 1
    pub slots : slots new ≡ slots old
