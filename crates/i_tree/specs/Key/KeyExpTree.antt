-- What a `KeyExpTree` promises beyond the trait.
use Rattle.std.specs.Prelude.{◌≡◌, ◌≢◌, ◌<◌, Bool, Result, IsOk, IsErr, OnOk, OnErr, ⊤}
use Rattle.std.specs.declared.cmp.Ordering.{Ordering}
use Rattle.i_tree.specs.Rb.Balance.{IsCore}
use Rattle.i_tree.specs.Rb.RbTree.{Contents, slots}
use Rattle.i_tree.specs.Expiring.Insertion.{InsertsOrLeaves}
use Rattle.i_tree.specs.Expiring.Tree.{DoublesIfFull, TreeLeaves}
use Rattle.i_tree.specs.Expiring.Live.{AllLive}
use Rattle.i_tree.specs.Expiring.SearchPath.{path_to}
use Rattle.i_tree.specs.Root.Causes.{RefusedFor}
use Rattle.i_tree.specs.declared.Refusal.{Refusal}
use Rattle.i_tree.specs.declared.Refusal.TheVariants.{OutOfMemory, NoHandle}
use Rattle.i_tree.specs.declared.TheConstants.{EMPTY_REF}

-- `expiration` gives a key's expiration, `compare` compares keys, and `cmp` compares expirations.
module _ {K V E : Type 0} (expiration : K → E) (compare : K → K → Ordering) (cmp : E → E → Ordering) where
  -- all pairs on the search path to the key's place are live at the time
  abbrev pub IsPathLive : K → E → Contents (K × V) → Type 0
  IsPathLive key time contents = AllLive expiration cmp time (path_to compare key contents.shape)

  -- an insertion succeeds where a slot is free after its search path, else the slots double; a refusal changes nothing, and
  -- means that all on the path is live
  pub record KeyTreeInserts (key : K) (time : E) (old : Contents (K × V)) (result : Result ⊤ Refusal) (new : Contents (K × V))
      : Type 0 where
    pub core : IsCore new.shape
    pub err : OnErr result (new ≡ old)
    pub with_spare : 0 < old.spare → IsOk result
    pub err_way : OnErr result (IsPathLive key time old)
    pub full : old.spare ≡ 0 → slots old ≡ EMPTY_REF → IsPathLive key time old → IsErr result
    pub no_handle : slots old ≡ EMPTY_REF → RefusedFor NoHandle result
    pub refused : slots old ≢ EMPTY_REF → RefusedFor OutOfMemory result
    pub slots : OnOk result (DoublesIfFull old new)

  -- an insertion of what may be there already: as an insertion where the key is new or it is refused, and else as a query
  abbrev pub KeyTreeInsertsNew : K → E → Contents (K × V) → Result Bool Refusal → Contents (K × V) → Type 0
  KeyTreeInsertsNew key time old result new = InsertsOrLeaves (λ done. KeyTreeInserts key time old done new) (TreeLeaves old new) result
