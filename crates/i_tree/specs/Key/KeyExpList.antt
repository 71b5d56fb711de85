-- What a `KeyExpList` promises beyond the trait. `expiration` gives a key's expiration, and `cmp` compares expirations.
use Rattle.std.specs.Prelude.{◌≡◌, ◌<◌, Any, Result, IsOk, OnOk, OnErr, ⊤}
use Rattle.std.specs.declared.cmp.Ordering.{Ordering}
use Rattle.i_tree.specs.Expiring.List.{Contents}
use Rattle.i_tree.specs.Expiring.Live.{live_pairs, IsExpired}
use Rattle.i_tree.specs.Root.Causes.{RefusedFor}
use Rattle.i_tree.specs.Root.Change.{Joins}
use Rattle.i_tree.specs.declared.Refusal.{Refusal}
use Rattle.i_tree.specs.declared.Refusal.TheVariants.{OutOfMemory}

module _ {K V E : Type 0} (expiration : K → E) (cmp : E → E → Ordering) where
  -- an accepted pair joins exactly the pairs that are live at its time; a refusal changes nothing, and is for want of
  -- memory alone, never while there is room, nor where an expired pair makes room
  pub record KeyListInserts (pair : K × V) (time : E) (old : Contents K V) (result : Result ⊤ Refusal) (new : Contents K V)
      : Type 0 where
    pub joins_live : OnOk result (Joins pair (live_pairs expiration cmp time old.pairs) new.pairs)
    pub err : OnErr result (new ≡ old)
    pub refused : RefusedFor OutOfMemory result
    pub with_spare : 0 < old.spare → IsOk result
    pub with_expired : Any (IsExpired expiration cmp time) old.pairs → IsOk result
