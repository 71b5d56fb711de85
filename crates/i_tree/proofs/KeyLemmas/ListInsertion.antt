-- A pair that is put into a list after the expired ones have gone.
use Rattle.std.proofs.Common.{◌≡◌, ◌≢◌, sym, ℕ, ◌+◌, ◌<◌, ◌≤◌, Result, Ok, Err, length, subst, arith}
use Rattle.std.specs.Bool.{⊤}
use Rattle.std.specs.List.{insert}
use Rattle.std.specs.Result.{IfErr, IsOk, OnErr, OnOk}
use Rattle.std.specs.declared.cmp.Ordering.{Ordering}
use Rattle.std.proofs.lemmas.Bool.{false≢true}
use Rattle.i_tree.proofs.ExpiringLemmas.List.{all_stayed, had_no_spare, none_spare, none_was_expired}
use Rattle.i_tree.proofs.RootLemmas.Lists.{Without-filter}
use Rattle.i_tree.proofs.RootLemmas.RisingKeys.{rises-insert}
use Rattle.std.specs.Cmp.{IsTotalOrder}
use Rattle.std.specs.List.Sorted.{IsPartitionPoint}
use Rattle.std.specs.declared.cmp.Ordering.TheVariants.{Less}
use Rattle.i_tree.specs.Root.Pairs.{IsRising, NoKey}
use Rattle.i_tree.specs.Expiring.List.{Contents, ListLeaves}
use Rattle.i_tree.specs.Key.KeyExpList.{KeyListInserts}
use Rattle.i_tree.specs.Expiring.Live.{IsExpired, live_pairs}
use Rattle.i_tree.specs.Root.Change.{Gains, Joins}
use Rattle.i_tree.specs.Root.Live.{is_live}
use Rattle.i_tree.specs.declared.Refusal.{Refusal}
use Rattle.i_tree.specs.declared.Refusal.TheVariants.{OutOfMemory}

module _ {K V E : Type 0} (expiration : K → E) (cmp : E → E → Ordering) (time : E) (old mid : Contents K V) (leaves : ListLeaves expiration cmp time old mid) where
  module _ (pair : K × V) (new : Contents K V) where
    pub inserts_at : (result : Result ⊤ Refusal) (place : ℕ) → place ≤ length mid.pairs → OnOk result (new.pairs ≡ insert mid.pairs place pair) → OnErr result (new ≡ mid)
        → IfErr result (λ cause. cause ≡ OutOfMemory) → (0 < mid.spare → IsOk result) → KeyListInserts expiration cmp pair time old result new
    inserts_at (Ok done) place within is same refused spare = grind arith
    inserts_at (Err cause) place within is same refused spare = grind (arith, none_spare, all_stayed, had_no_spare, false≢true, none_was_expired)

    pub gains_live : Joins pair (live_pairs expiration cmp time old.pairs) new.pairs → Gains (IsExpired expiration cmp time) pair old.pairs new.pairs
    gains_live joins = (live_pairs expiration cmp time old.pairs, Without-filter (λ (other : K × V). is_live expiration cmp time other.0) old.pairs, joins)

    pub keeps_room : length mid.pairs + mid.spare ≤ length new.pairs + new.spare → length old.pairs + old.spare ≤ length new.pairs + new.spare
    keeps_room more = omega (arith, leaves.room, more)

-- room in a list, by the room in all
pub has_spare : (stored spare : ℕ) → stored < stored + spare → 0 < spare
has_spare stored spare few = omega (arith, few)

-- keys that rise do so after a new one was put at its place, or refused
pub rising_put : {K V : Type 0} {compare : K → K → Ordering} (o : IsTotalOrder compare) (old new : Contents K V) (pair : K × V) (place : ℕ) (result : Result ⊤ Refusal) → OnOk result (new.pairs ≡ insert old.pairs place pair) → OnErr result (new ≡ old)
    → IsRising compare old.pairs → IsPartitionPoint (λ other. compare other.0 pair.0 ≡ Less) (λ other. compare other.0 pair.0 ≢ Less) old.pairs place → place ≤ length old.pairs → NoKey compare old.pairs pair.0 → IsRising compare new.pairs
rising_put {compare = compare} o old new pair place (Ok done) is same rising splits within free = subst (IsRising compare) (sym is) (rises-insert o (λ (other : _ × _). other.0) old.pairs pair place rising splits within free)
rising_put {compare = compare} o old new pair place (Err cause) is same rising splits within free = subst (λ (list : Contents _ _). IsRising compare list.pairs) (sym same) rising
