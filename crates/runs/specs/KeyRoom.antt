-- When a run over expiring keys may refuse an insertion.
use Rattle.std.specs.Prelude.{◌≡◌, ℕ, ◌+◌, ◌≤◌, List, [], ◌∷◌, ◌++◌}
use Rattle.i_tree.specs.declared.Refusal.{Refusal}
use Rattle.runs.specs.declared.keys.KeyReply.{KeyReply}
use Rattle.runs.specs.declared.keys.KeyReply.TheVariants.{Inserted, Present, Late, Refused, Value, Cleared}

-- one pair was accepted, or none
abbrev pub one_if_inserted : {V : Type 0} → KeyReply V → ℕ
one_if_inserted Inserted = 1
one_if_inserted Present = 0
one_if_inserted Late = 0
one_if_inserted (Refused cause) = 0
one_if_inserted (Value value) = 0
one_if_inserted Cleared = 0

-- how many replies are `Inserted`
abbrev pub accepted : {V : Type 0} → List (KeyReply V) → ℕ
accepted [] = 0
accepted (reply ∷ replies) = one_if_inserted reply + accepted replies

-- before an insertion is refused, as many were accepted as there was spare room at first
abbrev pub RefusedOnlyWhereFull : {V : Type 0} → ℕ → List (KeyReply V) → Type 0
RefusedOnlyWhereFull {V} spare replies =
    (before : List (KeyReply V)) (cause : Refusal) (after : List (KeyReply V)) → replies ≡ before ++ Refused cause ∷ after → spare ≤ accepted before

-- What serving one command does to the room and to the number of pairs that are stored, by its reply. For the private contracts
-- of runs.
pub record KeepsRoom {V : Type 0} (reply : KeyReply V) (room stored room' stored' : ℕ) : Type 0 where
  pub no_less : room ≤ room'
  pub stores : stored' ≤ stored + one_if_inserted reply
  pub refused : (cause : Refusal) → reply ≡ Refused cause → room ≤ stored
