-- When a run over an ordered set may refuse a value.
use Rattle.std.specs.Prelude.{◌≡◌, ℕ, ◌+◌, ◌≤◌, List, [], ◌∷◌, ◌++◌}
use Rattle.i_tree.specs.declared.Refusal.{Refusal}
use Rattle.runs.specs.declared.sets.SetReply.{SetReply}
use Rattle.runs.specs.declared.sets.SetReply.TheVariants.{Inserted, Present, Refused, Deleted, Absent, Key, None}

module _ {K V : Type 0} where
  -- one value was put, or none
  abbrev pub one_if_inserted : SetReply K V → ℕ
  one_if_inserted Inserted = 1
  one_if_inserted (Present handed) = 0
  one_if_inserted (Refused handed cause) = 0
  one_if_inserted Deleted = 0
  one_if_inserted Absent = 0
  one_if_inserted (Key found) = 0
  one_if_inserted None = 0

  -- how many replies are `Inserted`
  abbrev pub accepted : List (SetReply K V) → ℕ
  accepted [] = 0
  accepted (reply ∷ replies) = one_if_inserted reply + accepted replies

  -- before a value is refused, as many were put as there was spare room at first
  abbrev pub RefusedOnlyWhereFull : ℕ → List (SetReply K V) → Type 0
  RefusedOnlyWhereFull spare replies =
      (before : List (SetReply K V)) (handed : V) (cause : Refusal) (after : List (SetReply K V)) → replies ≡ before ++ Refused handed cause ∷ after → spare ≤ accepted before

  -- What serving one command does to the room and to the number of values, by its reply. For the private contracts of the run.
  pub record KeepsRoom (reply : SetReply K V) (room stored room' stored' : ℕ) : Type 0 where
    pub no_less : room ≤ room'
    pub stores : stored' ≤ stored + one_if_inserted reply
    pub refused : (handed : V) (cause : Refusal) → reply ≡ Refused handed cause → room ≤ stored
