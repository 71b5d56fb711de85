-- The machine of key commands: what it may reply, and the state that it goes on to.
use Rattle.std.specs.Prelude.{◌≡◌, true, false, List, [], ◌∷◌, Option, Some, None}
use Rattle.std.specs.declared.cmp.Ordering.{Ordering}
use Rattle.i_tree.specs.Root.Answer.{Below, AtMost}
use Rattle.i_tree.specs.Root.Change.{Gains, Without}
use Rattle.i_tree.specs.Root.Late.{is_late}
use Rattle.i_tree.specs.Expiring.Live.{live_pairs, IsExpired}
use Rattle.i_tree.specs.Root.Pairs.{HasKey, NoKey}
use Rattle.runs.specs.StandsFor.{StandsFor}
use Rattle.runs.specs.Chain.{Chain}
use Rattle.runs.specs.declared.keys.KeyCommand.{KeyCommand}
use Rattle.runs.specs.declared.keys.KeyCommand.TheVariants.{Insert, Less, LessOrEqualBy, Clear}
use Rattle.runs.specs.declared.keys.KeyReply.{KeyReply}
use Rattle.runs.specs.declared.keys.KeyReply.TheVariants.{Inserted, Present, Late, Refused, Value, Cleared}

-- the accepted pairs, in any order, and the last time
pub record State (K E V : Type 0) : Type 0 where
  pub accepted : List (K × V)
  pub last : Option E

-- a run begins with the pairs that are stored and with no last time
abbrev pub beginning : {K E V : Type 0} → List (K × V) → State K E V
beginning stored = record { accepted = stored; last = None }

-- the command has a time, and that is before the last time
abbrev pub IsLate : {K E V P : Type 0} → (E → E → Ordering) → Option E → KeyCommand K E V P → Type 0
IsLate cmp_time last (Insert key val time) = is_late cmp_time last time ≡ true
IsLate cmp_time last (Less time default key) = is_late cmp_time last time ≡ true
IsLate cmp_time last (LessOrEqualBy time default probe) = is_late cmp_time last time ≡ true
IsLate cmp_time last Clear = ⊥

-- `order` says how a key stands to what a probe looks for.
module _ {K E V P : Type 0} (expiration : K → E) (cmp_time : E → E → Ordering) (cmp_key : K → K → Ordering) (order : P → K → Ordering) where
  -- From the old state the machine may give this reply to the command and go on to the new state.
  abbrev pub Step : State K E V → KeyCommand K E V P → KeyReply V → State K E V → Type 0
  Step old command Late new = IsLate cmp_time old.last command × (new ≡ old)
  Step old (Insert key val time) Present new =
      (is_late cmp_time old.last time ≡ false)
      × HasKey cmp_key (live_pairs expiration cmp_time time old.accepted) key
      × (new ≡ record { accepted = old.accepted; last = Some time })
  Step old (Insert key val time) Inserted new =
      (is_late cmp_time old.last time ≡ false)
      × NoKey cmp_key (live_pairs expiration cmp_time time old.accepted) key
      × (new ≡ record { accepted = (key, val) ∷ old.accepted; last = Some time })
  Step old (Insert key val time) (Refused cause) new =
      (is_late cmp_time old.last time ≡ false)
      × NoKey cmp_key (live_pairs expiration cmp_time time old.accepted) key
      × (new ≡ record { accepted = old.accepted; last = Some time })
  Step old (Less time default key) (Value value) new =
      (is_late cmp_time old.last time ≡ false)
      × Below cmp_key (live_pairs expiration cmp_time time old.accepted) key default value
      × (new ≡ record { accepted = old.accepted; last = Some time })
  Step old (LessOrEqualBy time default probe) (Value value) new =
      (is_late cmp_time old.last time ≡ false)
      × AtMost cmp_key (live_pairs expiration cmp_time time old.accepted) (order probe) default value
      × (new ≡ record { accepted = old.accepted; last = Some time })
  Step old Clear Cleared new = new ≡ record { accepted = []; last = None }
  -- no other reply is given
  Step old (Insert key val time) (Value value) new = ⊥
  Step old (Insert key val time) Cleared new = ⊥
  Step old (Less time default key) Inserted new = ⊥
  Step old (Less time default key) Present new = ⊥
  Step old (Less time default key) (Refused cause) new = ⊥
  Step old (Less time default key) Cleared new = ⊥
  Step old (LessOrEqualBy time default probe) Inserted new = ⊥
  Step old (LessOrEqualBy time default probe) Present new = ⊥
  Step old (LessOrEqualBy time default probe) (Refused cause) new = ⊥
  Step old (LessOrEqualBy time default probe) Cleared new = ⊥
  Step old Clear Inserted new = ⊥
  Step old Clear Present new = ⊥
  Step old Clear (Refused cause) new = ⊥
  Step old Clear (Value value) new = ⊥

  -- The machine may give these replies to these commands, one step after another.
  abbrev pub Run : State K E V → List (KeyCommand K E V P) → List (KeyReply V) → State K E V → Type 0
  Run = Chain Step

  -- From the stored pairs and no last time on, the replies are a run to a state that the pairs stored then stand for.
  abbrev pub RunsOver : List (K × V) → List (KeyCommand K E V P) → List (KeyReply V) → List (K × V) → Type 0
  RunsOver stored commands replies stored' =
      (end : State K E V) × Run (beginning stored) commands replies end × StandsFor expiration cmp_time stored' end.accepted end.last

  -- From whichever state the stored pairs stood for, the reply is a step to a state that they stand for now.
  abbrev pub Serves : List (K × V) → Option E → KeyCommand K E V P → KeyReply V → List (K × V) → Option E → Type 0
  Serves stored last command reply stored' last' =
      (accepted : List (K × V)) → StandsFor expiration cmp_time stored accepted last
      → (accepted' : List (K × V))
      × Step (record { accepted = accepted; last = last }) command reply (record { accepted = accepted'; last = last' })
      × StandsFor expiration cmp_time stored' accepted' last'

-- What an insertion that is not late replies, and what is stored then.
abbrev pub Inserts : {K E V : Type 0} → (K → E) → (E → E → Ordering) → (K → K → Ordering) → E → K → V → List (K × V) → KeyReply V → List (K × V) → Type 0
Inserts expiration cmp_time cmp_key time key val stored Present stored' =
    HasKey cmp_key (live_pairs expiration cmp_time time stored) key × Without (IsExpired expiration cmp_time time) stored stored'
Inserts expiration cmp_time cmp_key time key val stored Inserted stored' =
    NoKey cmp_key (live_pairs expiration cmp_time time stored) key × Gains (IsExpired expiration cmp_time time) (key, val) stored stored'
Inserts expiration cmp_time cmp_key time key val stored (Refused cause) stored' =
    NoKey cmp_key (live_pairs expiration cmp_time time stored) key × (stored' ≡ stored)
Inserts expiration cmp_time cmp_key time key val stored Late stored' = ⊥
Inserts expiration cmp_time cmp_key time key val stored (Value value) stored' = ⊥
Inserts expiration cmp_time cmp_key time key val stored Cleared stored' = ⊥
