-- The machine of status commands, over the pairs along a line: what it may reply, and the state that it goes on to.
use Rattle.std.specs.Prelude.{◌≡◌, ◌≤◌, ◌⊎◌, ℕ, Bool, true, false, List, [], Option, Some, None, IsSomeAnd, MatchOption, Result, Ok, Err, length}
use Rattle.std.specs.declared.cmp.Ordering.{Ordering}
use Rattle.i_tree.specs.Expiring.Live.{live_pairs, IsExpired}
use Rattle.i_tree.specs.Root.Along.{AboveAlong, AreNeighbours, AtMostAlong, ByEachOrder, HasEqual, NoneEqual}
use Rattle.i_tree.specs.Root.Change.{Without}
use Rattle.i_tree.specs.Root.Late.{is_late}
use Rattle.i_tree.specs.Root.Live.{is_live}
use Rattle.i_tree.specs.Status.Insertion.{JoinsAlong}
use Rattle.i_tree.specs.declared.Refusal.{Refusal}
use Rattle.runs.specs.Chain.{Chain}
use Rattle.runs.specs.StatusProbes.{asks}
use Rattle.runs.specs.declared.status.StatusCommand.{StatusCommand}
use Rattle.runs.specs.declared.status.StatusCommand.TheVariants.{InsertBy, LessOrEqualBy, GreaterBy, NeighboursBy, Clear}
use Rattle.runs.specs.declared.status.StatusReply.{StatusReply}
use Rattle.runs.specs.declared.status.StatusReply.TheVariants.{Inserted, Present, Late, Refused, Value, Neighbours, Cleared}

-- the pairs along the line, expired ones among them, and the last time
pub record State (K E V : Type 0) : Type 0 where
  pub pairs : List (K × V)
  pub last : Option E

-- a run begins with the pairs that are stored and with no last time
abbrev pub beginning : {K E V : Type 0} → List (K × V) → State K E V
beginning stored = record { pairs = stored; last = None }

-- the command has a time, and that is before the last time
abbrev pub IsLate : {K E V P : Type 0} → (E → E → Ordering) → Option E → StatusCommand K E V P → Type 0
IsLate cmp_time last command = IsSomeAnd (asks command) (λ asked. is_late cmp_time last asked.0 ≡ true)

-- the command has a time that is not late, which is the last time then; or it has none, and there is no last time
abbrev pub Moves : {K E V P : Type 0} → (E → E → Ordering) → Option E → StatusCommand K E V P → Option E → Type 0
Moves cmp_time last command last' =
    MatchOption (asks command) (last' ≡ None) (λ asked. (is_late cmp_time last asked.0 ≡ false) × (last' ≡ Some asked.0))

-- what is replied to an insertion by its outcome: whether the pair joined, or why it was refused
abbrev pub insertion_reply : {K V : Type 0} → Result Bool Refusal → StatusReply K V
insertion_reply (Ok true) = Inserted
insertion_reply (Ok false) = Present
insertion_reply (Err cause) = Refused cause

-- `expiration` gives a key's expiration, `cmp_time` compares times, and `may_answer` says how a probe may call a key.
-- There is `room` for so many pairs, the stored ones among them.
module _ {K E V P : Type 0} (expiration : K → E) (cmp_time : E → E → Ordering) (may_answer : P → K → Ordering → Type 0) (room : ℕ) where
  -- This holds by each order that the probe's answers about the live keys follow, and that is monotone along the live
  -- pairs.
  abbrev AsAsked : P → E → List (K × V) → ((K → Ordering) → List (K × V) → Type 0) → Type 0
  AsAsked probe time pairs Holds =
      let live = live_pairs expiration cmp_time time pairs in
      ByEachOrder (may_answer probe) live (λ order. Holds order live)

  -- only expired pairs are gone
  abbrev Loses : E → List (K × V) → List (K × V) → Type 0
  Loses time old new = Without (IsExpired expiration cmp_time time) old new

  -- What is replied to a command in its time, and what becomes of the pairs.
  abbrev pub Answers : List (K × V) → StatusCommand K E V P → StatusReply K V → List (K × V) → Type 0
  Answers old (InsertBy key val time probe) Inserted new =
      AsAsked probe time old NoneEqual
      × JoinsAlong (is_live expiration cmp_time time) (may_answer probe) (key, val) old new
  Answers old (InsertBy key val time probe) Present new = AsAsked probe time old HasEqual × Loses time old new
  Answers old (InsertBy key val time probe) (Refused cause) new =
      AsAsked probe time old NoneEqual × (room ≤ length old) × (new ≡ old)
  Answers old (LessOrEqualBy time default probe) (Value value) new =
      AsAsked probe time old (λ order live. AtMostAlong order live default value) × Loses time old new
  Answers old (GreaterBy time default probe) (Value value) new =
      AsAsked probe time old (λ order live. AboveAlong order live default value) × Loses time old new
  Answers old (NeighboursBy time probe) (Neighbours before after) new =
      AsAsked probe time old (λ order live. AreNeighbours order live (before, after)) × Loses time old new
  Answers old Clear Cleared new = new ≡ []
  -- no other reply is given
  Answers old command reply new = ⊥

  -- From the old state the machine may give this reply to the command and go on to the new state: the command is late,
  -- which changes nothing, or it is answered in its time.
  abbrev pub Step : State K E V → StatusCommand K E V P → StatusReply K V → State K E V → Type 0
  Step old command reply new =
      ((reply ≡ Late) × IsLate cmp_time old.last command × (new ≡ old))
      ⊎ (Moves cmp_time old.last command new.last × Answers old.pairs command reply new.pairs)

  -- The machine may give these replies to these commands, one step after another.
  abbrev pub Run : State K E V → List (StatusCommand K E V P) → List (StatusReply K V) → State K E V → Type 0
  Run = Chain Step

  -- From the stored pairs and no last time on, the replies are a run to the pairs that are stored then.
  abbrev pub RunsOver : List (K × V) → List (StatusCommand K E V P) → List (StatusReply K V) → List (K × V) → Type 0
  RunsOver stored commands replies stored' =
      (last : Option E) × Run (beginning stored) commands replies (record { pairs = stored'; last = last })
