-- Each reply that the runner of status commands gives is a step of the machine, over pairs that are known.
use Rattle.std.proofs.Common.{◌≡◌, ◌≤◌, ℕ, Bool, false, List, [], ◌∷◌, Option, Some, None, sym, subst, inl, inr, ⊎_elim, arith}
use Rattle.std.specs.declared.cmp.Ordering.{Ordering}
use Rattle.std.specs.List.{All, Contains}
use Rattle.std.specs.Prelude.{◌<◌, true, IfSome, MatchOption, Result, Ok, Err, IfOk, IsOk, OnErr, length}
use Rattle.std.proofs.lemmas.Bool.{cases_lt}
use Rattle.std.proofs.lemmas.Option.{IfSome_then, some_pair_parts}
use Rattle.std.proofs.lemmas.List.Elements.{Contains-append_left, Contains-append_right, Contains-append_cases}
use Rattle.i_tree.specs.Expiring.Live.{live_pairs}
use Rattle.i_tree.specs.Root.Along.{ByEachOrder, NoneEqual}
use Rattle.i_tree.specs.Root.Late.{is_late}
use Rattle.i_tree.specs.Root.Live.{is_live}
use Rattle.i_tree.specs.Status.Insertion.{IsNew, JoinsAlong, JoinsOrLeaves}
use Rattle.i_tree.specs.declared.Refusal.{Refusal}
use Rattle.i_tree.proofs.RootLemmas.Lists.{Contains-there}
use Rattle.runs.specs.StatusMachine.{State, IsLate, Answers, Step, insertion_reply}
use Rattle.runs.specs.StatusProbes.{asks, known_after, CanProbe, CanProbeAll}
use Rattle.runs.specs.declared.status.StatusCommand.{StatusCommand}
use Rattle.runs.specs.declared.status.StatusCommand.TheVariants.{InsertBy, LessOrEqualBy, GreaterBy, NeighboursBy, Clear}
use Rattle.runs.specs.declared.status.StatusReply.{StatusReply}
use Rattle.runs.specs.declared.status.StatusReply.TheVariants.{Inserted, Present, Refused, Value, Neighbours, Cleared}
use Rattle.runs.proofs.RunLemmas.KnownPairs.{Within-live}
use Rattle.i_tree.proofs.RootLemmas.Members.{Within, Within-cons, All-within, Without-within}

module _ {K E V P : Type 0} where
  -- more that is known before a command is more that is known after it
  pub known_after-within : (command : StatusCommand K E V P) (stored known : List (K × V)) → Within stored known → Within (known_after command stored) (known_after command known)
  known_after-within (InsertBy key val time probe) stored known within x h = Within-cons (key, val) stored known within x h
  known_after-within (LessOrEqualBy time default probe) stored known within x h = within x h
  known_after-within (GreaterBy time default probe) stored known within x h = within x h
  known_after-within (NeighboursBy time probe) stored known within x h = within x h
  known_after-within Clear stored known within x h = h

always_found : {X : Type 0} (Holds : X → Type 0) → ((x : X) → Holds x) → (found : Option X) → IfSome found Holds
always_found Holds each None = tt
always_found Holds each (Some x) = each x

module _ {K E V P : Type 0} (expiration : K → E) (cmp_time : E → E → Ordering) where
  -- the probe may be called on the pairs that are live when it is asked
  abbrev Callable : (P → K → Type 0) → List (K × V) → E × P → Type 0
  Callable may_call pairs asked = All (λ pair. may_call asked.1 pair.0) (live_pairs expiration cmp_time asked.0 pairs)

  pub CanProbe-within : (may_call : P → K → Type 0) (command : StatusCommand K E V P) (stored known : List (K × V)) → Within stored known
      → CanProbe expiration cmp_time may_call command known → CanProbe expiration cmp_time may_call command stored
  CanProbe-within may_call command stored known within can =
      IfSome_then (asks command) {P = Callable may_call known} {Q = Callable may_call stored} can
      (λ asked. All-within (λ pair. may_call asked.1 pair.0) (live_pairs expiration cmp_time asked.0 known) (live_pairs expiration cmp_time asked.0 stored) (Within-live expiration cmp_time asked.0 stored known within))

  -- a probe that may always be called
  pub CanProbeAll-always : (may_call : P → K → Type 0) → ((probe : P) (key : K) → may_call probe key) → (known : List (K × V)) (commands : List (StatusCommand K E V P)) → CanProbeAll expiration cmp_time may_call known commands
  CanProbeAll-always may_call always known [] = tt
  CanProbeAll-always may_call always known (command ∷ commands) = (
    always_found (Callable may_call known) (λ asked k d inside. always asked.1 _) (asks command),
    CanProbeAll-always may_call always (known_after command known) commands,
  )

  module _ (may_answer : P → K → Ordering → Type 0) where
    -- where the probe that is asked gives an answer, the command's own does
    Answers-asked : (room : ℕ) (old new : List (K × V)) (command : StatusCommand K E V P) (reply : StatusReply K V) (asked : E × P) → asks command ≡ Some asked
        → Answers expiration cmp_time (λ (own : P). may_answer asked.1) room old command reply new → Answers expiration cmp_time may_answer room old command reply new
    Answers-asked room old new (InsertBy key val time own) Inserted asked is h =
        subst (λ (probe : P). Answers expiration cmp_time (λ (any : P). may_answer probe) room old (InsertBy key val time own) Inserted new) (sym (some_pair_parts time asked.0 own asked.1 is).1) h
    Answers-asked room old new (InsertBy key val time own) Present asked is h =
        subst (λ (probe : P). Answers expiration cmp_time (λ (any : P). may_answer probe) room old (InsertBy key val time own) Present new) (sym (some_pair_parts time asked.0 own asked.1 is).1) h
    Answers-asked room old new (InsertBy key val time own) (Refused cause) asked is h =
        subst (λ (probe : P). Answers expiration cmp_time (λ (any : P). may_answer probe) room old (InsertBy key val time own) (Refused cause) new) (sym (some_pair_parts time asked.0 own asked.1 is).1) h
    Answers-asked room old new (LessOrEqualBy time default own) (Value value) asked is h =
        subst (λ (probe : P). Answers expiration cmp_time (λ (any : P). may_answer probe) room old (LessOrEqualBy time default own) (Value value) new) (sym (some_pair_parts time asked.0 own asked.1 is).1) h
    Answers-asked room old new (GreaterBy time default own) (Value value) asked is h =
        subst (λ (probe : P). Answers expiration cmp_time (λ (any : P). may_answer probe) room old (GreaterBy time default own) (Value value) new) (sym (some_pair_parts time asked.0 own asked.1 is).1) h
    Answers-asked room old new (NeighboursBy time own) (Neighbours before after) asked is h =
        subst (λ (probe : P). Answers expiration cmp_time (λ (any : P). may_answer probe) room old (NeighboursBy time own) (Neighbours before after) new) (sym (some_pair_parts time asked.0 own asked.1 is).1) h
    Answers-asked room old new command reply asked is h = h

    -- a command with a probe that isn't late is answered by it in its time
    pub Step-answered : (room : ℕ) (old new : List (K × V)) (last last' : Option E) (command : StatusCommand K E V P) (reply : StatusReply K V) (asked : E × P) → asks command ≡ Some asked
        → is_late cmp_time last asked.0 ≡ false → last' ≡ Some asked.0 → Answers expiration cmp_time (λ (own : P). may_answer asked.1) room old command reply new
        → Step expiration cmp_time may_answer room (record { pairs = old; last = last }) command reply (record { pairs = new; last = last' })
    Step-answered room old new last last' command reply asked is in_time moved answers =
        inr (
          subst (λ (found : Option (E × P)). MatchOption found (last' ≡ None) (λ asked. (is_late cmp_time last asked.0 ≡ false) × (last' ≡ Some asked.0))) (sym is) (in_time, moved),
          Answers-asked room old new command reply asked is answers,
        )

    Answers-room : (room room' : ℕ) → room ≤ room' → (old new : List (K × V)) (command : StatusCommand K E V P) (reply : StatusReply K V)
        → Answers expiration cmp_time may_answer room' old command reply new → Answers expiration cmp_time may_answer room old command reply new
    Answers-room room room' fewer old new (InsertBy key val time probe) (Refused cause) (none, full, same) = (none, omega (arith, fewer, full), same)
    Answers-room room room' fewer old new command reply h = h

    -- a step over more room is one over less
    pub Step-room : (room room' : ℕ) → room ≤ room' → (old : State K E V) (command : StatusCommand K E V P) (reply : StatusReply K V) (new : State K E V)
        → Step expiration cmp_time may_answer room' old command reply new → Step expiration cmp_time may_answer room old command reply new
    Step-room room room' fewer old command reply new (inl late) = inl late
    Step-room room room' fewer old command reply new (inr (moves, answers)) =
        inr (moves, Answers-room room room' fewer old.pairs new.pairs command reply answers)

    -- what joins along the line is stored, and so is what is left
    joins-within : (is_live : K → Bool) (may_call : K → Ordering → Type 0) (pair : K × V) (old new : List (K × V)) → JoinsAlong is_live may_call pair old new → Within new (pair ∷ old)
    joins-within is_live may_call pair old new joins x h =
        ⊎_elim
        (λ in_front. Contains-there pair old x (Without-within joins.kept x (Contains-append_left joins.front joins.back x in_front)))
        (λ behind. Within-cons pair joins.back old (λ y inside. Without-within joins.kept y (Contains-append_right joins.front joins.back y inside)) x behind)
        (Contains-append_cases joins.front (pair ∷ joins.back) x (subst (λ (pairs : List (K × V)). Contains pairs x) joins.place h))

    Answers-within : (room : ℕ) (old new : List (K × V)) (command : StatusCommand K E V P) (reply : StatusReply K V) → Answers expiration cmp_time may_answer room old command reply new → Within new (known_after command old)
    Answers-within room old new (InsertBy key val time probe) Inserted (is_new, joins) = joins-within _ _ (key, val) old new joins
    Answers-within room old new (InsertBy key val time probe) Present (is_there, without) = λ x h. Contains-there (key, val) old x (Without-within without x h)
    Answers-within room old new (InsertBy key val time probe) (Refused cause) (none, full, same) = λ x h. Contains-there (key, val) old x (subst (λ (pairs : List (K × V)). Contains pairs x) same h)
    Answers-within room old new (LessOrEqualBy time default probe) (Value value) (answer, without) = Without-within without
    Answers-within room old new (GreaterBy time default probe) (Value value) (answer, without) = Without-within without
    Answers-within room old new (NeighboursBy time probe) (Neighbours before after) (answer, without) = Without-within without
    Answers-within room old new Clear Cleared same = λ x h. subst (λ (pairs : List (K × V)). Contains pairs x) same h
    Answers-within room old new command reply none = absurd none

    -- a late command leaves what is stored, which is known after it too
    late-within : (last : Option E) (command : StatusCommand K E V P) → IsLate cmp_time last command → (stored : List (K × V)) → Within stored (known_after command stored)
    late-within last (InsertBy key val time probe) late stored x h = Contains-there (key, val) stored x h
    late-within last (LessOrEqualBy time default probe) late stored x h = h
    late-within last (GreaterBy time default probe) late stored x h = h
    late-within last (NeighboursBy time probe) late stored x h = h
    late-within last Clear late stored x h = absurd late

    -- what is stored after a step was stored before it, or is the command's own pair
    pub Step-within : (room : ℕ) (old : State K E V) (command : StatusCommand K E V P) (reply : StatusReply K V) (new : State K E V) → Step expiration cmp_time may_answer room old command reply new
        → Within new.pairs (known_after command old.pairs)
    Step-within room old command reply new (inl (is, late, same)) =
        subst (λ (state : State K E V). Within state.pairs (known_after command old.pairs)) (sym same) (late-within old.last command late old.pairs)
    Step-within room old command reply new (inr (moves, answers)) = Answers-within room old.pairs new.pairs command reply answers

-- the reply to an insertion answers it, whatever its outcome
module _ {K E V P : Type 0} (expiration : K → E) (cmp_time : E → E → Ordering) (may_answer : P → K → Ordering → Type 0) (room : ℕ) (key : K) (val : V) (time : E) (probe : P) (old new : List (K × V)) where
  pub insertion-answered : (outcome : Result Bool Refusal)
      → IfOk outcome (λ is_new. IsNew (may_answer probe) is_new (live_pairs expiration cmp_time time old))
      → IfOk outcome (λ is_new. JoinsOrLeaves (is_live expiration cmp_time time) (may_answer probe) is_new (key, val) old new)
      → OnErr outcome (new ≡ old)
      → OnErr outcome (ByEachOrder (may_answer probe) (live_pairs expiration cmp_time time old) (λ order. NoneEqual order (live_pairs expiration cmp_time time old)))
      → (length old < room → IsOk outcome)
      → Answers expiration cmp_time may_answer room old (InsertBy key val time probe) (insertion_reply outcome) new
  insertion-answered (Ok true) cases ok err err_new with_room = (cases, ok)
  insertion-answered (Ok false) cases ok err err_new with_room = (cases, ok)
  insertion-answered (Err cause) cases ok err err_new with_room =
      (err_new, ⊎_elim (λ fits. let none : false ≡ true = with_room fits in cc) (λ full. full) (cases_lt (length old) room), err)
