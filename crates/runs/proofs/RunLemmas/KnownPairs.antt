-- What is stored is among the known pairs, and what holds at the known live pairs holds at the stored live ones.
use Rattle.std.proofs.Common.{◌≡◌, ◌≤◌, ◌<◌, ◌+◌, ℕ, List, [], ◌∷◌, length, get_or, drop, insert, sym, ap, ◌∙◌}
use Rattle.std.proofs.lemmas.List.{drop_more}
use Rattle.std.specs.Ordering.{ordering_index}
use Rattle.std.specs.declared.cmp.Ordering.{Ordering}
use Rattle.std.specs.declared.cmp.Ordering.TheVariants as ordering
use Rattle.std.specs.List.{All, Contains}
use Rattle.std.proofs.lemmas.List.Elements.{All-contains_itself, All-weaker, All-same}
use Rattle.i_tree.specs.Root.Answer.{IsMonotone}
use Rattle.i_tree.specs.Root.Change.{Without}
use Rattle.i_tree.specs.Expiring.Live.{live_pairs}
use Rattle.i_tree.specs.Root.Live.{is_live}
use Rattle.i_tree.proofs.RootLemmas.Lists.{All-insert, Contains-filter, Contains-here, Contains-there}
use Rattle.runs.specs.KeyMachine.{Inserts}
use Rattle.runs.specs.Probes.{CanProbe, CanProbeAll, ProbesBy, ProbesAllBy, known_after}
use Rattle.runs.specs.declared.keys.KeyCommand.{KeyCommand}
use Rattle.runs.specs.declared.keys.KeyCommand.TheVariants.{Insert, Less, LessOrEqualBy, Clear}
use Rattle.runs.specs.declared.keys.KeyReply.{KeyReply}
use Rattle.runs.specs.declared.keys.KeyReply.TheVariants.{Inserted, Present, Late, Refused, Value, Cleared}
use Rattle.i_tree.proofs.RootLemmas.Members.{Within, Within-cons, All-within, Contains-from_filter, Without-within}

-- the commands to come are the next one and those after it
pub next_command : {X : Type 0} (commands : List X) (i : ℕ) (command : X) → i < length commands → command ≡ get_or commands i command → drop i commands ≡ command ∷ drop (i + 1) commands
next_command commands i command within is = drop_more commands i command within ∙ ap (λ x. x ∷ drop (i + 1) commands) (sym is)

-- what was stored is known, whatever joins it
pub known_more : {X : Type 0} (x : X) (stored : List X) → All (Contains (x ∷ stored)) stored
known_more x stored = All-weaker (Contains stored) (Contains (x ∷ stored)) (Contains-there x stored) stored (All-contains_itself stored)

-- what is left of what was stored is known
pub known_without : {X : Type 0} {MayGo : X → Type 0} (stored stored' : List X) → Without MayGo stored stored' → All (Contains stored) stored'
known_without stored stored' without = All-within (Contains stored) stored stored' (Without-within without) (All-contains_itself stored)

-- whatever an insertion replies, what is stored then is the pair and what was stored
pub known_inserts : {K E V : Type 0} (expiration : K → E) (cmp_time : E → E → Ordering) (cmp_key : K → K → Ordering) (time : E) (key : K) (val : V) (stored stored' : List (K × V)) (reply : KeyReply V)
    → Inserts expiration cmp_time cmp_key time key val stored reply stored' → All (Contains ((key, val) ∷ stored)) stored'
known_inserts {K = K} {V = V} expiration cmp_time cmp_key time key val stored stored' reply inserts = by_reply reply inserts
  where
    Known : K × V → Type 0
    Known pair = Contains ((key, val) ∷ stored) pair

    all_known : All Known stored
    all_known = known_more (key, val) stored

    by_reply : (reply : KeyReply V) → Inserts expiration cmp_time cmp_key time key val stored reply stored' → All Known stored'
    by_reply Present (has, without) = All-within Known stored stored' (Without-within without) all_known
    by_reply (Refused cause) (free, same) = All-same Known stored' stored same all_known
    by_reply Inserted (free, (kept, without, (place, within, is))) =
        All-same Known stored' (insert kept place (key, val)) is
        (All-insert Known kept place (key, val) (All-within Known stored kept (Without-within without) all_known) (Contains-here (key, val) stored))
    by_reply Late none = absurd none
    by_reply (Value value) none = absurd none
    by_reply Cleared none = absurd none

-- what is live of what is stored is live of what is known
pub Within-live : {K E V : Type 0} (expiration : K → E) (cmp_time : E → E → Ordering) (time : E) (stored known : List (K × V)) → Within stored known → Within (live_pairs expiration cmp_time time stored) (live_pairs expiration cmp_time time known)
Within-live expiration cmp_time time stored known within x h =
    let found = Contains-from_filter (λ pair. is_live expiration cmp_time time pair.0) stored x h in
    Contains-filter (λ pair. is_live expiration cmp_time time pair.0) known x found.1 (within x found.0)

module _ {K E V P : Type 0} where
  -- more that is known before a command is more that is known after it
  pub known_after-within : (command : KeyCommand K E V P) (stored known : List (K × V)) → Within stored known → Within (known_after command stored) (known_after command known)
  known_after-within (Insert key val time) stored known within x h = Within-cons (key, val) stored known within x h
  known_after-within (Less time default key) stored known within x h = within x h
  known_after-within (LessOrEqualBy time default probe) stored known within x h = within x h
  known_after-within Clear stored known within x h = h

  module _ (expiration : K → E) (cmp_time : E → E → Ordering) where
    pub CanProbe-within : (may_call : P → K → Type 0) (command : KeyCommand K E V P) (stored known : List (K × V)) → Within stored known
        → CanProbe expiration cmp_time may_call command known → CanProbe expiration cmp_time may_call command stored
    CanProbe-within may_call (LessOrEqualBy time default probe) stored known within can =
        All-within (λ pair. may_call probe pair.0) (live_pairs expiration cmp_time time known) (live_pairs expiration cmp_time time stored) (Within-live expiration cmp_time time stored known within) can
    CanProbe-within may_call (Insert key val time) stored known within can = can
    CanProbe-within may_call (Less time default key) stored known within can = can
    CanProbe-within may_call Clear stored known within can = can

    -- a probe that may always be called
    pub CanProbeAll-always : (may_call : P → K → Type 0) → ((probe : P) (key : K) → may_call probe key) → (known : List (K × V)) (commands : List (KeyCommand K E V P)) → CanProbeAll expiration cmp_time may_call known commands
    CanProbeAll-always may_call always known [] = tt
    CanProbeAll-always may_call always known (Insert key val time ∷ commands) = (tt, CanProbeAll-always may_call always ((key, val) ∷ known) commands)
    CanProbeAll-always may_call always known (Less time default key ∷ commands) = (tt, CanProbeAll-always may_call always known commands)
    CanProbeAll-always may_call always known (LessOrEqualBy time default probe ∷ commands) = (λ k d inside. always probe _, CanProbeAll-always may_call always known commands)
    CanProbeAll-always may_call always known (Clear ∷ commands) = (tt, CanProbeAll-always may_call always [] commands)

    pub ProbesBy-within : (cmp_key : K → K → Ordering) (may_answer : P → K → Ordering → Type 0) (order : P → K → Ordering) (command : KeyCommand K E V P) (stored known : List (K × V)) → Within stored known
        → ProbesBy expiration cmp_time cmp_key may_answer order command known → ProbesBy expiration cmp_time cmp_key may_answer order command stored
    ProbesBy-within cmp_key may_answer order (LessOrEqualBy time default probe) stored known within (answers, monotone) =
        let live_stored = live_pairs expiration cmp_time time stored in
        let live_known = live_pairs expiration cmp_time time known in
        let live_within = Within-live expiration cmp_time time stored known within in
        let Rises : K × V → K × V → Type 0 = λ lower upper. cmp_key lower.0 upper.0 ≡ ordering.Less → ordering_index (order probe lower.0) ≤ ordering_index (order probe upper.0) in (
          All-within (λ pair. (answer : Ordering) → may_answer probe pair.0 answer → answer ≡ order probe pair.0) live_known live_stored live_within answers,
          All-within (λ lower. All (Rises lower) live_stored) live_known live_stored live_within
              (All-weaker (λ lower. All (Rises lower) live_known) (λ lower. All (Rises lower) live_stored) (λ lower. All-within (Rises lower) live_known live_stored live_within) live_known monotone),
        )
    ProbesBy-within cmp_key may_answer order (Insert key val time) stored known within probes = probes
    ProbesBy-within cmp_key may_answer order (Less time default key) stored known within probes = probes
    ProbesBy-within cmp_key may_answer order Clear stored known within probes = probes

    -- probes that answer by an order wherever they are called, which is monotone everywhere
    pub ProbesAllBy-always : (cmp_key : K → K → Ordering) (may_answer : P → K → Ordering → Type 0) (order : P → K → Ordering)
        → ((probe : P) (key : K) (answer : Ordering) → may_answer probe key answer → answer ≡ order probe key)
        → ((probe : P) (pairs : List (K × V)) → IsMonotone cmp_key (order probe) pairs)
        → (known : List (K × V)) (commands : List (KeyCommand K E V P)) → ProbesAllBy expiration cmp_time cmp_key may_answer order known commands
    ProbesAllBy-always cmp_key may_answer order answers monotone known [] = tt
    ProbesAllBy-always cmp_key may_answer order answers monotone known (Insert key val time ∷ commands) =
        (tt, ProbesAllBy-always cmp_key may_answer order answers monotone ((key, val) ∷ known) commands)
    ProbesAllBy-always cmp_key may_answer order answers monotone known (Less time default key ∷ commands) =
        (tt, ProbesAllBy-always cmp_key may_answer order answers monotone known commands)
    ProbesAllBy-always cmp_key may_answer order answers monotone known (LessOrEqualBy time default probe ∷ commands) = (
      ((λ k d inside answer says. answers probe _ answer says), monotone probe (live_pairs expiration cmp_time time known)),
      ProbesAllBy-always cmp_key may_answer order answers monotone known commands,
    )
    ProbesAllBy-always cmp_key may_answer order answers monotone known (Clear ∷ commands) =
        (tt, ProbesAllBy-always cmp_key may_answer order answers monotone [] commands)
