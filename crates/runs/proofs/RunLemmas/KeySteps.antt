-- Each reply that the runner of key commands gives is a step of the machine.
use Rattle.std.proofs.Common.{◌≡◌, false, List, [], ◌∷◌, ◌++◌, Option, Some, None, refl, sym, subst, append-nil}
use Rattle.std.specs.Cmp.{IsTotalOrder}
use Rattle.std.specs.declared.cmp.Ordering.{Ordering}
use Rattle.std.specs.List.Sorted.{IsPermutation}
use Rattle.std.proofs.lemmas.List.Sorted.{IsPermutation-refl}
use Rattle.i_tree.specs.declared.Refusal.{Refusal}
use Rattle.i_tree.specs.Root.Answer.{Below, AtMost}
use Rattle.i_tree.specs.Root.Change.{Without, Gains}
use Rattle.i_tree.specs.Expiring.Live.{live_pairs, IsExpired}
use Rattle.i_tree.specs.Root.Pairs.{HasKey, NoKey}
use Rattle.i_tree.specs.Root.Late.{is_late}
use Rattle.runs.specs.KeyMachine.{Serves, Inserts}
use Rattle.runs.specs.KeyReplies.{IsReplyTo, RepliesTo}
use Rattle.runs.specs.Effects.{DoesAll}
use Rattle.runs.specs.StandsFor.{StandsFor}
use Rattle.runs.specs.declared.keys.KeyCommand.{KeyCommand}
use Rattle.runs.specs.declared.keys.KeyCommand.TheVariants.{Insert, Less, LessOrEqualBy}
use Rattle.runs.specs.declared.keys.KeyReply.{KeyReply}
use Rattle.runs.specs.declared.keys.KeyReply.TheVariants.{Inserted, Present, Late, Refused, Value, Cleared}
use Rattle.i_tree.proofs.RootLemmas.Members.{Within, Without-all}
use Rattle.runs.proofs.RunLemmas.Members.{HasKey-members, NoKey-members, GreatestOr-members, AtMost-members}
use Rattle.runs.proofs.RunLemmas.StandsFor.{StandsFor-later, StandsFor-without, StandsFor-joins, live_accepted, live_stored}

-- a list stands for itself
pub StandsFor-itself : {K E V : Type 0} (expiration : K → E) (cmp_time : E → E → Ordering) (stored : List (K × V)) → StandsFor expiration cmp_time stored stored None
StandsFor-itself expiration cmp_time stored =
    record { gone = []; together = subst (IsPermutation stored) (sym (append-nil stored)) (IsPermutation-refl stored); expired = refl }

module _ {K E V P : Type 0} (expiration : K → E) {cmp_time : E → E → Ordering} (o : IsTotalOrder cmp_time) (cmp_key : K → K → Ordering) (order : P → K → Ordering) where
  module _ (stored : List (K × V)) (last : Option E) (time : E) (not_late : is_late cmp_time last time ≡ false) where
    -- what holds of the live stored pairs, by their members alone, holds of the live accepted ones
    answers : (Answer : List (K × V) → Type 0) → ((xs ys : List (K × V)) → Within xs ys → Within ys xs → Answer xs → Answer ys)
        → (stored' : List (K × V)) → Answer (live_pairs expiration cmp_time time stored) → Without (IsExpired expiration cmp_time time) stored stored'
        → (accepted : List (K × V)) → StandsFor expiration cmp_time stored accepted last
        → Answer (live_pairs expiration cmp_time time accepted) × StandsFor expiration cmp_time stored' accepted (Some time)
    answers Answer by_members stored' answer without accepted stands =
        let now = StandsFor-later expiration o stored accepted last time not_late stands in (
          by_members (live_pairs expiration cmp_time time stored) (live_pairs expiration cmp_time time accepted)
              (live_accepted expiration o stored accepted time now) (live_stored expiration o stored accepted time now) answer,
          StandsFor-without expiration o stored accepted time now stored' without,
        )

    pub serves_less : (default : V) (key : K) (value : V) (stored' : List (K × V)) → Below cmp_key (live_pairs expiration cmp_time time stored) key default value → Without (IsExpired expiration cmp_time time) stored stored'
        → Serves expiration cmp_time cmp_key order stored last (Less time default key) (Value value) stored' (Some time)
    serves_less default key value stored' answer without accepted stands =
        let (moved, stands') = answers (λ pairs. Below cmp_key pairs key default value) (λ xs ys into back. GreatestOr-members cmp_key xs ys into back _ default value) stored' answer without accepted stands in
        (accepted, (not_late, moved, refl), stands')

    pub serves_at_most : (default : V) (probe : P) (value : V) (stored' : List (K × V)) → AtMost cmp_key (live_pairs expiration cmp_time time stored) (order probe) default value → Without (IsExpired expiration cmp_time time) stored stored'
        → Serves expiration cmp_time cmp_key order stored last (LessOrEqualBy time default probe) (Value value) stored' (Some time)
    serves_at_most default probe value stored' answer without accepted stands =
        let (moved, stands') = answers (λ pairs. AtMost cmp_key pairs (order probe) default value) (λ xs ys into back. AtMost-members cmp_key xs ys into back (order probe) default value) stored' answer without accepted stands in
        (accepted, (not_late, moved, refl), stands')

    module _ (key : K) (val : V) (stored' : List (K × V)) where
      serves_present : HasKey cmp_key (live_pairs expiration cmp_time time stored) key → Without (IsExpired expiration cmp_time time) stored stored' → Serves expiration cmp_time cmp_key order stored last (Insert key val time) Present stored' (Some time)
      serves_present has without accepted stands =
          let (moved, stands') = answers (λ pairs. HasKey cmp_key pairs key) (λ xs ys into back. HasKey-members cmp_key xs ys into back key) stored' has without accepted stands in
          (accepted, (not_late, moved, refl), stands')

      serves_refused : (cause : Refusal) → NoKey cmp_key (live_pairs expiration cmp_time time stored) key → stored' ≡ stored → Serves expiration cmp_time cmp_key order stored last (Insert key val time) (Refused cause) stored' (Some time)
      serves_refused cause free same accepted stands =
          let (moved, stands') = answers (λ pairs. NoKey cmp_key pairs key) (λ xs ys into back. NoKey-members cmp_key xs ys into back key) stored free (Without-all stored) accepted stands in
          (accepted, (not_late, moved, refl), subst (λ pairs. StandsFor expiration cmp_time pairs accepted (Some time)) (sym same) stands')

      serves_inserted : NoKey cmp_key (live_pairs expiration cmp_time time stored) key → Gains (IsExpired expiration cmp_time time) (key, val) stored stored' → Serves expiration cmp_time cmp_key order stored last (Insert key val time) Inserted stored' (Some time)
      serves_inserted free (kept, without, joins) accepted stands =
          let (moved, stands') = answers (λ pairs. NoKey cmp_key pairs key) (λ xs ys into back. NoKey-members cmp_key xs ys into back key) kept free without accepted stands in
          ((key, val) ∷ accepted, (not_late, moved, refl), StandsFor-joins expiration o kept accepted time stands' (key, val) stored' joins)

      -- whatever an insertion replies
      pub serves_insert : (reply : KeyReply V) → Inserts expiration cmp_time cmp_key time key val stored reply stored' → Serves expiration cmp_time cmp_key order stored last (Insert key val time) reply stored' (Some time)
      serves_insert Present (has, without) = serves_present has without
      serves_insert Inserted (free, gains) = serves_inserted free gains
      serves_insert (Refused cause) (free, same) = serves_refused cause free same
      serves_insert Late none = absurd none
      serves_insert (Value value) none = absurd none
      serves_insert Cleared none = absurd none

-- an insertion that isn't late has a reply of its kind
pub replies_to_insert : {K E V : Type 0} (P : Type 0) (expiration : K → E) (cmp_time : E → E → Ordering) (cmp_key : K → K → Ordering) (time : E) (key : K) (val : V) (stored stored' : List (K × V)) (reply : KeyReply V)
    → Inserts expiration cmp_time cmp_key time key val stored reply stored' → IsReplyTo {P = P} (Insert key val time) reply
replies_to_insert P expiration cmp_time cmp_key time key val stored stored' Inserted inserts = tt
replies_to_insert P expiration cmp_time cmp_key time key val stored stored' Present inserts = tt
replies_to_insert P expiration cmp_time cmp_key time key val stored stored' (Refused cause) inserts = tt
replies_to_insert P expiration cmp_time cmp_key time key val stored stored' Late inserts = tt
replies_to_insert P expiration cmp_time cmp_key time key val stored stored' (Value value) inserts = inserts
replies_to_insert P expiration cmp_time cmp_key time key val stored stored' Cleared inserts = inserts

pub RepliesTo-push : {K E V P : Type 0} (commands : List (KeyCommand K E V P)) (replies : List (KeyReply V)) (command : KeyCommand K E V P) (reply : KeyReply V)
    → RepliesTo commands replies → IsReplyTo command reply → RepliesTo (commands ++ command ∷ []) (replies ++ reply ∷ [])
RepliesTo-push [] [] command reply each last = (last, tt)
RepliesTo-push [] (r ∷ rs) command reply each last = absurd each
RepliesTo-push (c ∷ cs) [] command reply each last = absurd each
RepliesTo-push (c ∷ cs) (r ∷ rs) command reply each last = (each.0, RepliesTo-push cs rs command reply each.1 last)

-- one more reply, and what it does
pub DoesAll-push : {S C V : Type 0} (does : KeyReply V → S → C → S → C → Type 0) (replies : List (KeyReply V)) (reply : KeyReply V) (calls : S) (c : C) (calls' : S) (c' : C) (calls'' : S) (c'' : C)
    → DoesAll does replies calls c calls' c' → does reply calls' c' calls'' c'' → DoesAll does (replies ++ reply ∷ []) calls c calls'' c''
DoesAll-push {S} {C} does [] reply calls c calls' c' calls'' c'' done last =
    (calls'', c'', subst (λ (between : S). does reply between c calls'' c'') done.0 (subst (λ (between : C). does reply calls' between calls'' c'') done.1 last), (refl, refl))
DoesAll-push does (r ∷ rs) reply calls c calls' c' calls'' c'' (between, c-between, first, rest) last =
    (between, c-between, first, DoesAll-push does rs reply between c-between calls' c' calls'' c'' rest last)
