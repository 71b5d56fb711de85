-- Values of a set, beside the room for them: after each call, and after all commands of a run.
use Rattle.std.proofs.Common.{◌≡◌, ℕ, ◌+◌, ◌-◌, ◌≤◌, List, [], ◌∷◌, ◌++◌, length, ap, arith}
use Rattle.i_tree.specs.declared.Refusal.{Refusal}
use Rattle.runs.specs.SetRoom.{one_if_inserted, accepted, RefusedOnlyWhereFull, KeepsRoom}
use Rattle.runs.specs.declared.sets.SetReply.{SetReply}
use Rattle.runs.specs.declared.sets.SetReply.TheVariants.{Refused, Deleted}

module _ {K V : Type 0} where
  pub keeps_deleted : (room room' : ℕ) (pairs pairs' : List (ℕ × V)) → length pairs' + 1 ≡ length pairs → room ≤ room' → KeepsRoom {K = K} {V = V} Deleted room (length pairs) room' (length pairs')
  keeps_deleted room room' pairs pairs' fewer more =
      record { no_less = more; stores = omega (arith, fewer); refused = λ handed cause is. absurd (cc (is)) }

  -- what so many replies have done to the room and to the number of values
  pub record KeepsSoFar (replies : List (SetReply K V)) (room stored room' stored' : ℕ) : Type 0 where
    pub no_less : room ≤ room'
    pub stores : stored' ≤ stored + accepted replies
    pub refused : RefusedOnlyWhereFull (room - stored) replies

  pub keeps_none : (room stored : ℕ) → KeepsSoFar [] room stored room stored
  keeps_none room stored = record { no_less = omega arith; stores = omega arith; refused = none_refused }
    where
      none_refused : RefusedOnlyWhereFull {K = K} {V = V} (room - stored) []
      none_refused [] handed cause after is = absurd (cc (is))
      none_refused (r ∷ before) handed cause after is = absurd (cc (is))

  accepted-push : (replies : List (SetReply K V)) (reply : SetReply K V) → accepted (replies ++ reply ∷ []) ≡ accepted replies + one_if_inserted reply
  accepted-push [] reply = omega arith
  accepted-push (first ∷ replies) reply = let rest = accepted-push replies reply in omega (arith, rest)

  full-push : (spare : ℕ) (replies : List (SetReply K V)) (reply : SetReply K V) → RefusedOnlyWhereFull spare replies
      → ((handed : V) (cause : Refusal) → reply ≡ Refused handed cause → spare ≤ accepted replies) → RefusedOnlyWhereFull spare (replies ++ reply ∷ [])
  full-push spare [] reply so_far last [] handed cause after is = let same : reply ≡ Refused handed cause = cc in last handed cause same
  full-push spare [] reply so_far last (r ∷ []) handed cause after is = absurd (cc (is))
  full-push spare [] reply so_far last (r ∷ r' ∷ before) handed cause after is = absurd (cc (is))
  full-push spare (first ∷ replies) reply so_far last [] handed cause after is =
      let same : first ≡ Refused handed cause = cc in
      so_far [] handed cause replies (ap (λ (r : SetReply K V). r ∷ replies) same)
  full-push spare (first ∷ replies) reply so_far last (r ∷ before) handed cause after is =
      let same : first ≡ r = cc in
      let others : replies ++ reply ∷ [] ≡ before ++ Refused handed cause ∷ after = cc in
      let rest = full-push (spare - one_if_inserted first) replies reply
      (λ before' handed' cause' after' is'. let low = so_far (first ∷ before') handed' cause' after' (ap (λ (rs : List (SetReply K V)). first ∷ rs) is') in omega (arith, low))
      (λ handed' cause' is'. let low = last handed' cause' is' in omega (arith, low)) before handed cause after others in
      omega (arith, rest, ap one_if_inserted same)

  -- one more reply
  pub keeps-push : (replies : List (SetReply K V)) (reply : SetReply K V) (room stored room' stored' room'' stored'' : ℕ) → KeepsSoFar replies room stored room' stored' → KeepsRoom reply room' stored' room'' stored''
      → KeepsSoFar (replies ++ reply ∷ []) room stored room'' stored''
  keeps-push replies reply room stored room' stored' room'' stored'' so_far one =
      record {
        no_less = omega (arith, so_far.no_less, one.no_less);
        stores = omega (arith, so_far.stores, one.stores, accepted-push replies reply);
        refused = full-push (room - stored) replies reply so_far.refused (λ handed cause is. let full = one.refused handed cause is in omega (arith, full, so_far.no_less, so_far.stores));
      }
