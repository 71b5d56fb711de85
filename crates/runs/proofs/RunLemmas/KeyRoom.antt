-- Pairs that are stored, beside the room for them: after each call, and after all commands of a run.
use Rattle.std.proofs.Common.{◌≡◌, ℕ, ◌+◌, ◌-◌, ◌≤◌, List, [], ◌∷◌, ◌++◌, length, ap, ◌∙◌, arith}
use Rattle.std.proofs.lemmas.List.Edits.{length-insert}
use Rattle.i_tree.specs.Root.Change.{Without, Gains}
use Rattle.i_tree.specs.Root.Change.Without.{none, keeps, loses}
use Rattle.runs.specs.KeyRoom.{one_if_inserted, RefusedOnlyWhereFull, KeepsRoom}
use Rattle.runs.specs.Effects.{DoesAll}
use Rattle.runs.specs.declared.keys.KeyReply.{KeyReply}
use Rattle.runs.specs.declared.keys.KeyReply.TheVariants.{Inserted, Present, Refused, Value}

module _ {X : Type 0} {MayGo : X → Type 0} where
  length-without : {before after : List X} → Without MayGo before after → length after ≤ length before
  length-without none = omega arith
  length-without (keeps x rest) = let fewer = length-without rest in omega (arith, fewer)
  length-without (loses x goes rest) = let fewer = length-without rest in omega (arith, fewer)

  length-gains : (x : X) (before after : List X) → Gains MayGo x before after → length after ≤ length before + 1
  length-gains x before after (kept, without, (place, within, is)) =
      omega (arith, length-without without, ap length is ∙ length-insert kept place x within)

module _ {X V : Type 0} {MayGo : X → Type 0} (room room' : ℕ) (stored stored' : List X) (more : room ≤ room') where
  pub keeps_inserted : (x : X) → Gains MayGo x stored stored' → KeepsRoom {V = V} Inserted room (length stored) room' (length stored')
  keeps_inserted x gains =
      let longer = length-gains x stored stored' gains in
      record { no_less = more; stores = omega (arith, longer); refused = λ cause is. absurd (cc (is)) }

  pub keeps_present : Without MayGo stored stored' → KeepsRoom {V = V} Present room (length stored) room' (length stored')
  keeps_present without =
      let fewer = length-without without in
      record { no_less = more; stores = omega (arith, fewer); refused = λ cause is. absurd (cc (is)) }

  pub keeps_answered : (value : V) → Without MayGo stored stored' → KeepsRoom {V = V} (Value value) room (length stored) room' (length stored')
  keeps_answered value without =
      let fewer = length-without without in
      record { no_less = more; stores = omega (arith, fewer); refused = λ cause is. absurd (cc (is)) }

-- no insertion is refused while fewer are stored than there is room, which doesn't shrink
module _ {S C V : Type 0} (does : KeyReply V → S → C → S → C → Type 0) (room stored : C → ℕ)
    (kept : (reply : KeyReply V) (calls : S) (c : C) (calls' : S) (c' : C) → does reply calls c calls' c' → KeepsRoom reply (room c) (stored c) (room c') (stored c')) where
  pub refused_where_full : (replies : List (KeyReply V)) (calls : S) (c : C) (calls' : S) (c' : C) → DoesAll does replies calls c calls' c' → RefusedOnlyWhereFull (room c - stored c) replies
  refused_where_full [] calls c calls' c' done [] cause after is = absurd (cc (is))
  refused_where_full [] calls c calls' c' done (r ∷ before) cause after is = absurd (cc (is))
  refused_where_full (reply ∷ replies) calls c calls' c' (mid, c-mid, one, rest) [] cause after is =
      let first : reply ≡ Refused cause = cc in
      let full = (kept reply calls c mid c-mid one).refused cause first in
      omega (arith, full)
  refused_where_full (reply ∷ replies) calls c calls' c' (mid, c-mid, one, rest) (r ∷ before) cause after is =
      let first : reply ≡ r = cc in
      let others : replies ≡ before ++ Refused cause ∷ after = cc in
      let later = refused_where_full replies mid c-mid calls' c' rest before cause after others in
      let here = kept reply calls c mid c-mid one in
      omega (arith, later, here.no_less, here.stores, ap one_if_inserted first)
