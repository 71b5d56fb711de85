-- Each reply that the runner of segment commands gives is a step of the machine.
use Rattle.std.proofs.Common.{◌≡◌, ◌<◌, ℤ, Bool, true, false, cond, Option, Some, None, List, [], ◌∷◌, length, refl, sym, ap, ◌∙◌, subst, arith}
use Rattle.std.specs.Cmp.{IsTotalOrder, upto}
use Rattle.std.specs.List.{filter}
use Rattle.std.specs.List.Sorted.{IsPermutation}
use Rattle.std.specs.declared.cmp.Ordering.{Ordering}
use Rattle.std.proofs.lemmas.Bool.{both_ways}
use Rattle.std.proofs.lemmas.List.Sorted.{length_permutation, IsPermutation-refl, IsPermutation-trans, IsPermutation-cons, IsPermutation-map}
use Rattle.i_tree.proofs.RootLemmas.Orders.{gt-reversed, at_or_after-reversed, not_after-reversed}
use Rattle.i_tree.specs.Seg.Buckets.{Buckets, Interval, interval, overlap}
use Rattle.i_tree.specs.Seg.Members.{Member, member_over, is_live_yet, live_members, with_member, answer, NotBefore}
use Rattle.i_tree.specs.Root.Live.{is_live}
use Rattle.i_tree.specs.declared.seg.exp.SegRange.{SegRange}
use Rattle.i_tree.proofs.SegLemmas.Bags.{IsPermutation-filter}
use Rattle.i_tree.specs.Root.Late.{is_late}
use Rattle.runs.specs.SegMachine.{State, IsAccepted, StandsFor, Serves}
use Rattle.runs.specs.SegMachine.Reply.{Inserted, Refused, Values, Cleared}
use Rattle.runs.specs.declared.segments.SegCommand.TheVariants.{Insert, Query, Clear}

-- what passes the narrower of two tests, of what passes the wider
filter_narrower : {X : Type 0} (narrow wide : X → Bool) → ((x : X) → narrow x ≡ true → wide x ≡ true) → (xs : List X) → filter narrow (filter wide xs) ≡ filter narrow xs
filter_narrower narrow wide within [] = refl
filter_narrower narrow wide within (x ∷ xs) = at_first (filter_narrower narrow wide within xs) (wide x) (narrow x) refl refl
  where
    at_first : filter narrow (filter wide xs) ≡ filter narrow xs → (w n : Bool) → wide x ≡ w → narrow x ≡ n
        → filter narrow (cond w (x ∷ filter wide xs) (filter wide xs)) ≡ cond n (x ∷ filter narrow xs) (filter narrow xs)
    at_first rest true n is_wide is_narrow =
        ap (λ b. cond b (x ∷ filter narrow (filter wide xs)) (filter narrow (filter wide xs))) is_narrow ∙ ap (λ ys. cond n (x ∷ ys) ys) rest
    at_first rest false true is_wide is_narrow = absurd (both_ways (wide x) is_wide (within x is_narrow))
    at_first rest false false is_wide is_narrow = rest

-- a time that isn't late is not before the latest one
pub not_before : {E : Type 0} (cmp : E → E → Ordering) (latest : Option E) (time : E) → is_late cmp latest time ≡ false → NotBefore cmp latest time
not_before cmp None time in_time = refl
not_before cmp (Some last) time in_time = in_time

-- the latest time as it was told, which the query's isn't before
pub not_late : {E : Type 0} (cmp : E → E → Ordering) (told latest : Option E) (time : E) → told ≡ latest → false ≡ is_late cmp told time → is_late cmp latest time ≡ false
not_late cmp told latest time is in_time = subst (λ last. is_late cmp last time ≡ false) is (sym in_time)

module _ {E V : Type 0} (expiration : V → E) {cmp : E → E → Ordering} (o : IsTotalOrder cmp) where
  -- what is live at a time was live at one that isn't after it
  live_before : (latest : Option E) (time : E) → is_late cmp latest time ≡ false → (value : V) → is_live expiration cmp time value ≡ true → is_live_yet expiration cmp latest value ≡ true
  live_before None time in_time value live = refl
  live_before (Some last) time in_time value live =
      not_after-reversed o (expiration value) last (upto o last time (expiration value) (gt-reversed o last time ∙ in_time) (at_or_after-reversed o (expiration value) time live))

  module _ (held : List (Member V)) (latest : Option E) (bag : List (Member V)) (stands : StandsFor expiration cmp held latest bag) where
    -- what the bag has live at a time that isn't late is held
    live_held : (time : E) → is_late cmp latest time ≡ false → IsPermutation (live_members expiration cmp time bag) (live_members expiration cmp time held)
    live_held time in_time =
        let live = λ (member : Member V). is_live expiration cmp time member.value in
        let live_yet = λ (member : Member V). is_live_yet expiration cmp latest member.value in
        subst (λ (members : List (Member V)). IsPermutation members (filter live held)) (filter_narrower live live_yet (λ member. live_before latest time in_time member.value) bag)
        (IsPermutation-filter live (filter live_yet bag) held stands)

    -- so a query is answered from the bag
    answer_held : (time : E) → is_late cmp latest time ≡ false → (asked : Interval) → IsPermutation (answer expiration cmp time asked bag) (answer expiration cmp time asked held)
    answer_held time in_time asked =
        let found = λ (member : Member V). overlap member.interval asked in
        IsPermutation-map (λ (member : Member V). member.value) (filter found (live_members expiration cmp time bag)) (filter found (live_members expiration cmp time held))
        (IsPermutation-filter found (live_members expiration cmp time bag) (live_members expiration cmp time held) (live_held time in_time))

    -- one more member
    stands_with : (member : Member V) → StandsFor expiration cmp (with_member expiration cmp latest member held) latest (member ∷ bag)
    stands_with member = joined (is_live_yet expiration cmp latest member.value)
      where
        live_bag : List (Member V)
        live_bag = filter (λ other. is_live_yet expiration cmp latest other.value) bag

        joined : (live : Bool) → IsPermutation (cond live (member ∷ live_bag) live_bag) (cond live (member ∷ held) held)
        joined true = IsPermutation-cons member live_bag held stands
        joined false = stands

  module _ {R : Type 0} (whole : R → ℤ) (buckets : Buckets) (held : List (Member V)) (latest : Option E) where
    -- an insertion that isn't refused
    pub serves_inserted : (range : SegRange R) (val : V) (held' : List (Member V)) (latest' : Option E) → IsAccepted whole buckets range
        → IsPermutation (with_member expiration cmp latest (member_over buckets (whole range.min) (whole range.max) val) held) held' → latest' ≡ latest
        → Serves expiration cmp whole buckets held latest (Insert range val) Inserted held' latest'
    serves_inserted range val held' latest' accepted joins kept bag stands =
        let member = member_over buckets (whole range.min) (whole range.max) val in (
          member ∷ bag,
          (accepted, ap (λ (t : Option E). let state : State E V = record { bag = member ∷ bag; latest = t } in state) kept),
          subst (λ (t : Option E). StandsFor expiration cmp held' t (member ∷ bag)) (sym kept)
              (IsPermutation-trans _ _ _ (stands_with held latest bag stands member) joins),
        )

    module _ (range : SegRange R) (time : E) (held' : List (Member V)) (latest' : Option E) (accepted : IsAccepted whole buckets range) (in_time : is_late cmp latest time ≡ false) (remain : IsPermutation (live_members expiration cmp time held) held') (moved : latest' ≡ Some time) where
      -- what a query leaves stands for the same bag from its time on
      stands_queried : (bag : List (Member V)) → StandsFor expiration cmp held latest bag → StandsFor expiration cmp held' latest' bag
      stands_queried bag stands =
          subst (λ (t : Option E). StandsFor expiration cmp held' t bag) (sym moved)
          (IsPermutation-trans _ _ _ (live_held held latest bag stands time in_time) remain)

      moved_on : (bag : List (Member V)) → let state : State E V = record { bag = bag; latest = latest' } in state ≡ record { bag = bag; latest = Some time }
      moved_on bag = ap (λ (t : Option E). let state : State E V = record { bag = bag; latest = t } in state) moved

      -- a query whose list was refused memory
      pub serves_refused_query : 0 < length (answer expiration cmp time (interval buckets (whole range.min) (whole range.max)) held) → Serves expiration cmp whole buckets held latest (Query range time) Refused held' latest'
      serves_refused_query some bag stands =
          let asked = interval buckets (whole range.min) (whole range.max) in
          let as_many = length_permutation _ _ (answer_held held latest bag stands time in_time asked) in
          (bag, (accepted, in_time, (λ none. absurd (omega (arith, some, as_many, ap length none))), moved_on bag), stands_queried bag stands)

      -- a query that is answered
      pub serves_values : (values : List V) → (found : List V) × IsPermutation (answer expiration cmp time (interval buckets (whole range.min) (whole range.max)) held) found × (values ≡ found)
          → Serves expiration cmp whole buckets held latest (Query range time) (Values values) held' latest'
      serves_values values (found, same, are) bag stands =
          let asked = interval buckets (whole range.min) (whole range.max) in
          let in_order = IsPermutation-trans _ _ _ (answer_held held latest bag stands time in_time asked) same in
          (bag, (accepted, in_time, subst (IsPermutation (answer expiration cmp time asked bag)) (sym are) in_order, moved_on bag), stands_queried bag stands)

    -- a clear
    pub serves_cleared : (held' : List (Member V)) (latest' : Option E) → held' ≡ [] → latest' ≡ None → Serves expiration cmp whole buckets held latest Clear Cleared held' latest'
    serves_cleared held' latest' empty forgotten bag stands = (
      [],
      ap (λ (t : Option E). let state : State E V = record { bag = []; latest = t } in state) forgotten,
      subst (λ (members : List (Member V)). IsPermutation [] members) (sym empty) (IsPermutation-refl []),
    )
