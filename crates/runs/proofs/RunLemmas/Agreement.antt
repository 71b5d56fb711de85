-- From each state a command that isn't refused has one reply alone, and so two runs from nothing reply alike.
use Rattle.std.proofs.Common.{◌≡◌, ◌≢◌, ◌⊎◌, ◌&&◌, zero, suc, Bool, true, false, List, [], ◌∷◌, length, Option, Some, None, refl, sym, subst, ap, ◌∙◌, inl, inr, arith}
use Rattle.std.specs.Cmp.{IsTotalOrder, upto, tied_back}
use Rattle.std.specs.Cmp.Lexicographic.{pointwise}
use Rattle.std.specs.Ordering.{is_lt, ordering_reverse}
use Rattle.std.specs.declared.cmp.Ordering.{Ordering}
use Rattle.std.specs.declared.cmp.Ordering.TheVariants as ordering
use Rattle.std.specs.List.{AllPairs, Contains}
use Rattle.std.proofs.lemmas.Bool.{both_ways, cond_both, true_from_ne_false}
use Rattle.std.proofs.lemmas.List.Elements.{All-contains, All-head, All-tail, All-weaker}
use Rattle.std.proofs.lemmas.List.Kept.{AllPairs-cons}
use Rattle.i_tree.proofs.RootLemmas.Orders.{gt-reversed}
use Rattle.i_tree.proofs.RootLemmas.Lists.{AllPairs-head, AllPairs-tail, Contains-filter}
use Rattle.i_tree.specs.declared.Refusal.TheVariants.{OutOfMemory, NoHandle}
use Rattle.i_tree.specs.Root.Answer.{GreatestOr, Below, AtMost}
use Rattle.i_tree.specs.Expiring.Live.{live_pairs}
use Rattle.i_tree.specs.Root.Live.{is_live}
use Rattle.i_tree.specs.Root.Pairs.{HasKey, NoKey}
use Rattle.runs.specs.Agreement.{IsRefused, NoneRefused, OneEqual, OneEqualEach}
use Rattle.i_tree.specs.Root.Late.{is_late}
use Rattle.runs.specs.KeyMachine.{State, beginning, IsLate, Step, Run}
use Rattle.runs.specs.declared.keys.KeyCommand.{KeyCommand}
use Rattle.runs.specs.declared.keys.KeyCommand.TheVariants.{Insert, Less, LessOrEqualBy, Clear}
use Rattle.runs.specs.declared.keys.KeyReply.{KeyReply}
use Rattle.runs.specs.declared.keys.KeyReply.TheVariants.{Inserted, Present, Late, Refused, Value, Cleared}
use Rattle.i_tree.proofs.RootLemmas.Members.{Within, All-within, Contains-from_filter}
use Rattle.runs.proofs.RunLemmas.StandsFor.{IsExpired-later}

-- where each element stands in the relation to all later ones, two members of which neither stands in it to the other are one
same_member : {X : Type 0} (R : X → X → Type 0) (xs : List X) → AllPairs R xs → (x y : X) → Contains xs x → Contains xs y → ¬ (R x y) → ¬ (R y x) → x ≡ y
same_member R [] pairs x y (k, inside, is) here not_before not_after = absurd (omega arith)
same_member R (z ∷ zs) pairs x y (zero, inside, is) (zero, inside', is') not_before not_after = sym is ∙ is'
same_member R (z ∷ zs) pairs x y (zero, inside, is) (suc k, inside', is') not_before not_after =
    absurd (not_before (subst (λ w. R w y) is (All-contains (R z) zs y (AllPairs-head R z zs pairs) (k, omega arith, is'))))
same_member R (z ∷ zs) pairs x y (suc k, inside, is) (zero, inside', is') not_before not_after =
    absurd (not_after (subst (λ w. R w x) is' (All-contains (R z) zs x (AllPairs-head R z zs pairs) (k, omega arith, is))))
same_member R (z ∷ zs) pairs x y (suc k, inside, is) (suc j, inside', is') not_before not_after =
    same_member R zs (AllPairs-tail R z zs pairs) x y (k, omega arith, is) (j, omega arith, is') not_before not_after

-- a list of replies is equal to itself, where each reply is
pub replies_themselves : {V : Type 0} (eq : KeyReply V → KeyReply V → Bool) → eq Inserted Inserted ≡ true → eq Present Present ≡ true → eq Late Late ≡ true → eq (Refused OutOfMemory) (Refused OutOfMemory) ≡ true → eq (Refused NoHandle) (Refused NoHandle) ≡ true → ((value : V) → eq (Value value) (Value value) ≡ true) → eq Cleared Cleared ≡ true
    → (replies : List (KeyReply V)) → pointwise eq replies replies ≡ true
replies_themselves {V = V} eq inserted present late no_memory no_handle value cleared = all
  where
    itself : (reply : KeyReply V) → eq reply reply ≡ true
    itself Inserted = inserted
    itself Present = present
    itself Late = late
    itself (Refused OutOfMemory) = no_memory
    itself (Refused NoHandle) = no_handle
    itself (Value v) = value v
    itself Cleared = cleared

    all : (replies : List (KeyReply V)) → pointwise eq replies replies ≡ true
    all [] = refl
    all (reply ∷ replies) = λ i. itself reply i && all replies i

-- no two keys of the list compare Equal
abbrev AreApart : {K V : Type 0} → (K → K → Ordering) → List (K × V) → Type 0
AreApart cmp pairs = AllPairs (λ one other. cmp one.0 other.0 ≢ ordering.Equal) pairs

-- where keys are apart, a query has one answer
module _ {K V : Type 0} {cmp : K → K → Ordering} (o : IsTotalOrder cmp) (pairs : List (K × V)) (apart : AreApart cmp pairs) (default value other : V) where
  -- keys neither of which is above the other compare Equal
  neither_above : (x y : K) → cmp x y ≢ ordering.Greater → cmp y x ≢ ordering.Greater → cmp x y ≡ ordering.Equal
  neither_above x y not_above not_below = by_answer (cmp x y) refl
    where
      by_answer : (r : Ordering) → cmp x y ≡ r → cmp x y ≡ ordering.Equal
      by_answer ordering.Less e = absurd (not_below (o.antisymm y x ∙ ap ordering_reverse e))
      by_answer ordering.Equal e = e
      by_answer ordering.Greater e = absurd (not_above e)

  greatest_once : (P : K → Type 0) → GreatestOr cmp P pairs default value → GreatestOr cmp P pairs default other → value ≡ other
  greatest_once P (inl (x, greatest, is)) (inl (y, greatest', is')) =
      let above_x = All-contains (λ pair. P pair.0 → cmp pair.0 x.0 ≢ ordering.Greater) pairs y greatest.none_above greatest'.contained greatest'.meets in
      let above_y = All-contains (λ pair. P pair.0 → cmp pair.0 y.0 ≢ ordering.Greater) pairs x greatest'.none_above greatest.contained greatest.meets in
      let level = neither_above x.0 y.0 above_y above_x in
      let same = same_member (λ one another. cmp one.0 another.0 ≢ ordering.Equal) pairs apart x y greatest.contained greatest'.contained (λ differ. differ level) (λ differ. differ (tied_back o x.0 y.0 level)) in
      is ∙ ap (λ (pair : K × V). pair.1) same ∙ sym is'
  greatest_once P (inl (x, greatest, is)) (inr (none_meets, is')) = absurd (All-contains (λ pair. ¬ (P pair.0)) pairs x none_meets greatest.contained greatest.meets)
  greatest_once P (inr (none_meets, is)) (inl (y, greatest', is')) = absurd (All-contains (λ pair. ¬ (P pair.0)) pairs y none_meets greatest'.contained greatest'.meets)
  greatest_once P (inr (none_meets, is)) (inr (none_meets', is')) = is ∙ sym is'

  at_most_once : (order : K → Ordering) → AllPairs (λ one another. order one.0 ≡ ordering.Equal → order another.0 ≡ ordering.Equal → cmp one.0 another.0 ≡ ordering.Equal) pairs
      → AtMost cmp pairs order default value → AtMost cmp pairs order default other → value ≡ other
  at_most_once order one_equal (inl (k, x, inside, at, (level, is))) (inl (j, y, inside', at', (level', is'))) =
      let NotBoth : K × V → K × V → Type 0 = λ one another. order one.0 ≡ ordering.Equal → order another.0 ≢ ordering.Equal in
      let not_both : AllPairs NotBoth pairs = λ i m d below within here there. apart i m d below within (one_equal i m d below within here there) in
      let same = same_member NotBoth pairs not_both x y (k, inside, at) (j, inside', at') (λ no. no level level') (λ no. no level' level) in
      is ∙ ap (λ (pair : K × V). pair.1) same ∙ sym is'
  at_most_once order one_equal (inl (k, x, inside, at, (level, is))) (inr (none_equal, less)) = absurd (All-contains (λ pair. order pair.0 ≢ ordering.Equal) pairs x none_equal (k, inside, at) level)
  at_most_once order one_equal (inr (none_equal, less)) (inl (j, y, inside', at', (level', is'))) = absurd (All-contains (λ pair. order pair.0 ≢ ordering.Equal) pairs y none_equal (j, inside', at') level')
  at_most_once order one_equal (inr (none_equal, less)) (inr (none_equal', less')) = greatest_once (λ key. order key ≡ ordering.Less) less less'

module _ {K E V : Type 0} (expiration : K → E) {cmp_time : E → E → Ordering} (times : IsTotalOrder cmp_time) {cmp_key : K → K → Ordering} (keys : IsTotalOrder cmp_key) where
  -- at each time that isn't late, the accepted keys that are live are apart
  abbrev IsApart : State K E V → Type 0
  IsApart state = (time : E) → is_late cmp_time state.last time ≡ false → AreApart cmp_key (live_pairs expiration cmp_time time state.accepted)

  module _ (old : State K E V) (time : E) (not_late : is_late cmp_time old.last time ≡ false) (later : E) (after : is_lt (cmp_time later time) ≡ false) where
    -- what is not before a time that isn't late isn't late
    still_not_late : is_late cmp_time old.last later ≡ false
    still_not_late = by_last old.last not_late
      where
        by_last : (last : Option E) → is_late cmp_time last time ≡ false → is_late cmp_time last later ≡ false
        by_last None h = refl
        by_last (Some last) h = sym (gt-reversed times last later) ∙ upto times last time later (gt-reversed times last time ∙ h) (gt-reversed times time later ∙ after)

    -- what is live then was live
    live_before : Within (live_pairs expiration cmp_time later old.accepted) (live_pairs expiration cmp_time time old.accepted)
    live_before pair h =
        let found = Contains-from_filter (λ (other : K × V). is_live expiration cmp_time later other.0) old.accepted pair h in
        let live = true_from_ne_false (is_live expiration cmp_time time pair.0) (λ expired. both_ways (is_live expiration cmp_time later pair.0) (IsExpired-later expiration times time later pair after expired) found.1) in
        Contains-filter (λ (other : K × V). is_live expiration cmp_time time other.0) old.accepted pair live found.0

  module _ (old : State K E V) (apart : IsApart old) (time : E) (not_late : is_late cmp_time old.last time ≡ false) where
    apart_moved : IsApart (record { accepted = old.accepted; last = Some time })
    apart_moved later after = apart later (still_not_late old time not_late later after)

    apart_joined : (key : K) (val : V) → NoKey cmp_key (live_pairs expiration cmp_time time old.accepted) key → IsApart (record { accepted = (key, val) ∷ old.accepted; last = Some time })
    apart_joined key val free later after =
        let Differs : K × V → K × V → Type 0 = λ one other. cmp_key one.0 other.0 ≢ ordering.Equal in
        let live = live_pairs expiration cmp_time later old.accepted in
        let none = All-within (λ (pair : K × V). cmp_key pair.0 key ≢ ordering.Equal) (live_pairs expiration cmp_time time old.accepted) live (live_before old time not_late later after) free in
        cond_both (is_live expiration cmp_time later key) ((key, val) ∷ live) live (AllPairs Differs)
        (λ _. AllPairs-cons Differs (key, val) live (All-weaker (λ (pair : K × V). cmp_key pair.0 key ≢ ordering.Equal) (Differs (key, val)) (λ pair differ level. differ (tied_back keys key pair.0 level)) live none) (apart_moved later after))
        (λ _. apart_moved later after)

  module _ {P : Type 0} (order : P → K → Ordering) where
    -- what a command is replied that is neither late nor refused, and what it leaves
    abbrev Acts : State K E V → KeyCommand K E V P → KeyReply V → State K E V → Type 0
    Acts old (Insert key val time) reply new =
        (is_late cmp_time old.last time ≡ false)
        × ((HasKey cmp_key (live_pairs expiration cmp_time time old.accepted) key × (reply ≡ Present) × (new ≡ record { accepted = old.accepted; last = Some time }))
        ⊎ (NoKey cmp_key (live_pairs expiration cmp_time time old.accepted) key × (reply ≡ Inserted) × (new ≡ record { accepted = (key, val) ∷ old.accepted; last = Some time })))
    Acts old (Less time default key) reply new =
        (is_late cmp_time old.last time ≡ false)
        × (value : V) × Below cmp_key (live_pairs expiration cmp_time time old.accepted) key default value
        × (reply ≡ Value value) × (new ≡ record { accepted = old.accepted; last = Some time })
    Acts old (LessOrEqualBy time default probe) reply new =
        (is_late cmp_time old.last time ≡ false)
        × (value : V) × AtMost cmp_key (live_pairs expiration cmp_time time old.accepted) (order probe) default value
        × (reply ≡ Value value) × (new ≡ record { accepted = old.accepted; last = Some time })
    Acts old Clear reply new = (reply ≡ Cleared) × (new ≡ record { accepted = []; last = None })

    -- a step that refuses nothing is late, or the command acts
    step_cases : (old : State K E V) (command : KeyCommand K E V P) (reply : KeyReply V) (new : State K E V) → Step expiration cmp_time cmp_key order old command reply new → ¬ (IsRefused reply)
        → (IsLate cmp_time old.last command × (reply ≡ Late) × (new ≡ old)) ⊎ Acts old command reply new
    step_cases old command Late new (late, same) taken = inl (late, refl, same)
    step_cases old command (Refused cause) new step taken = absurd (taken (cause, refl))
    step_cases old (Insert key val time) Present new (not_late, has, is) taken = inr (not_late, inl (has, refl, is))
    step_cases old (Insert key val time) Inserted new (not_late, free, is) taken = inr (not_late, inr (free, refl, is))
    step_cases old (Insert key val time) (Value value) new step taken = absurd step
    step_cases old (Insert key val time) Cleared new step taken = absurd step
    step_cases old (Less time default key) (Value value) new (not_late, answer, is) taken = inr (not_late, value, answer, refl, is)
    step_cases old (Less time default key) Present new step taken = absurd step
    step_cases old (Less time default key) Inserted new step taken = absurd step
    step_cases old (Less time default key) Cleared new step taken = absurd step
    step_cases old (LessOrEqualBy time default probe) (Value value) new (not_late, answer, is) taken = inr (not_late, value, answer, refl, is)
    step_cases old (LessOrEqualBy time default probe) Present new step taken = absurd step
    step_cases old (LessOrEqualBy time default probe) Inserted new step taken = absurd step
    step_cases old (LessOrEqualBy time default probe) Cleared new step taken = absurd step
    step_cases old Clear Cleared new is taken = inr (refl, is)
    step_cases old Clear Present new step taken = absurd step
    step_cases old Clear Inserted new step taken = absurd step
    step_cases old Clear (Value value) new step taken = absurd step

    late_or_acts : (old : State K E V) (command : KeyCommand K E V P) (reply : KeyReply V) (new : State K E V) → IsLate cmp_time old.last command → ¬ (Acts old command reply new)
    late_or_acts old (Insert key val time) reply new late acts = both_ways (is_late cmp_time old.last time) acts.0 late
    late_or_acts old (Less time default key) reply new late acts = both_ways (is_late cmp_time old.last time) acts.0 late
    late_or_acts old (LessOrEqualBy time default probe) reply new late acts = both_ways (is_late cmp_time old.last time) acts.0 late
    late_or_acts old Clear reply new late acts = late

    module _ (old : State K E V) (apart : IsApart old) where
      Acts-apart : (command : KeyCommand K E V P) (reply : KeyReply V) (new : State K E V) → Acts old command reply new → IsApart new
      Acts-apart (Insert key val time) reply new (not_late, inl (has, replies, is)) = subst IsApart (sym is) (apart_moved old apart time not_late)
      Acts-apart (Insert key val time) reply new (not_late, inr (free, replies, is)) = subst IsApart (sym is) (apart_joined old apart time not_late key val free)
      Acts-apart (Less time default key) reply new (not_late, value, answer, replies, is) = subst IsApart (sym is) (apart_moved old apart time not_late)
      Acts-apart (LessOrEqualBy time default probe) reply new (not_late, value, answer, replies, is) = subst IsApart (sym is) (apart_moved old apart time not_late)
      Acts-apart Clear reply new (replies, is) = subst IsApart (sym is) (λ time not_late. λ i j d below inside. absurd (omega arith))

      module _ (reply other : KeyReply V) (new new' : State K E V) where
        Acts-once : (command : KeyCommand K E V P) → OneEqual expiration cmp_time cmp_key order old command → Acts old command reply new → Acts old command other new' → (reply ≡ other) × (new ≡ new')
        Acts-once (Insert key val time) one (not_late, inl (has, replies, is)) (not_late', inl (has', replies', is')) = (replies ∙ sym replies', is ∙ sym is')
        Acts-once (Insert key val time) one (not_late, inl ((k, x, inside, at, level), replies, is)) (not_late', inr (free, replies', is')) =
            absurd (All-contains (λ pair. cmp_key pair.0 key ≢ ordering.Equal) (live_pairs expiration cmp_time time old.accepted) x free (k, inside, at) level)
        Acts-once (Insert key val time) one (not_late, inr (free, replies, is)) (not_late', inl ((k, x, inside, at, level), replies', is')) =
            absurd (All-contains (λ pair. cmp_key pair.0 key ≢ ordering.Equal) (live_pairs expiration cmp_time time old.accepted) x free (k, inside, at) level)
        Acts-once (Insert key val time) one (not_late, inr (free, replies, is)) (not_late', inr (free', replies', is')) = (replies ∙ sym replies', is ∙ sym is')
        Acts-once (Less time default key) one (not_late, value, answer, replies, is) (not_late', value', answer', replies', is') =
            let live = live_pairs expiration cmp_time time old.accepted in
            let same = greatest_once keys live (apart time not_late) default value value' (λ found. cmp_key found key ≡ ordering.Less) answer answer' in
            (replies ∙ ap Value same ∙ sym replies', is ∙ sym is')
        Acts-once (LessOrEqualBy time default probe) one (not_late, value, answer, replies, is) (not_late', value', answer', replies', is') =
            let live = live_pairs expiration cmp_time time old.accepted in
            let same = at_most_once keys live (apart time not_late) default value value' (order probe) (one not_late) answer answer' in
            (replies ∙ ap Value same ∙ sym replies', is ∙ sym is')
        Acts-once Clear one (replies, is) (replies', is') = (replies ∙ sym replies', is ∙ sym is')

        -- two steps that refuse nothing are one
        Step-once : (command : KeyCommand K E V P) → OneEqual expiration cmp_time cmp_key order old command → ¬ (IsRefused reply) → ¬ (IsRefused other)
            → Step expiration cmp_time cmp_key order old command reply new → Step expiration cmp_time cmp_key order old command other new'
            → (reply ≡ other) × (new ≡ new') × IsApart new
        Step-once command one taken taken' step step' = by_cases (step_cases old command reply new step taken) (step_cases old command other new' step' taken')
          where
            by_cases : (IsLate cmp_time old.last command × (reply ≡ Late) × (new ≡ old)) ⊎ Acts old command reply new
                → (IsLate cmp_time old.last command × (other ≡ Late) × (new' ≡ old)) ⊎ Acts old command other new'
                → (reply ≡ other) × (new ≡ new') × IsApart new
            by_cases (inl (late, replies, is)) (inl (late', replies', is')) = (replies ∙ sym replies', is ∙ sym is', subst IsApart (sym is) apart)
            by_cases (inl (late, replies, is)) (inr acts') = absurd (late_or_acts old command other new' late acts')
            by_cases (inr acts) (inl (late', replies', is')) = absurd (late_or_acts old command reply new late' acts)
            by_cases (inr acts) (inr acts') =
                let (same, met) = Acts-once command one acts acts' in
                (same, met, Acts-apart command reply new acts)

    runs_agree : (old end end' : State K E V) (commands : List (KeyCommand K E V P)) (first second : List (KeyReply V)) → IsApart old → OneEqualEach expiration cmp_time cmp_key order old commands
        → Run expiration cmp_time cmp_key order old commands first end → Run expiration cmp_time cmp_key order old commands second end'
        → NoneRefused first → NoneRefused second → first ≡ second
    runs_agree old end end' [] [] [] apart each run run' taken taken' = refl
    runs_agree old end end' [] [] (r ∷ rs) apart each run run' taken taken' = absurd run'
    runs_agree old end end' [] (r ∷ rs) second apart each run run' taken taken' = absurd run
    runs_agree old end end' (c ∷ cs) [] second apart each run run' taken taken' = absurd run
    runs_agree old end end' (c ∷ cs) (r ∷ rs) [] apart each run run' taken taken' = absurd run'
    runs_agree old end end' (c ∷ cs) (r ∷ rs) (s ∷ ss) apart (one, each) (middle, step, rest) (middle', step', rest') taken taken' =
        let Taken : KeyReply V → Type 0 = λ reply. ¬ (IsRefused reply) in
        let taken_first = All-head Taken r rs taken in
        let (same, met, apart') = Step-once old apart r s middle middle' c one taken_first (All-head Taken s ss taken') step step' in
        let from_middle = subst (λ state. Run expiration cmp_time cmp_key order state cs ss end') (sym met) rest' in
        let more = runs_agree middle end end' cs rs ss apart' (each r middle step taken_first) rest from_middle (All-tail Taken r rs taken) (All-tail Taken s ss taken') in
        λ i. same i ∷ more i

    -- from nothing, where no two keys are accepted yet
    pub runs_agree_from_nothing : (end end' : State K E V) (commands : List (KeyCommand K E V P)) (first second : List (KeyReply V)) → OneEqualEach expiration cmp_time cmp_key order (beginning []) commands
        → Run expiration cmp_time cmp_key order (beginning []) commands first end → Run expiration cmp_time cmp_key order (beginning []) commands second end'
        → NoneRefused first → NoneRefused second → first ≡ second
    runs_agree_from_nothing end end' commands first second =
        runs_agree (beginning []) end end' commands first second (λ time not_late. λ i j d below inside. absurd (omega arith))

    -- a run has one reply for each command
    pub length-run : (old end : State K E V) (commands : List (KeyCommand K E V P)) (replies : List (KeyReply V)) → Run expiration cmp_time cmp_key order old commands replies end → length replies ≡ length commands
    length-run old end [] [] run = refl
    length-run old end [] (r ∷ rs) run = absurd run
    length-run old end (c ∷ cs) [] run = absurd run
    length-run old end (c ∷ cs) (r ∷ rs) (middle, step, rest) = ap suc (length-run middle end cs rs rest)
