-- Replies whose values are put in order are replies of the same run.
use Rattle.std.proofs.Common.{◌≡◌, ℕ, ℤ, ◌+◌, ◌<◌, List, [], ◌∷◌, ◌++◌, length, map, take, drop, set, get_or, refl, sym, ap, ◌∙◌, subst, arith}
use Rattle.std.specs.List.{All}
use Rattle.std.specs.List.Sorted.{IsPermutation}
use Rattle.std.specs.Ordering.{int_cmp}
use Rattle.std.proofs.lemmas.Grind.{drop_more_same}
use Rattle.std.proofs.lemmas.List.{drop_more, take_more, take_more_set, map_push, drop-set-lt}
use Rattle.std.proofs.lemmas.List.Elements.{All-nil, All-cons}
use Rattle.std.proofs.lemmas.List.Sorted.{IsPermutation-trans}
use Rattle.i_tree.specs.Seg.Buckets.{Buckets}
use Rattle.runs.specs.SegMachine.{Reply, reply_of, State, Step, Run}
use Rattle.runs.specs.SegMachine.Reply.{Inserted, Outside, Late, Refused, Values, Cleared}
use Rattle.runs.specs.declared.segments.SegReply.{SegReply}
use Rattle.runs.specs.declared.segments.SegCommand.TheVariants.{Insert, Query, Clear}
use Rattle.itree.specs.Replies.{seg_reply_words, reply_lines}
use Rattle.itree.specs.SegLines.{SegLine}
use Rattle.itree.specs.Sorting.{Sorts, SortsAll}
use Rattle.itree.specs.Answers.{ListsRising}
use Rattle.itree.specs.declared.timed_val.TimedVal.{TimedVal}

-- one more reply
pub SortsAll-push : (found listed : List (Reply TimedVal)) (last last' : Reply TimedVal) → SortsAll found listed → Sorts last last' → SortsAll (found ++ last ∷ []) (listed ++ last' ∷ [])
SortsAll-push [] [] last last' sorted at_last = (at_last, tt)
SortsAll-push (f ∷ fs) (l ∷ ls) last last' sorted at_last = (sorted.0, SortsAll-push fs ls last last' sorted.1 at_last)
SortsAll-push [] (l ∷ ls) last last' sorted at_last = absurd sorted
SortsAll-push (f ∷ fs) [] last last' sorted at_last = absurd sorted

-- values that were put in order rise
rising : (found listed : Reply TimedVal) → Sorts found listed → ListsRising listed
rising (Values values) listed (vals, is, same, sorted) = subst ListsRising (sym is) sorted
rising Inserted listed is = subst ListsRising (sym is) tt
rising Outside listed is = subst ListsRising (sym is) tt
rising Late listed is = subst ListsRising (sym is) tt
rising Refused listed is = subst ListsRising (sym is) tt
rising Cleared listed is = subst ListsRising (sym is) tt

pub rising_all : (found listed : List (Reply TimedVal)) → SortsAll found listed → All ListsRising listed
rising_all [] [] sorted = All-nil ListsRising
rising_all (f ∷ fs) (l ∷ ls) sorted = All-cons ListsRising l ls (rising f l sorted.0) (rising_all fs ls sorted.1)
rising_all [] (l ∷ ls) sorted = absurd sorted
rising_all (f ∷ fs) [] sorted = absurd sorted

-- a loop's step: the reply of this index is put in order
module _ {A : Type 0} (all now : List (SegReply TimedVal A)) (i : ℕ) (reply d : SegReply TimedVal A) (within : i < length now) (same : length now ≡ length all) (rest : drop i now ≡ drop i all) where
  pub sort_next : SortsAll (map reply_of (take i all)) (map reply_of (take i now)) → Sorts (reply_of (get_or now i d)) (reply_of reply)
      → SortsAll (map reply_of (take (i + 1) all)) (map reply_of (take (i + 1) (set now i reply)))
  sort_next sorted at_i =
      let within_all : i < length all = omega (arith, within, same) in
      let untouched : get_or now i d ≡ get_or all i d = ap (λ (replies : List (SegReply TimedVal A)). get_or replies 0 d) (sym (drop_more now i d within) ∙ rest ∙ drop_more all i d within_all) in
      let before : map reply_of (take (i + 1) all) ≡ map reply_of (take i all) ++ reply_of (get_or all i d) ∷ [] = ap (map reply_of) (take_more all i d within_all) ∙ map_push reply_of (take i all) (get_or all i d) in
      let after : map reply_of (take (i + 1) (set now i reply)) ≡ map reply_of (take i now) ++ reply_of reply ∷ [] = ap (map reply_of) (take_more_set now i reply within) ∙ map_push reply_of (take i now) reply in
      let pushed = SortsAll-push (map reply_of (take i all)) (map reply_of (take i now)) (reply_of (get_or all i d)) (reply_of reply) sorted
      (subst (λ (old : SegReply TimedVal A). Sorts (reply_of old) (reply_of reply)) untouched at_i) in
      subst (λ (found : List (Reply TimedVal)). SortsAll found (map reply_of (take (i + 1) (set now i reply)))) (sym before)
      (subst (λ (listed : List (Reply TimedVal)). SortsAll (map reply_of (take i all) ++ reply_of (get_or all i d) ∷ []) listed) (sym after) pushed)

  pub rest_next : drop (i + 1) (set now i reply) ≡ drop (i + 1) all
  rest_next = drop-set-lt (i + 1) now i reply (omega arith) ∙ drop_more_same now all i rest

module _ (buckets : Buckets) where
  -- a step or a run over these buckets
  abbrev pub IsStep : State ℤ TimedVal → SegLine → Reply TimedVal → State ℤ TimedVal → Type 0
  IsStep = Step (λ timed. timed.expiration) int_cmp (λ number. number) buckets

  abbrev pub IsRun : State ℤ TimedVal → List SegLine → List (Reply TimedVal) → State ℤ TimedVal → Type 0
  IsRun = Run (λ timed. timed.expiration) int_cmp (λ number. number) buckets

  -- a query may list what it found in any order
  listed_step : (old : State ℤ TimedVal) (command : SegLine) (found listed : List TimedVal) (new : State ℤ TimedVal) → IsPermutation found listed → IsStep old command (Values found) new → IsStep old command (Values listed) new
  listed_step old (Insert range val) found listed new same step = step
  listed_step old (Query range time) found listed new same (accepted, in_time, answered, moved) = (accepted, in_time, IsPermutation-trans _ _ _ answered same, moved)
  listed_step old Clear found listed new same step = step

  sorted_step : (old : State ℤ TimedVal) (command : SegLine) (found listed : Reply TimedVal) (new : State ℤ TimedVal) → Sorts found listed → IsStep old command found new → IsStep old command listed new
  sorted_step old command (Values values) listed new (vals, is, same, sorted) step =
      subst (λ (reply : Reply TimedVal). IsStep old command reply new) (sym is) (listed_step old command values vals new same step)
  sorted_step old command Inserted listed new is step = subst (λ (reply : Reply TimedVal). IsStep old command reply new) (sym is) step
  sorted_step old command Outside listed new is step = subst (λ (reply : Reply TimedVal). IsStep old command reply new) (sym is) step
  sorted_step old command Late listed new is step = subst (λ (reply : Reply TimedVal). IsStep old command reply new) (sym is) step
  sorted_step old command Refused listed new is step = subst (λ (reply : Reply TimedVal). IsStep old command reply new) (sym is) step
  sorted_step old command Cleared listed new is step = subst (λ (reply : Reply TimedVal). IsStep old command reply new) (sym is) step

  pub sorted_run : (old : State ℤ TimedVal) (commands : List SegLine) (found listed : List (Reply TimedVal)) (end : State ℤ TimedVal) → SortsAll found listed → IsRun old commands found end → IsRun old commands listed end
  sorted_run old [] [] [] end sorted run = run
  sorted_run old (c ∷ cs) (f ∷ fs) (l ∷ ls) end sorted (middle, step, run) = (middle, sorted_step old c f l middle sorted.0 step, sorted_run middle cs fs ls end sorted.1 run)
  sorted_run old commands [] (l ∷ ls) end sorted run = absurd sorted
  sorted_run old commands (f ∷ fs) [] end sorted run = absurd sorted
  sorted_run old [] (f ∷ fs) (l ∷ ls) end sorted run = absurd run
  sorted_run old (c ∷ cs) [] [] end sorted run = absurd run

-- the lines of replies, wherever their lists are kept
pub lines_of_replies : {A : Type 0} (replies : List (SegReply TimedVal A)) → reply_lines (λ reply. seg_reply_words (reply_of reply)) replies ≡ reply_lines seg_reply_words (map reply_of replies)
lines_of_replies [] = refl
lines_of_replies (reply ∷ replies) = ap (λ rest. (seg_reply_words (reply_of reply) ++ 10 ∷ []) ++ rest) (lines_of_replies replies)
