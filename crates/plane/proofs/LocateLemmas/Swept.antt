-- What holds once some events of a queue are served: before the first one, at the next one, and once all are.
use Rattle.std.proofs.Common.{◌≡◌, ◌≢◌, ◌⊎◌, inl, ℕ, ◌<◌, ℤ, ◌≤ℤ◌, ◌<ℤ◌, List, [], ◌∷◌, ◌++◌, Option, None, length, get_or, take, refl, sym, ap, ◌∙◌, subst, arith}
use Rattle.std.specs.List.{All, AllZip, Contains}
use Rattle.std.proofs.lemmas.Int.{by_lt_z}
use Rattle.std.proofs.lemmas.List.Elements.{All-filter, All-nil, All-weaker}
use Rattle.i_tree.proofs.RootLemmas.Joined.{All-front}
use Rattle.plane.specs.declared.edge.Edge.{Edge}
use Rattle.plane.specs.declared.point.Point.{Point}
use Rattle.event_queue.specs.declared.Event.{Event}
use Rattle.event_queue.specs.declared.Task.TheVariants.{End}
use Rattle.plane.specs.declared.sweep_line.active.ActiveEdge.{ActiveEdge}
use Rattle.plane.specs.Locate.Answers.{IsPlaceBelow}
use Rattle.plane.specs.SweepLine.Crossings.{Cross, NoneCross}
use Rattle.plane.specs.SweepLine.Heights.{rightwards}
use Rattle.event_queue.specs.Queue.{StandsAt, Precedes}
use Rattle.plane.specs.Locate.Events.{CoversSome, answering_of, beginning_of, ending_of, IsQueue}
use Rattle.plane.specs.SweepLine.Active.{Entry, is_live_at, live_entries}
use Rattle.event_queue.proofs.QueueLemmas.Answers.{Answered, Answered-none, Answered-all}
use Rattle.event_queue.proofs.QueueLemmas.Places.{StandsAt-read}
use Rattle.plane.proofs.SweepLineLemmas.Adjacent.{All-at}
use Rattle.plane.proofs.LocateLemmas.Events.{is_answering, is_beginning, is_ending}
use Rattle.plane.specs.SweepLine.Begun.{end_of, IsOneOf, IsBegun, HasEnded}
use Rattle.plane.proofs.LocateLemmas.Begun.{end_known}
use Rattle.event_queue.proofs.QueueLemmas.Done.{done_before, end-precedes, none_behind}
use Rattle.plane.specs.SweepLine.Line.{IsLineAt, AllLiveAt}
use Rattle.plane.proofs.SweepLineLemmas.Live.{live_entries-all}
use Rattle.plane.proofs.SweepLineLemmas.Rightwards.{rightwards-same}
use Rattle.plane.proofs.SweepLineLemmas.Turned.{Cross-turned, CoversSome-crossed}
use Rattle.plane.proofs.SweepLineLemmas.Uncrossed.{Cross-exchanged}

-- x is before none of the done events
abbrev pub NoneBehind : List Event → ℤ → Type 0
NoneBehind done x = All (λ event. event.x ≤ℤ x) done

-- The line has the edges that have begun and not ended. It stands in order at each x that is before none of the done events and
-- behind none of its ends, and the status holds what is live of it there. An edge that has ended crosses none that has begun,
-- and the points that are done have their answers.
pub record Swept (edges : List Edge) (points : List Point) (done : List Event) (stored : List Entry) (answers : List (Option ℕ)) : Type 0 where
  pub line : List Entry
  pub of : All (λ entry. IsBegun edges done entry.0 × ¬ (HasEnded done entry.0)) line
  pub each : (active : ActiveEdge) → IsBegun edges done active → HasEnded done active ⊎ Contains line (active, tt)
  pub in_line : (x : ℤ) → NoneBehind done x → All (λ entry. x ≤ℤ entry.0.edge.x1) line → IsLineAt x line
  pub live : (x : ℤ) → NoneBehind done x → live_entries x stored ≡ live_entries x line
  pub ended : (one other : ActiveEdge) → IsBegun edges done one → IsBegun edges done other → HasEnded done one → ¬ (Cross one.edge other.edge)
  pub answered : Answered (IsPlaceBelow edges) None points done answers

no_entries : (x : ℤ) → IsLineAt x []
no_entries x = record {
  onwards = All-nil (λ entry. entry.0.edge.x0 <ℤ entry.0.edge.x1);
  spans = All-nil (λ entry. (entry.0.edge.x0 ≤ℤ x) × (x ≤ℤ entry.0.edge.x1));
  order = λ i j d below within. absurd (omega (arith, within));
  sorted = λ i j d below within. absurd (omega (arith, within));
  adjacent = tt;
}

-- before the first event
pub Swept-nothing : (edges : List Edge) (points : List Point) (stored : List Entry) (answers : List (Option ℕ)) → stored ≡ [] → length answers ≡ length points → Swept edges points [] stored answers
Swept-nothing edges points stored answers empty room = record {
  line = [];
  of = All-nil (λ entry. IsBegun edges [] entry.0 × ¬ (HasEnded [] entry.0));
  each = λ active is. let begun = is.begun in absurd (omega (arith, begun.1));
  in_line = λ x none ends. no_entries x;
  live = λ x none. ap (live_entries x) empty;
  ended = λ one other is is' has. absurd (omega (arith, has.1));
  answered = Answered-none (IsPlaceBelow edges) None points answers room;
}

-- At the next event's x:
module _ (edges : List Edge) (points : List Point) (events : List Event) (queue : IsQueue edges points events)
    (k : ℕ) (event : Event) (inside : k < length events) (is : event ≡ get_or events k event)
    (stored : List Entry) (answers : List (Option ℕ)) (swept : Swept edges points (take k events) stored answers)
    (x : ℤ) (here : event.x ≡ x) where
  pub none_behind_at : NoneBehind (take k events) x
  none_behind_at = subst (NoneBehind (take k events)) here (none_behind queue k event inside is)

  -- an end that comes before the event is done
  not_before : (entry : Entry) → IsBegun edges (take k events) entry.0 × ¬ (HasEnded (take k events) entry.0) → ¬ (Precedes (end_of entry.0) event)
  not_before entry (begun, not_ended) first =
      not_ended (done_before queue k event inside is (end_of entry.0) (end_known edges points entry.0 begun.one) first)

  -- none of the line ends before x
  ends_upto : All (λ entry. x ≤ℤ entry.0.edge.x1) swept.line
  ends_upto =
      subst (λ (here : ℤ). All (λ (entry : Entry). here ≤ℤ entry.0.edge.x1) swept.line) here
      (All-weaker (λ (entry : Entry). IsBegun edges (take k events) entry.0 × ¬ (HasEnded (take k events) entry.0)) (λ entry. event.x ≤ℤ entry.0.edge.x1)
      (λ entry which. by_lt_z entry.0.edge.x1 event.x (λ before. absurd (not_before entry which (inl before))) (λ from. from))
      swept.line swept.of)

  pub line_at : IsLineAt x swept.line
  line_at = swept.in_line x none_behind_at ends_upto

  pub live_at : live_entries x stored ≡ live_entries x swept.line
  live_at = swept.live x none_behind_at

  -- what is live is one of the edges
  pub live_are : All (λ entry. IsOneOf edges entry.0) (live_entries x stored)
  live_are =
      subst (All (λ (entry : Entry). IsOneOf edges entry.0)) (sym live_at)
      (All-filter (is_live_at x) (λ (entry : Entry). IsOneOf edges entry.0) swept.line
      (All-weaker (λ (entry : Entry). IsBegun edges (take k events) entry.0 × ¬ (HasEnded (take k events) entry.0)) (λ entry. IsOneOf edges entry.0) (λ entry which. let begun = which.0 in begun.one) swept.line swept.of))

  -- and goes to the right
  pub live_onwards : All (λ entry. entry.0.edge.x0 <ℤ entry.0.edge.x1) (live_entries x stored)
  live_onwards i d within = let one = live_are i d within in one.onwards

  -- an x that is before none of what is done then
  pub none_behind_before : (later : ℤ) → NoneBehind (take k events ++ event ∷ []) later → NoneBehind (take k events) later
  none_behind_before later none = All-front (λ (e : Event). e.x ≤ℤ later) (take k events) (event ∷ []) none

  pub upto_later : (later : ℤ) → NoneBehind (take k events ++ event ∷ []) later → x ≤ℤ later
  upto_later later none = subst (λ (z : ℤ). z ≤ℤ later) here (All-at (λ (e : Event). e.x ≤ℤ later) (take k events) event [] none)

  -- but for an end all of it is live
  module _ (other : event.task ≢ End) where
    pub all_live_at : AllLiveAt x swept.line
    all_live_at =
        subst (λ (here : ℤ). All (λ (entry : Entry). here <ℤ entry.0.edge.x1) swept.line) here
        (All-weaker (λ (entry : Entry). IsBegun edges (take k events) entry.0 × ¬ (HasEnded (take k events) entry.0)) (λ entry. event.x <ℤ entry.0.edge.x1)
        (λ entry which. by_lt_z event.x entry.0.edge.x1 (λ before. before) (λ upto. absurd (not_before entry which (end-precedes entry.0.edge.x1 entry.0.place event other upto))))
        swept.line swept.of)

    pub live_is_line : live_entries x stored ≡ swept.line
    live_is_line = live_at ∙ live_entries-all x swept.line all_live_at

-- Once all events are done, no two edges cross and each point has its answer.
module _ (edges : List Edge) (points : List Point) (events : List Event) (queue : IsQueue edges points events) (stored : List Entry) (answers : List (Option ℕ)) (swept : Swept edges points events stored answers) where
  -- an edge that covers something has begun and ended
  none_crosses : (i j : ℕ) (one other : Edge) → StandsAt edges i one → StandsAt edges j other → ¬ (Cross one other)
  none_crosses i j one other stands stands' cross =
      swept.ended (record { edge = rightwards one; place = i }) (record { edge = rightwards other; place = j })
      (record { one = record { edge = one; stands = stands; same = refl; onwards = some }; begun = queue.each (beginning_of i one) (is_beginning edges points i one stands some) })
      (record { one = record { edge = other; stands = stands'; same = refl; onwards = other_some }; begun = queue.each (beginning_of j other) (is_beginning edges points j other stands' other_some) })
      (queue.each (ending_of i one) (is_ending edges points i one stands some))
      (Cross-turned one (rightwards one) other (rightwards other) (sym (rightwards-same (rightwards one) some)) (sym (rightwards-same (rightwards other) other_some)) cross)
    where
      some : CoversSome one
      some = CoversSome-crossed one other cross

      other_some : CoversSome other
      other_some = CoversSome-crossed other one (Cross-exchanged one other cross)

  pub none_cross : NoneCross edges
  none_cross i j d below within =
      let first : i < length edges = omega (arith, below, within) in
      none_crosses i j (get_or edges i d) (get_or edges j d) (StandsAt-read edges i d first) (StandsAt-read edges j d within)

  pub all_answered : AllZip (IsPlaceBelow edges) points answers
  all_answered =
      Answered-all (IsPlaceBelow edges) None points events answers swept.answered
      (λ place point stands. (point.x, queue.each (answering_of place point) (is_answering edges points place point stands)))
