-- What holds once some events of a queue are served, and how one more is.
use Rattle.std.proofs.Common.{◌≡◌, ℕ, ◌<◌, ◌+◌, ℤ, ◌≤ℤ◌, List, Option, None, length, get_or, set, take, refl, sym, ap, ◌∙◌, subst, ⊎_elim}
use Rattle.std.specs.List.{All, Contains}
use Rattle.std.specs.Ordering.{int_cmp}
use Rattle.std.proofs.lemmas.List.Elements.{Contains-push_cases}
use Rattle.i_tree.specs.Root.Answer.{AtMost}
use Rattle.i_tree.specs.Root.Change.{Gains, Without}
use Rattle.i_tree.specs.Root.Pairs.{HasKey, NoKey}
use Rattle.horizontal.specs.Levels.{Entry, level_of, entry_of, cmp_levels, live_entries, HasEnded}
use Rattle.horizontal.specs.Events.{beginning_of, answering_of, IsQueue}
use Rattle.horizontal.specs.Heights.{IsHeightBelow, Placed, StandsIn, Overlaps, IsFirstOverlap}
use Rattle.horizontal.specs.declared.Point.{Point}
use Rattle.horizontal.specs.declared.Segment.{Segment}
use Rattle.event_queue.specs.declared.Event.{Event}
use Rattle.event_queue.specs.declared.Task.TheVariants.{Begin, Answer}
use Rattle.event_queue.specs.Queue.{StandsAt}
use Rattle.event_queue.proofs.QueueLemmas.Answers.{Answered, Answered-other, Answered-set}
use Rattle.event_queue.proofs.QueueLemmas.Done.{none_behind, one_more}
use Rattle.event_queue.proofs.QueueLemmas.Places.{StandsAt-read, one_item}
use Rattle.horizontal.proofs.SweepLemmas.Begun.{begins_of, answers_of, begun_before, begun_upto, comes_before, is_first}
use Rattle.horizontal.proofs.SweepLemmas.Status.{Holds, Holds-begun, Holds-answered, IsHeightBelow-at_most, Overlaps-live, none_overlaps}

-- The store holds what has begun, none of the segments that have begun overlaps, and the points that are done have their answers.
pub record Served (segments : List Segment) (points : List Point) (done : List Event) (entries : List Entry) (answers : List (Option ℤ)) : Type 0 where
  pub holds : Holds segments done entries
  pub free : (placed : Placed) → StandsIn segments placed → Contains done (beginning_of placed.0 placed.1) → ¬ (Overlaps segments placed)
  pub answered : Answered (IsHeightBelow segments) None points done answers

module _ (segments : List Segment) (points : List Point) (events : List Event) (queue : IsQueue segments points events)
    (k : ℕ) (event : Event) (inside : k < length events) (is : event ≡ get_or events k event)
    (entries : List Entry) (answers : List (Option ℤ)) (served : Served segments points (take k events) entries answers) where
  -- no event is of both kinds
  apart : event.task ≡ Begin → event.task ≡ Answer → ⊥
  apart begins answers = let same : Begin ≡ Answer = sym begins ∙ answers in cc

  -- the segment at the event's place overlaps where a level of its height is live
  pub Served-overlap : (d : Segment) → event.task ≡ Begin
      → HasKey cmp_levels (live_entries (get_or segments event.place d).x0 entries) (level_of (get_or segments event.place d)) → IsFirstOverlap segments event.place
  Served-overlap d begins has =
      let (segment, stands, some, same) = begins_of segments points events queue k event inside is begins in
      let one : get_or segments event.place d ≡ segment = one_item segments event.place event.place (get_or segments event.place d) segment refl (StandsAt-read segments event.place d stands.0) stands in
      let before = subst (λ x. All (λ (other : Event). other.x ≤ℤ x) (take k events)) (ap (λ (e : Event). e.x) same) (none_behind queue k event inside is) in
      let has' = subst (λ (s : Segment). HasKey cmp_levels (live_entries s.x0 entries) (level_of s)) one has in
      is_first segments points events queue k event inside is event.place segment same stands served.free
      (Overlaps-live segments (take k events) entries served.holds segment.x0 before event.place segment refl some (comes_before segments points events queue k event inside is event.place segment same) has')

  module _ (entries' : List Entry) where
    -- else it begins
    pub Served-begun : (d : Segment) → event.task ≡ Begin
        → NoKey cmp_levels (live_entries (get_or segments event.place d).x0 entries) (level_of (get_or segments event.place d))
        → Gains (HasEnded (get_or segments event.place d).x0) (entry_of (get_or segments event.place d)) entries entries'
        → Served segments points (take (k + 1) events) entries' answers
    Served-begun d begins none gains =
        let (segment, stands, some, same) = begins_of segments points events queue k event inside is begins in
        let one : get_or segments event.place d ≡ segment = one_item segments event.place event.place (get_or segments event.place d) segment refl (StandsAt-read segments event.place d stands.0) stands in
        let before = subst (λ x. All (λ (other : Event). other.x ≤ℤ x) (take k events)) (ap (λ (e : Event). e.x) same) (none_behind queue k event inside is) in
        let none' = subst (λ (s : Segment). NoKey cmp_levels (live_entries s.x0 entries) (level_of s)) one none in
        let gains' = subst (λ (s : Segment). Gains (HasEnded s.x0) (entry_of s) entries entries') one gains in
        let alone = none_overlaps segments (take k events) entries served.holds segment.x0 before event.place segment refl some (begun_before segments points events queue k event inside is event.place segment same) none' in
        subst (λ done. Served segments points done entries' answers) (sym (one_more queue k event inside is))
        (record {
          holds = Holds-begun segments (take k events) entries served.holds segment.x0 before event (ap (λ (e : Event). e.x) same) event.place segment stands same entries' gains';
          free = λ placed stands' begun.
              ⊎_elim (served.free placed stands')
              (λ here found.
              let both = sym same ∙ here in
              let place : event.place ≡ placed.0 = ap (λ (e : Event). e.place) both in
              let this : segment ≡ placed.1 = one_item segments event.place placed.0 segment placed.1 place stands stands' in
              alone (subst (λ p. Overlaps segments (p, segment)) (sym place) (subst (λ s. Overlaps segments (placed.0, s)) (sym this) found)))
              (Contains-push_cases (take k events) event (beginning_of placed.0 placed.1) begun);
          answered = Answered-other (IsHeightBelow segments) None points (take k events) answers served.answered event (apart begins);
        })

    -- the point at the event's place is answered
    pub Served-answered : (d : Point) → event.task ≡ Answer → (value : Option ℤ)
        → AtMost cmp_levels (live_entries (get_or points event.place d).x entries) (λ level. int_cmp level.y (get_or points event.place d).y) None value
        → Without (HasEnded (get_or points event.place d).x) entries entries'
        → Served segments points (take (k + 1) events) entries' (set answers event.place value)
    Served-answered d answers_now value at_most without =
        subst (λ done. Served segments points done entries' (set answers event.place value)) (sym (one_more queue k event inside is))
        (record {
          holds = Holds-answered segments (take k events) entries served.holds point.x before event (ap (λ (e : Event). e.x) same) entries' without'
              (λ placed begins. apart (ap (λ (e : Event). e.task) begins) answers_now);
          free = λ placed stands' begun.
              ⊎_elim (served.free placed stands')
              (λ here. absurd (apart (ap (λ (e : Event). e.task) here) answers_now))
              (Contains-push_cases (take k events) event (beginning_of placed.0 placed.1) begun);
          answered = Answered-set (IsHeightBelow segments) None points (take k events) answers served.answered event point value stands right;
        })
      where
        whose : (point : Point) × StandsAt points event.place point × (event ≡ answering_of event.place point)
        whose = answers_of segments points events queue k event inside is answers_now

        point : Point
        point = whose.0

        stands : StandsAt points event.place point
        stands = whose.1

        same : event ≡ answering_of event.place point
        same = whose.2

        one : get_or points event.place d ≡ point
        one = one_item points event.place event.place (get_or points event.place d) point refl (StandsAt-read points event.place d stands.0) stands

        before : All (λ (other : Event). other.x ≤ℤ point.x) (take k events)
        before = subst (λ x. All (λ (other : Event). other.x ≤ℤ x) (take k events)) (ap (λ (e : Event). e.x) same) (none_behind queue k event inside is)

        without' : Without (HasEnded point.x) entries entries'
        without' = subst (λ (p : Point). Without (HasEnded p.x) entries entries') one without

        right : IsHeightBelow segments point value
        right = IsHeightBelow-at_most segments (take k events) entries served.holds point.x before point refl (begun_upto segments points events queue k event inside is event.place point same) value
            (subst (λ (p : Point). AtMost cmp_levels (live_entries p.x entries) (λ level. int_cmp level.y p.y) None value) one at_most)
