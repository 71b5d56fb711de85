-- The next event of a sweep by columns: whose it is, what is done before it, and the moments of events.
use Rattle.std.proofs.Common.{◌≡◌, ◌≢◌, inl, inr, ℕ, ◌<◌, ◌≤ℤ◌, ◌<ℤ◌, List, length, get_or, take, refl, sym, ◌∙◌, subst, arith}
use Rattle.std.specs.List.{Contains}
use Rattle.std.proofs.lemmas.Int.{ints, by_lt_z}
use Rattle.event_queue.specs.Queue.{StandsAt, ComesBeforeAt, IsDoneAt, Precedes, event_at}
use Rattle.event_queue.specs.declared.Event.{Event}
use Rattle.event_queue.specs.declared.Task.{Task}
use Rattle.event_queue.specs.declared.Task.TheVariants.{End, Begin, Answer}
use Rattle.event_queue.proofs.QueueLemmas.Done.{done_before, end-precedes, event_is, event_is_at, never_both, precedes, upto-precedes}
use Rattle.event_queue.proofs.QueueLemmas.Places.{StandsAt-read}
use Rattle.plane.specs.declared.edge.Edge.{Edge}
use Rattle.plane.specs.declared.columns.Asked.{Asked}
use Rattle.plane.specs.declared.sweep_line.active.ActiveEdge.{ActiveEdge}
use Rattle.plane.specs.Columns.Moments.{at_column}
use Rattle.plane.specs.Columns.Sweep.{IsEventOf, IsNext, IsQueue, asked_x, moment_at, moment_of}
use Rattle.plane.specs.Locate.Events.{CoversSome, begin_x, end_x}
use Rattle.plane.specs.SweepLine.Begun.{HasEnded, IsOneOf, begin_at, begin_of, end_at, end_of}
use Rattle.plane.specs.SweepLine.Heights.{rightwards}
use Rattle.plane.proofs.LocateLemmas.Begun.{edge_at, is_one_of}
use Rattle.plane.proofs.LocateLemmas.Events.{covering, covers, same_x}

-- ---- moments

pub moment_upto : (first second : Event) → Precedes first second → moment_of first ≤ℤ moment_of second
moment_upto first second (inl less) = later first.task second.task
  where
    later : (t u : Task) → moment_at first.x t ≤ℤ moment_at second.x u
    later End End = omega (arith, ints, less)
    later End Begin = omega (arith, ints, less)
    later End Answer = omega (arith, ints, less)
    later Begin End = omega (arith, ints, less)
    later Begin Begin = omega (arith, ints, less)
    later Begin Answer = omega (arith, ints, less)
    later Answer End = omega (arith, ints, less)
    later Answer Begin = omega (arith, ints, less)
    later Answer Answer = omega (arith, ints, less)
moment_upto first second (inr (same, at)) = at_one first.task first.place second.task second.place at
  where
    at_one : (t : Task) (i : ℕ) (u : Task) (j : ℕ) → ComesBeforeAt t i u j → moment_at first.x t ≤ℤ moment_at second.x u
    at_one End i End j before = omega (arith, ints, same)
    at_one End i Begin j before = omega (arith, ints, same)
    at_one End i Answer j before = omega (arith, ints, same)
    at_one Begin i End j before = absurd before
    at_one Begin i Begin j before = omega (arith, ints, same)
    at_one Begin i Answer j before = omega (arith, ints, same)
    at_one Answer i End j before = absurd before
    at_one Answer i Begin j before = absurd before
    at_one Answer i Answer j before = omega (arith, ints, same)

-- ---- whose an event is

module _ (edges : List Edge) (asked : List Asked) where
  module _ (active : ActiveEdge) (one : IsOneOf edges active) where
    covers_some : CoversSome one.edge
    covers_some = subst (λ (edge : Edge). edge.x0 <ℤ edge.x1) one.same one.onwards

    pub begin_known : IsEventOf edges asked (begin_of active)
    begin_known =
        subst (λ (edge : Edge). IsEventOf edges asked (begin_at active.place edge)) (sym one.same)
        (one.edge, one.stands, covering one.edge (rightwards one.edge).x0 covers_some)

    pub end_known : IsEventOf edges asked (end_of active)
    end_known =
        subst (λ (edge : Edge). IsEventOf edges asked (end_at active.place edge)) (sym one.same)
        (one.edge, one.stands, covering one.edge (rightwards one.edge).x1 covers_some)

  pub answer_known : (place : ℕ) (what : Asked) → StandsAt asked place what → IsEventOf edges asked (event_at what.x Answer place)
  answer_known place what stands = (what, stands, refl)

  module _ (event : Event) (is : IsEventOf edges asked event) where
    with_task : (task : Task) → event.task ≡ task → IsDoneAt end_x begin_x asked_x edges asked event.x task event.place
    with_task task same = subst (λ (t : Task). IsDoneAt end_x begin_x asked_x edges asked event.x t event.place) same is

    pub ends_of : event.task ≡ End → (active : ActiveEdge) × IsOneOf edges active × (active.place ≡ event.place) × (event ≡ end_of active)
    ends_of ends =
        let (edge, stands, has) = with_task End ends in
        let active : ActiveEdge = record { edge = rightwards edge; place = event.place } in (
          active,
          record { edge = edge; stands = stands; same = refl; onwards = covers edge (rightwards edge).x1 event.x has },
          refl,
          event_is_at event (rightwards edge).x1 End (sym (same_x edge (rightwards edge).x1 event.x has)) ends,
        )

    pub begins_of : event.task ≡ Begin → (active : ActiveEdge) × IsOneOf edges active × (active.place ≡ event.place) × (event ≡ begin_of active)
    begins_of begins =
        let (edge, stands, has) = with_task Begin begins in
        let active : ActiveEdge = record { edge = rightwards edge; place = event.place } in (
          active,
          record { edge = edge; stands = stands; same = refl; onwards = covers edge (rightwards edge).x0 event.x has },
          refl,
          event_is_at event (rightwards edge).x0 Begin (sym (same_x edge (rightwards edge).x0 event.x has)) begins,
        )

    -- the edge at the place of a begin, turned to the right
    pub IsOneOf-begins : event.task ≡ Begin → (active : ActiveEdge) (d : Edge) → active.edge ≡ rightwards (get_or edges event.place d) → active.place ≡ event.place → IsOneOf edges active
    IsOneOf-begins begins active d edge_is place_is =
        let (edge, stands, has) = with_task Begin begins in
        is_one_of edges active event.place edge stands (covers edge (rightwards edge).x0 event.x has) (edge_at edges active event.place edge d stands edge_is) place_is

    -- what is asked at the place of an answer
    pub StandsAt-answers : event.task ≡ Answer → (d : Asked) → StandsAt asked event.place (get_or asked event.place d)
    StandsAt-answers answers d = let (what, stands, has) = with_task Answer answers in StandsAt-read asked event.place d stands.0

    pub answers_of : event.task ≡ Answer → (what : Asked) × StandsAt asked event.place what × (event ≡ event_at what.x Answer event.place)
    answers_of answers =
        let (what, stands, has) = with_task Answer answers in
        let x : event.x ≡ what.x = cc in
        (what, stands, event_is_at event what.x Answer x answers)

  -- ---- the next event

  module _ (done : List Event) (event : Event) (next : IsNext edges asked done event) where
    -- it isn't done
    pub not_done : ¬ (Contains done event)
    not_done has = let itself = next.behind event has in never_both event event itself itself

    -- what hasn't ended lives at its moment
    pub lives_still : (active : ActiveEdge) → IsOneOf edges active → ¬ (HasEnded done active) → moment_of event ≤ℤ at_column active.edge.x1
    lives_still active one not_ended = at_task event.task refl
      where
        not_before : ¬ (Precedes (end_of active) event)
        not_before first = not_ended (next.before (end_of active) (end_known active one) first)

        upto : event.x ≤ℤ active.edge.x1
        upto = by_lt_z active.edge.x1 event.x (λ before. absurd (not_before (inl before))) (λ from. from)

        before_end : event.task ≢ End → event.x <ℤ active.edge.x1
        before_end other = by_lt_z event.x active.edge.x1 (λ before. before) (λ from. absurd (not_before (end-precedes active.edge.x1 active.place event other from)))

        at_task : (t : Task) → event.task ≡ t → moment_at event.x event.task ≤ℤ at_column active.edge.x1
        at_task End is = rw is (omega (arith, ints, upto))
        at_task Begin is = let before = before_end (λ end. let both : Begin ≡ End = sym is ∙ end in cc) in rw is (omega (arith, ints, before))
        at_task Answer is = let before = before_end (λ end. let both : Answer ≡ End = sym is ∙ end in cc) in rw is (omega (arith, ints, before))

    -- what has ended did so at an x up to its own
    pub ended_upto : (active : ActiveEdge) → HasEnded done active → active.edge.x1 ≤ℤ event.x
    ended_upto active has = upto-precedes (end_of active) event (next.behind (end_of active) has)

-- each event of the queue is the next, where those before it are done
pub IsNext-queue : (edges : List Edge) (asked : List Asked) (events : List Event) → IsQueue edges asked events → (k : ℕ) (event : Event) → k < length events → event ≡ get_or events k event → IsNext edges asked (take k events) event
IsNext-queue edges asked events queue k event inside is = record {
  is = event_is queue k event inside is;
  before = λ other of first. done_before queue k event inside is other of first;
  behind = λ other has. precedes queue k event inside is other has;
}
