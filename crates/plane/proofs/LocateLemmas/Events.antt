-- Whose the events of the sweep among edges are.
use Rattle.std.proofs.Common.{◌≡◌, ℕ, ◌<◌, ℤ, ◌≤ℤ◌, ◌<ℤ◌, true, false, List, Some, None, length, get_or, refl, sym, ◌∙◌, subst, arith}
use Rattle.std.specs.Int.Signed.{lt_z}
use Rattle.std.proofs.lemmas.Int.{ints, by_lt_z}
use Rattle.event_queue.specs.Queue.{StandsAt, IsDoneAt}
use Rattle.event_queue.specs.declared.Event.{Event}
use Rattle.event_queue.specs.declared.Task.{Task}
use Rattle.event_queue.specs.declared.Task.TheVariants.{End, Begin, Answer}
use Rattle.event_queue.proofs.QueueLemmas.Done.{event_is, event_is_at}
use Rattle.plane.specs.declared.edge.Edge.{Edge}
use Rattle.plane.specs.declared.point.Point.{Point}
use Rattle.plane.specs.Locate.Events.{CoversSome, if_covering, end_x, begin_x, answer_x, ending_of, beginning_of, answering_of, IsEventOf, IsQueue}
use Rattle.plane.specs.SweepLine.Heights.{rightwards}

less : (a b : ℤ) → a <ℤ b → lt_z a b ≡ true
less a b below = grind (arith, ints)

not_less : (a b : ℤ) → b ≤ℤ a → lt_z a b ≡ false
not_less a b upto = grind (arith, ints)

-- where the edge covers something it has the x
pub covering : (edge : Edge) (x : ℤ) → CoversSome edge → if_covering edge x ≡ Some x
covering edge x some = rw (less (rightwards edge).x0 (rightwards edge).x1 some) refl

-- and else none
pub covers : (edge : Edge) (x y : ℤ) → if_covering edge x ≡ Some y → CoversSome edge
covers edge x y is =
    by_lt_z (rightwards edge).x0 (rightwards edge).x1 (λ some. some)
    (λ narrow. let none : None ≡ Some y = sym (rw (not_less (rightwards edge).x0 (rightwards edge).x1 narrow) refl) ∙ is in cc)

pub same_x : (edge : Edge) (x y : ℤ) → if_covering edge x ≡ Some y → x ≡ y
same_x edge x y is = let both : Some x ≡ Some y = sym (covering edge x (covers edge x y is)) ∙ is in cc

module _ (edges : List Edge) (points : List Point) where
  -- an edge that covers something has its events, and a point its own
  pub is_ending : (place : ℕ) (edge : Edge) → StandsAt edges place edge → CoversSome edge → IsEventOf edges points (ending_of place edge)
  is_ending place edge stands some = (edge, stands, covering edge (rightwards edge).x1 some)

  pub is_beginning : (place : ℕ) (edge : Edge) → StandsAt edges place edge → CoversSome edge → IsEventOf edges points (beginning_of place edge)
  is_beginning place edge stands some = (edge, stands, covering edge (rightwards edge).x0 some)

  pub is_answering : (place : ℕ) (point : Point) → StandsAt points place point → IsEventOf edges points (answering_of place point)
  is_answering place point stands = (point, stands, refl)

  module _ (events : List Event) (queue : IsQueue edges points events) (k : ℕ) (event : Event) (inside : k < length events) (is : event ≡ get_or events k event) where
    -- what is done at the event, where this is its task
    with_task : (task : Task) → event.task ≡ task → IsDoneAt end_x begin_x answer_x edges points event.x task event.place
    with_task task same = subst (λ (t : Task). IsDoneAt end_x begin_x answer_x edges points event.x t event.place) same (event_is queue k event inside is)

    -- whose event it is
    pub ends_of : event.task ≡ End → (edge : Edge) × StandsAt edges event.place edge × CoversSome edge × (event ≡ ending_of event.place edge)
    ends_of ends =
        let (edge, stands, has) = with_task End ends in
        (edge, stands, covers edge (rightwards edge).x1 event.x has, event_is_at event (rightwards edge).x1 End (sym (same_x edge (rightwards edge).x1 event.x has)) ends)

    pub begins_of : event.task ≡ Begin → (edge : Edge) × StandsAt edges event.place edge × CoversSome edge × (event ≡ beginning_of event.place edge)
    begins_of begins =
        let (edge, stands, has) = with_task Begin begins in
        (edge, stands, covers edge (rightwards edge).x0 event.x has, event_is_at event (rightwards edge).x0 Begin (sym (same_x edge (rightwards edge).x0 event.x has)) begins)

    pub answers_of : event.task ≡ Answer → (point : Point) × StandsAt points event.place point × (event ≡ answering_of event.place point)
    answers_of answers =
        let (point, stands, has) = with_task Answer answers in
        let x : event.x ≡ point.x = cc in
        (point, stands, event_is_at event point.x Answer x answers)
