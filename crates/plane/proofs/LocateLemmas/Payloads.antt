-- What is read ahead are the payloads of the events of a queue, and how that of the next one is served.
use Rattle.std.proofs.Common.{◌≡◌, inl, inr, ℕ, ◌<◌, ◌+◌, ℤ, pos, ◌<ℤ◌, List, [], ◌∷◌, ◌++◌, Option, Some, length, get_or, set, take, sym, ap, ◌∙◌, subst, arith}
use Rattle.std.specs.List.{All, AllPairs}
use Rattle.std.specs.declared.cmp.Ordering.TheVariants.{Less}
use Rattle.std.proofs.lemmas.Bool.{cases_lt}
use Rattle.std.proofs.lemmas.List.{get_or_append_left, get_or_default, get_or_push, length-append}
use Rattle.i_tree.specs.Root.Along.{AreNeighbours, IsMonotoneAlong}
use Rattle.i_tree.specs.Root.Change.{Without}
use Rattle.plane.specs.declared.edge.Edge.{Edge}
use Rattle.plane.specs.declared.locate.read_ahead.Payload.{Payload}
use Rattle.plane.specs.declared.locate.read_ahead.Payload.TheVariants.{Ends, Begins, Asks}
use Rattle.event_queue.specs.declared.Event.{Event}
use Rattle.event_queue.specs.declared.Task.{Task}
use Rattle.event_queue.specs.declared.Task.TheVariants.{End, Begin, Answer}
use Rattle.plane.specs.declared.point.Point.{Point}
use Rattle.plane.specs.declared.sweep_line.active.ActiveEdge.{ActiveEdge}
use Rattle.plane.specs.SweepLine.Crossings.{IsCrossing}
use Rattle.plane.specs.Locate.Payloads.{IsPlaceFor, HasItem, IsPayloadOf, IsPayloadAt, IsReadAhead}
use Rattle.plane.specs.SweepLine.Heights.{rightwards}
use Rattle.event_queue.specs.Queue.{StandsAt}
use Rattle.event_queue.specs.Queue.{IsDoneAt}
use Rattle.plane.specs.Locate.Events.{IsQueue, answer_x, begin_x, end_x}
use Rattle.plane.specs.SweepLine.Line.{BeganBefore, IsSortedAt, JoinsAt}
use Rattle.plane.specs.Locate.Serving.{HaveCrossing, IsPlaceUnder}
use Rattle.plane.specs.SweepLine.Active.{Entry, cmp_active, cmp_to_ending, live_entries, IsExpiredAt, NotCross}
use Rattle.plane.proofs.LocateLemmas.Answering.{point_requires, Swept-answered}
use Rattle.plane.proofs.LocateLemmas.Beginning.{begin_sorted, begin_last, begin_onwards, begin_crossing, Swept-begun}
use Rattle.plane.proofs.LocateLemmas.Ending.{end_requires, end_onwards, end_live_onwards, end_order, end_crossing, Swept-ended}
use Rattle.plane.proofs.LocateLemmas.Swept.{Swept}

-- what the lists are read by where they end
abbrev nothing : Event
nothing = record { x = pos 0; task = End; place = 0 }

-- ---- what is read

-- each event of a queue has its edge or its point
pub has_item : (edges : List Edge) (points : List Point) (events : List Event) → IsQueue edges points events → (k : ℕ) (d : Event) → k < length events → HasItem edges points (get_or events k d)
has_item edges points events queue k d inside = let event = get_or events k d in by_task event.x event.task event.place (queue.of k d inside)
  where
    by_task : (x : ℤ) (task : Task) (place : ℕ) → IsDoneAt end_x begin_x answer_x edges points x task place → IsPlaceFor edges points task place
    by_task x End place (edge, stands, has) = stands.0
    by_task x Begin place (edge, stands, has) = stands.0
    by_task x Answer place (point, stands, has) = stands.0

-- the payload of an event of a list, whatever the list is read by where it ends
pub payload_at : (edges : List Edge) (points : List Point) (events : List Event) (k : ℕ) (d : Event) (payload : Payload) → k < length events → IsPayloadOf edges points (get_or events k d) payload → IsPayloadAt edges points events k payload
payload_at edges points events k d payload inside is_payload e =
    subst (λ (event : Event). IsPayloadOf edges points event payload) (get_or_default events k d e inside) is_payload

-- the payload of the next event joins what is read
pub IsReadAhead-push : (edges : List Edge) (points : List Point) (events : List Event) (from : ℕ) (payloads : List Payload) (next : ℕ) (payload : Payload)
    → from + length payloads ≡ next → IsReadAhead edges points events from payloads → IsPayloadAt edges points events next payload → IsReadAhead edges points events from (payloads ++ payload ∷ [])
IsReadAhead-push edges points events from payloads next payload at ahead is_payload i d within = elim (cases_lt i (length payloads)) [
  | inl before ↦ subst (IsPayloadAt edges points events (from + i)) (sym (get_or_append_left payloads (payload ∷ []) d i before)) (ahead i d before)
  | inr behind ↦
      let last : length payloads ≡ i = omega (arith, behind, within, length-append payloads (payload ∷ [])) in
      let here : next ≡ from + i = omega (arith, at, last) in
      subst (IsPayloadAt edges points events (from + i)) (sym (get_or_push payloads payload d i last)) (subst (λ (k : ℕ). IsPayloadAt edges points events k payload) here is_payload)
]

-- ---- what is served

module _ (edges : List Edge) (points : List Point) (events : List Event) (queue : IsQueue edges points events) (k : ℕ) (inside : k < length events)
    (stored : List Entry) (answers : List (Option ℕ)) (swept : Swept edges points (take k events) stored answers) (payload : Payload) (is_payload : IsPayloadAt edges points events k payload) where
  abbrev event : Event
  event = get_or events k nothing

  here : event ≡ get_or events k event
  here = get_or_default events k nothing event inside

  this : (known : Payload) → payload ≡ known → IsPayloadOf edges points event known
  this known is = subst (IsPayloadOf edges points event) is (is_payload nothing)

  of_edge : (active : ActiveEdge) (edge : Edge) → StandsAt edges event.place edge → active.edge ≡ rightwards edge → active.edge ≡ rightwards (get_or edges event.place edge)
  of_edge active edge stands same = same ∙ ap rightwards (sym stands.1)

  module _ (active : ActiveEdge) (is : payload ≡ Ends active) where
    pub ends_requires : IsMonotoneAlong (cmp_to_ending active) (live_entries active.edge.x1 stored)
    ends_requires =
        let (ends, (edge, stands, same, place)) = this (Ends active) is in
        end_requires edges points events queue k event inside here stored answers swept edge ends active (of_edge active edge stands same) place

    pub ends_onwards : active.edge.x0 <ℤ active.edge.x1
    ends_onwards =
        let (ends, (edge, stands, same, place)) = this (Ends active) is in
        end_onwards edges points events queue k event inside here stored answers swept edge ends active (of_edge active edge stands same) place

    pub ends_live_onwards : All (λ entry. entry.0.edge.x0 <ℤ entry.0.edge.x1) (live_entries active.edge.x1 stored)
    ends_live_onwards =
        let (ends, (edge, stands, same, place)) = this (Ends active) is in
        end_live_onwards edges points events queue k event inside here stored answers swept edge ends active (of_edge active edge stands same) place

    pub ends_order : AllPairs (λ one other. cmp_active one.0 other.0 ≡ Less) (live_entries active.edge.x1 stored)
    ends_order =
        let (ends, (edge, stands, same, place)) = this (Ends active) is in
        end_order edges points events queue k event inside here stored answers swept edge ends active (of_edge active edge stands same) place

    pub ends_crossing : (i j : ℕ) → HaveCrossing (live_entries active.edge.x1 stored) i j → IsCrossing edges i j
    ends_crossing =
        let (ends, (edge, stands, same, place)) = this (Ends active) is in
        end_crossing edges points events queue k event inside here stored answers swept edge ends active (of_edge active edge stands same) place

    pub Swept-ends : (after : List Entry) (found : Option Entry × Option Entry) → AreNeighbours (cmp_to_ending active) (live_entries active.edge.x1 stored) found → NotCross found.0 found.1
        → Without (IsExpiredAt active.edge.x1) stored after → Swept edges points (take (k + 1) events) after answers
    Swept-ends =
        let (ends, (edge, stands, same, place)) = this (Ends active) is in
        Swept-ended edges points events queue k event inside here stored answers swept edge ends active (of_edge active edge stands same) place

  module _ (active : ActiveEdge) (is : payload ≡ Begins active) where
    pub begins_sorted : IsSortedAt active.edge.x0 (live_entries active.edge.x0 stored)
    begins_sorted =
        let (begins, (edge, stands, same, place)) = this (Begins active) is in
        begin_sorted edges points events queue k event inside here stored answers swept edge begins active (of_edge active edge stands same) place

    pub begins_last : All (λ entry. BeganBefore entry.0 active) (live_entries active.edge.x0 stored)
    begins_last =
        let (begins, (edge, stands, same, place)) = this (Begins active) is in
        begin_last edges points events queue k event inside here stored answers swept edge begins active (of_edge active edge stands same) place

    pub begins_onwards : active.edge.x0 <ℤ active.edge.x1
    begins_onwards =
        let (begins, (edge, stands, same, place)) = this (Begins active) is in
        begin_onwards edges points events queue k event inside here stored answers swept edge begins active (of_edge active edge stands same) place

    pub begins_crossing : (i j : ℕ) → HaveCrossing ((active, tt) ∷ live_entries active.edge.x0 stored) i j → IsCrossing edges i j
    begins_crossing =
        let (begins, (edge, stands, same, place)) = this (Begins active) is in
        begin_crossing edges points events queue k event inside here stored answers swept edge begins active (of_edge active edge stands same) place

    pub Swept-begins : (after : List Entry) (found : Option Entry × Option Entry) → AreNeighbours (λ other. cmp_active other active) (live_entries active.edge.x0 stored) found
        → NotCross found.0 (Some (active, tt)) → NotCross (Some (active, tt)) found.1 → JoinsAt active.edge.x0 (active, tt) stored after
        → Swept edges points (take (k + 1) events) after answers
    Swept-begins =
        let (begins, (edge, stands, same, place)) = this (Begins active) is in
        Swept-begun edges points events queue k event inside here stored answers swept edge begins active (of_edge active edge stands same) place

  module _ (place : ℕ) (point : Point) (is : payload ≡ Asks place point) where
    pub asks_requires : IsSortedAt point.x (live_entries point.x stored)
    asks_requires =
        let (asks, at, stands) = this (Asks place point) is in
        subst (λ (p : Point). IsSortedAt p.x (live_entries p.x stored)) stands.1
        (point_requires edges points events queue k event inside here stored answers swept point asks)

    -- it has room among the answers
    pub asks_inside : place < length answers
    asks_inside =
        let (asks, at, stands) = this (Asks place point) is in
        omega (arith, at, stands.0, swept.answered.room)

    pub Swept-asks : (after : List Entry) (told : Option ℕ) → IsPlaceUnder point (live_entries point.x stored) told → Without (IsExpiredAt point.x) stored after
        → Swept edges points (take (k + 1) events) after (set answers place told)
    Swept-asks after told tells kept =
        let (asks, at, stands) = this (Asks place point) is in
        subst (λ (q : ℕ). Swept edges points (take (k + 1) events) after (set answers q told)) (sym at)
        (Swept-answered edges points events queue k event inside here stored answers swept point asks after told
        (subst (λ (p : Point). IsPlaceUnder p (live_entries p.x stored) told) (sym stands.1) tells)
        (subst (λ (p : Point). Without (IsExpiredAt p.x) stored after) (sym stands.1) kept))
