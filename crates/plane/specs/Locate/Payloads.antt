-- The payloads of the events of the sweep, and which of them are read ahead. For the private contracts of `locate`.
use Rattle.std.specs.Prelude.{◌≡◌, ℕ, ◌<◌, ◌+◌, List, length, get_or}
use Rattle.plane.specs.declared.edge.Edge.{Edge}
use Rattle.plane.specs.declared.point.Point.{Point}
use Rattle.plane.specs.declared.locate.read_ahead.Payload.{Payload}
use Rattle.plane.specs.declared.locate.read_ahead.Payload.TheVariants.{Ends, Begins, Asks}
use Rattle.event_queue.specs.declared.Event.{Event}
use Rattle.event_queue.specs.declared.Task.{Task}
use Rattle.event_queue.specs.declared.Task.TheVariants.{End, Begin, Answer}
use Rattle.plane.specs.declared.sweep_line.active.ActiveEdge.{ActiveEdge}
use Rattle.plane.specs.SweepLine.Heights.{rightwards}
use Rattle.event_queue.specs.Queue.{StandsAt}

-- there is an edge, or a point, at this place, as the task says
abbrev pub IsPlaceFor : List Edge → List Point → Task → ℕ → Type 0
IsPlaceFor edges points End place = place < length edges
IsPlaceFor edges points Begin place = place < length edges
IsPlaceFor edges points Answer place = place < length points

abbrev pub HasItem : List Edge → List Point → Event → Type 0
HasItem edges points event = IsPlaceFor edges points event.task event.place

-- the active is that of the edge at this place
abbrev pub IsActiveAt : List Edge → ℕ → ActiveEdge → Type 0
IsActiveAt edges place active =
    (edge : Edge) × StandsAt edges place edge × (active.edge ≡ rightwards edge) × (active.place ≡ place)

-- this is the payload of the event
abbrev pub IsPayloadOf : List Edge → List Point → Event → Payload → Type 0
IsPayloadOf edges points event (Ends active) = (event.task ≡ End) × IsActiveAt edges event.place active
IsPayloadOf edges points event (Begins active) = (event.task ≡ Begin) × IsActiveAt edges event.place active
IsPayloadOf edges points event (Asks place point) = (event.task ≡ Answer) × (place ≡ event.place) × StandsAt points event.place point

-- this is the payload of the event at this place
abbrev pub IsPayloadAt : List Edge → List Point → List Event → ℕ → Payload → Type 0
IsPayloadAt edges points events place payload = (event : Event) → IsPayloadOf edges points (get_or events place event) payload

-- these are the payloads of the events from a place on
abbrev pub IsReadAhead : List Edge → List Point → List Event → ℕ → List Payload → Type 0
IsReadAhead edges points events from payloads =
    (i : ℕ) (payload : Payload) → i < length payloads → IsPayloadAt edges points events (from + i) (get_or payloads i payload)
