-- Edges of a sweep whose begin is done, and whether their end is.
use Rattle.std.specs.Prelude.{◌≡◌, ℕ, ◌<ℤ◌, List, Contains}
use Rattle.event_queue.specs.Queue.{StandsAt}
use Rattle.event_queue.specs.declared.Event.{Event}
use Rattle.event_queue.specs.declared.Task.TheVariants.{End, Begin}
use Rattle.plane.specs.declared.edge.Edge.{Edge}
use Rattle.plane.specs.declared.sweep_line.active.ActiveEdge.{ActiveEdge}
use Rattle.plane.specs.SweepLine.Heights.{rightwards}

-- the events at which an edge that goes to the right begins and ends
abbrev pub begin_at : ℕ → Edge → Event
begin_at place edge = record { x = edge.x0; task = Begin; place = place }

abbrev pub end_at : ℕ → Edge → Event
end_at place edge = record { x = edge.x1; task = End; place = place }

abbrev pub begin_of : ActiveEdge → Event
begin_of active = begin_at active.place active.edge

abbrev pub end_of : ActiveEdge → Event
end_of active = end_at active.place active.edge

-- It is one of the edges, turned to the right.
pub record IsOneOf (edges : List Edge) (active : ActiveEdge) : Type 0 where
  pub edge : Edge
  pub stands : StandsAt edges active.place edge
  pub same : active.edge ≡ rightwards edge
  pub onwards : active.edge.x0 <ℤ active.edge.x1

-- It is one of the edges, and its begin is done.
pub record IsBegun (edges : List Edge) (done : List Event) (active : ActiveEdge) : Type 0 where
  pub one : IsOneOf edges active
  pub begun : Contains done (begin_of active)

-- its end is done
abbrev pub HasEnded : List Event → ActiveEdge → Type 0
HasEnded done active = Contains done (end_of active)
