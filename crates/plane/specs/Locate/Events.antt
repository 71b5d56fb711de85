-- The events of the sweep among edges. For the private contracts of `locate`.
use Rattle.std.specs.Prelude.{ℤ, ℕ, ◌<ℤ◌, List, Option, Some, None, cond}
use Rattle.std.specs.Int.Signed.{lt_z}
use Rattle.event_queue.specs.Queue.{event_at, IsEventQueue}
use Rattle.event_queue.specs.Queue as queue
use Rattle.event_queue.specs.declared.Event.{Event}
use Rattle.event_queue.specs.declared.Task.TheVariants.{End, Begin, Answer}
use Rattle.plane.specs.declared.edge.Edge.{Edge}
use Rattle.plane.specs.declared.point.Point.{Point}
use Rattle.plane.specs.SweepLine.Heights.{rightwards}

-- the edge covers some x
abbrev pub CoversSome : Edge → Type 0
CoversSome edge = (rightwards edge).x0 <ℤ (rightwards edge).x1

-- an x of the edge, or none where it covers none
abbrev pub if_covering : Edge → ℤ → Option ℤ
if_covering edge x = cond (lt_z (rightwards edge).x0 (rightwards edge).x1) (Some x) None

-- where the edge ends and begins, and where the point is answered
abbrev pub end_x : Edge → Option ℤ
end_x edge = if_covering edge (rightwards edge).x1

abbrev pub begin_x : Edge → Option ℤ
begin_x edge = if_covering edge (rightwards edge).x0

abbrev pub answer_x : Point → Option ℤ
answer_x point = Some point.x

-- the events at which the edge ends and begins, and that at which the point is answered
abbrev pub ending_of : ℕ → Edge → Event
ending_of place edge = event_at (rightwards edge).x1 End place

abbrev pub beginning_of : ℕ → Edge → Event
beginning_of place edge = event_at (rightwards edge).x0 Begin place

abbrev pub answering_of : ℕ → Point → Event
answering_of place point = event_at point.x Answer place

-- the event is that of an edge that covers something, or that of a point
abbrev pub IsEventOf : List Edge → List Point → Event → Type 0
IsEventOf edges points event = queue.IsEventOf end_x begin_x answer_x edges points event

-- the events are those of all edges that cover something, and of all points, each once, and in order
abbrev pub IsQueue : List Edge → List Point → List Event → Type 0
IsQueue edges points events = IsEventQueue (IsEventOf edges points) events
