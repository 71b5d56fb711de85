-- The events of a sweep over horizontal segments. For the private contracts of `below`.
use Rattle.std.specs.Prelude.{ℤ, ℕ, List, Option, Some, None, cond}
use Rattle.std.specs.Int.Signed.{lt_z}
use Rattle.event_queue.specs.Queue.{event_at, IsEventQueue}
use Rattle.event_queue.specs.Queue as queue
use Rattle.event_queue.specs.declared.Event.{Event}
use Rattle.event_queue.specs.declared.Task.TheVariants.{Begin, Answer}
use Rattle.horizontal.specs.declared.Point.{Point}
use Rattle.horizontal.specs.declared.Segment.{Segment}

-- where the segment begins, or none where it covers nothing; where its end is served, which is nowhere: its level expires; and
-- where the point is answered
abbrev pub begin_x : Segment → Option ℤ
begin_x segment = cond (lt_z segment.x1 segment.x0) None (Some segment.x0)

abbrev pub end_x : Segment → Option ℤ
end_x segment = None

abbrev pub answer_x : Point → Option ℤ
answer_x point = Some point.x

-- the event at which the segment begins, and that at which the point is answered
abbrev pub beginning_of : ℕ → Segment → Event
beginning_of place segment = event_at segment.x0 Begin place

abbrev pub answering_of : ℕ → Point → Event
answering_of place point = event_at point.x Answer place

-- the event is that of a segment that covers something, or that of a point
abbrev pub IsEventOf : List Segment → List Point → Event → Type 0
IsEventOf segments points event = queue.IsEventOf end_x begin_x answer_x segments points event

-- the events are those of all segments that cover something, and of all points, each once, and in order
abbrev pub IsQueue : List Segment → List Point → List Event → Type 0
IsQueue segments points events = IsEventQueue (IsEventOf segments points) events
