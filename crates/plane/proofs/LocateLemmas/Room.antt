-- The status holds no more edges than have begun, so that where it has room for all of them it refuses none.
use Rattle.std.proofs.Common.{◌≡◌, ℕ, ◌≤◌, ◌<◌, ◌+◌, List, [], ◌∷◌, cond, length, get_or, pos, take, ap, ◌∙◌, subst, arith}
use Rattle.std.proofs.lemmas.List.{get_or_default, length-append}
use Rattle.i_tree.specs.Root.Change.{Without}
use Rattle.i_tree.specs.Root.Change.Without.{none, keeps, loses}
use Rattle.event_queue.specs.declared.Event.{Event}
use Rattle.event_queue.specs.declared.Task.{Task}
use Rattle.event_queue.specs.declared.Task.TheVariants.{End, Begin}
use Rattle.event_queue.proofs.QueueLemmas.Begins.{begun, begun-before, begun-more, is_begin}
use Rattle.plane.specs.declared.edge.Edge.{Edge}
use Rattle.plane.specs.declared.point.Point.{Point}
use Rattle.plane.specs.declared.locate.read_ahead.Payload.{Payload}
use Rattle.plane.specs.declared.locate.read_ahead.Payload.TheVariants.{Begins}
use Rattle.plane.specs.Locate.Events.{IsQueue, answer_x, begin_x, end_x}
use Rattle.plane.specs.Locate.Payloads.{IsPayloadOf, IsPayloadAt}
use Rattle.plane.specs.SweepLine.Active.{Entry}
use Rattle.plane.specs.SweepLine.Line.{JoinsAt}
use Rattle.plane.specs.declared.sweep_line.active.ActiveEdge.{ActiveEdge}

pub length-without : {X : Type 0} {MayGo : X → Type 0} {before after : List X} → Without MayGo before after → length after ≤ length before
length-without none = omega arith
length-without (keeps x rest) = let rest_le = length-without rest in omega (arith, rest_le)
length-without (loses x goes rest) = let rest_le = length-without rest in omega (arith, rest_le)

-- what the status holds is no more than have begun
abbrev pub HoldsBegun : List Event → List Entry → Type 0
HoldsBegun done stored = length stored ≤ begun done

-- before the first event
pub HoldsBegun-nothing : (stored : List Entry) → stored ≡ [] → HoldsBegun [] stored
HoldsBegun-nothing stored empty = let none = ap length empty in omega (arith, none)

module _ (edges : List Edge) (points : List Point) (events : List Event) (queue : IsQueue edges points events) (k : ℕ) (inside : k < length events)
    (stored : List Entry) (holds : HoldsBegun (take k events) stored) (payload : Payload) (is_payload : IsPayloadAt edges points events k payload) where
  abbrev nothing : Event
  nothing = record { x = pos 0; task = End; place = 0 }

  abbrev event : Event
  event = get_or events k nothing

  here : event ≡ get_or events k event
  here = get_or_default events k nothing event inside

  -- where some may have gone
  pub HoldsBegun-without : (MayGo : Entry → Type 0) (after : List Entry) → Without MayGo stored after → HoldsBegun (take (k + 1) events) after
  HoldsBegun-without MayGo after kept = omega (arith, holds, length-without kept, begun-more events k event inside here)

  module _ (active : ActiveEdge) (is : payload ≡ Begins active) where
    begins : event.task ≡ Begin
    begins = (subst (IsPayloadOf edges points event) is (is_payload nothing)).0

    -- with one more there are no more than edges
    pub one_more : length stored + 1 ≤ length edges
    one_more = omega (arith, holds, begun-before end_x begin_x answer_x edges points events queue k event inside here begins)

    -- there is room for one more
    pub room_at_begin : (room : ℕ) → length edges ≤ room → length stored < room
    room_at_begin room enough = omega (arith, enough, one_more)

    pub HoldsBegun-joins : (after : List Entry) → JoinsAt active.edge.x0 (active, tt) stored after → HoldsBegun (take (k + 1) events) after
    HoldsBegun-joins after joins =
        let more : begun (take (k + 1) events) ≡ begun (take k events) + 1 = begun-more events k event inside here ∙ ap (λ (task : Task). begun (take k events) + cond (is_begin task) 1 0) begins in
        let place = ap length joins.place in
        omega (arith, more, holds, length-without joins.kept, place, length-append joins.front joins.back, length-append joins.front ((active, tt) ∷ joins.back))
