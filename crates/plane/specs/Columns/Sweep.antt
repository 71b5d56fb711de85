-- The sweep by columns: exchanges that are put down, the order along the line, and what holds once some events are done. For the
-- private contracts of `columns`.
use Rattle.std.specs.Prelude.{◌≡◌, ◌≢◌, ◌⊎◌, ⊤, ℕ, ℤ, ◌+◌, ◌<◌, ◌≤◌, ◌≤ℤ◌, ◌<ℤ◌, List, ◌∷◌, All, AllPairs, Contains, IsPermutation, Option, Some, length}
use Rattle.event_queue.specs.Queue.{StandsAt, Precedes, event_at, IsEventQueue}
use Rattle.event_queue.specs.Queue as queue
use Rattle.event_queue.specs.declared.Event.{Event}
use Rattle.event_queue.specs.declared.Task.{Task}
use Rattle.event_queue.specs.declared.Task.TheVariants.{End, Begin, Answer}
use Rattle.plane.specs.declared.edge.Edge.{Edge}
use Rattle.plane.specs.declared.sweep_line.active.ActiveEdge.{ActiveEdge}
use Rattle.plane.specs.declared.columns.Asked.{Asked}
use Rattle.plane.specs.declared.columns.exchanges.Exchange.{Exchange}
use Rattle.plane.specs.Columns.Asked.{Reaches}
use Rattle.plane.specs.Columns.Moments.{IsAbove, IsFirstAbove, IsSteeper, at_column, behind_column, first_common, last_common}
use Rattle.plane.specs.Columns.Status.{Line}
use Rattle.plane.specs.Locate.Events.{begin_x, end_x}
use Rattle.plane.specs.Pairs.Sweep.{pair_of}
use Rattle.plane.specs.SweepLine.Begun.{IsOneOf, IsBegun, HasEnded}
use Rattle.plane.specs.SweepLine.Crossings.{Cross}
use Rattle.plane.specs.SweepLine.Line.{Adjacent}

-- ---- events

-- where it is asked
abbrev pub asked_x : Asked → Option ℤ
asked_x asked = Some asked.x

-- the event is that of an edge that covers something, or of what is asked
abbrev pub IsEventOf : List Edge → List Asked → Event → Type 0
IsEventOf edges asked event = queue.IsEventOf end_x begin_x asked_x edges asked event

-- the events are those of all edges that cover something, and of all that is asked, each once, and in order
abbrev pub IsQueue : List Edge → List Asked → List Event → Type 0
IsQueue edges asked events = IsEventQueue (IsEventOf edges asked) events

-- the moment at which this is done at x: an end at the column, all else just behind it
abbrev pub moment_at : ℤ → Task → ℤ
moment_at x End = at_column x
moment_at x Begin = behind_column x
moment_at x Answer = behind_column x

abbrev pub moment_of : Event → ℤ
moment_of event = moment_at event.x event.task

-- All that comes before the event is done, and what is done comes before it.
pub record IsNext (edges : List Edge) (asked : List Asked) (done : List Event) (event : Event) : Type 0 where
  pub is : IsEventOf edges asked event
  pub before : (other : Event) → IsEventOf edges asked other → Precedes other event → Contains done other
  pub behind : (other : Event) → Contains done other → Precedes other event

-- ---- exchanges

-- It is the earliest of the exchanges before, none of which is behind it, and the others are left.
pub record TakesEarliest (exchange : Exchange) (before after : List Exchange) : Type 0 where
  pub left : IsPermutation before (exchange ∷ after)
  pub earliest : All (λ other. exchange.moment ≤ℤ other.moment) before

-- the two, the one below the other, are never the wrong way round from the moment on while both live, or their first exchange is
-- put down
abbrev pub LooksAt : ActiveEdge → ActiveEdge → ℤ → List Exchange → List Exchange → Type 0
LooksAt lower upper from before after =
    ((after ≡ before) × ((moment : ℤ) → from ≤ℤ moment → moment ≤ℤ last_common lower.edge upper.edge → ¬ (IsAbove lower.edge upper.edge moment)))
    ⊎ ((exchange : Exchange) × IsPermutation (exchange ∷ before) after × (exchange.below ≡ lower.place) × (exchange.above ≡ upper.place) × IsFirstAbove lower.edge upper.edge from exchange.moment)

-- so of two that are next to each other, where both are there
abbrev pub LooksAtBoth : Option ActiveEdge → Option ActiveEdge → ℤ → List Exchange → List Exchange → Type 0
LooksAtBoth (Some lower) (Some upper) from before after = LooksAt lower upper from before after
LooksAtBoth _ _ from before after = after ≡ before

-- two that are next to each other, where both are there, live at the moment, and are the wrong way round there only where the one
-- below is steeper
abbrev pub CanLookAt : Option ActiveEdge → Option ActiveEdge → ℤ → Type 0
CanLookAt (Some lower) (Some upper) from =
    (lower.edge.x0 <ℤ lower.edge.x1) × (upper.edge.x0 <ℤ upper.edge.x1)
    × (first_common lower.edge upper.edge ≤ℤ from) × (from ≤ℤ last_common lower.edge upper.edge)
    × (IsAbove lower.edge upper.edge from → IsSteeper lower.edge upper.edge)
CanLookAt _ _ from = ⊤

-- either nothing is done, or one more pair is told and at most two more exchanges are put down
abbrev pub GoesOn : List (ℕ × ℕ) → List (ℕ × ℕ) → List Exchange → List Exchange → Type 0
GoesOn told told_after before after =
    ((told_after ≡ told) × (after ≡ before)) ⊎ ((length told_after ≡ length told + 1) × (length after ≤ length before + 2))

-- ---- the line

-- the pair of their places is told
abbrev pub AreTold : List (ℕ × ℕ) → ActiveEdge → ActiveEdge → Type 0
AreTold told one other = Contains told (pair_of one.place other.place)

-- Of two edges the one stands below the other since both live, and they aren't told; or since then they have been exchanged, for
-- good, and they are.
abbrev pub StandsBefore : List (ℕ × ℕ) → ℤ → ActiveEdge → ActiveEdge → Type 0
StandsBefore told moment lower upper =
    (lower.place ≢ upper.place)
    × (((¬ (IsAbove lower.edge upper.edge (first_common lower.edge upper.edge))) × (¬ (AreTold told lower upper)))
    ⊎ ((¬ (IsAbove upper.edge lower.edge (first_common upper.edge lower.edge))) × IsAbove upper.edge lower.edge moment × AreTold told lower upper))

-- whenever from the moment on the two are the wrong way round while both live, their exchange is put down for no later moment
abbrev pub IsAwaited : List Exchange → ℤ → ActiveEdge → ActiveEdge → Type 0
IsAwaited exchanges moment lower upper =
    (later : ℤ) → moment ≤ℤ later → later ≤ℤ last_common lower.edge upper.edge → IsAbove lower.edge upper.edge later
    → (exchange : Exchange) × Contains exchanges exchange × (exchange.below ≡ lower.place) × (exchange.above ≡ upper.place) × (exchange.moment ≤ℤ later)

-- The exchange is that of two of the edges, at a moment that is still to come, at which they are the wrong way round.
pub record IsDue (edges : List Edge) (moment : ℤ) (exchange : Exchange) : Type 0 where
  pub lower : ActiveEdge
  pub upper : ActiveEdge
  pub lower_one : IsOneOf edges lower
  pub upper_one : IsOneOf edges upper
  pub below : exchange.below ≡ lower.place
  pub above : exchange.above ≡ upper.place
  pub behind : moment ≤ℤ exchange.moment
  pub common : exchange.moment ≤ℤ last_common lower.edge upper.edge
  pub is_above : IsAbove lower.edge upper.edge exchange.moment

-- The pair is that of the places of two edges that have begun and cross, the lesser first.
pub record IsPairOfCrossing (edges : List Edge) (done : List Event) (pair : ℕ × ℕ) : Type 0 where
  pub one : ActiveEdge
  pub other : ActiveEdge
  pub begun : IsBegun edges done one
  pub other_begun : IsBegun edges done other
  pub first : pair.0 ≡ one.place
  pub second : pair.1 ≡ other.place
  pub rising : pair.0 < pair.1
  pub cross : Cross one.edge other.edge

-- it has begun and not ended, and is alive at the moment
abbrev pub IsActiveAt : List Edge → List Event → ℤ → ActiveEdge → Type 0
IsActiveAt edges done moment active =
    IsBegun edges done active × (¬ (HasEnded done active)) × (behind_column active.edge.x0 ≤ℤ moment) × (moment ≤ℤ at_column active.edge.x1)

-- The sweep has come to the moment, and these events are done. The line has the edges that have begun and not ended, in order but
-- for the exchanges that are due; what has ended is told with all that it crosses, and nothing is told that doesn't cross.
pub record IsSwept (edges : List Edge) (done : List Event) (moment : ℤ) (line : Line) (exchanges : List Exchange) (told : List (ℕ × ℕ)) : Type 0 where
  pub room : line.places ≡ length edges
  pub of : All (IsActiveAt edges done moment) line.edges
  pub each : (active : ActiveEdge) → IsBegun edges done active → HasEnded done active ⊎ Contains line.edges active
  pub order : AllPairs (StandsBefore told moment) line.edges
  pub next : Adjacent (IsAwaited exchanges moment) line.edges
  pub due : All (IsDue edges moment) exchanges
  pub crossing : All (IsPairOfCrossing edges done) told
  pub once : AllPairs (λ pair later. pair ≢ later) told
  pub ended : (one other : ActiveEdge) → IsBegun edges done one → IsBegun edges done other → HasEnded done one → Cross one.edge other.edge → AreTold told one other

-- So it is at a moment up to this one, and all of the line lives still.
pub record IsSweptUpto (edges : List Edge) (done : List Event) (moment : ℤ) (line : Line) (exchanges : List Exchange) (told : List (ℕ × ℕ)) : Type 0 where
  pub from : ℤ
  pub upto : from ≤ℤ moment
  pub alive : All (λ active. moment ≤ℤ at_column active.edge.x1) line.edges
  pub swept : IsSwept edges done from line exchanges told

-- So it is at this moment, and no exchange is due up to it.
pub record IsSorted (edges : List Edge) (done : List Event) (moment : ℤ) (line : Line) (exchanges : List Exchange) (told : List (ℕ × ℕ)) : Type 0 where
  pub swept : IsSwept edges done moment line exchanges told
  pub none : All (λ exchange. ¬ (exchange.moment ≤ℤ moment)) exchanges

-- ---- what is asked

-- The pair is that of an edge and of what is asked, and is done, that the edge reaches.
pub record IsPairOfReach (edges : List Edge) (asked : List Asked) (done : List Event) (pair : ℕ × ℕ) : Type 0 where
  pub edge : Edge
  pub what : Asked
  pub first : StandsAt edges pair.0 edge
  pub second : StandsAt asked pair.1 what
  pub reaches : Reaches edge what
  pub is_done : Contains done (event_at what.x Answer pair.1)

-- Of what is asked and done, each edge that reaches it is told, once.
pub record AreMet (edges : List Edge) (asked : List Asked) (done : List Event) (met : List (ℕ × ℕ)) : Type 0 where
  pub of : All (IsPairOfReach edges asked done) met
  pub each : (i j : ℕ) (edge : Edge) (what : Asked) → StandsAt edges i edge → StandsAt asked j what → Contains done (event_at what.x Answer j) → Reaches edge what → Contains met (i, j)
  pub once : AllPairs (λ pair later. pair ≢ later) met
