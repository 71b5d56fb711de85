-- The events of a sweep, and the order in which they are served.
use Rattle.std.specs.Prelude.{◌≡◌, ◌⊎◌, ⊤, ℕ, ℤ, ◌<◌, ◌<ℤ◌, List, All, AllPairs, Contains, FitsSigned, Option, Some, length, get_or}
use Rattle.std.specs.Int.{w32}
use Rattle.std.specs.List.Sorted.{IsPermutation}
use Rattle.event_queue.specs.declared.Event.{Event}
use Rattle.event_queue.specs.declared.Task.{Task}
use Rattle.event_queue.specs.declared.Task.TheVariants.{End, Begin, Answer}

-- ---- the order

-- the event at this x, at which this is done with what stands at this place
abbrev pub event_at : ℤ → Task → ℕ → Event
event_at x task place = record { x = x; task = task; place = place }

-- of two events at one x, the first comes before the second: items end before others begin, points are answered last, and each
-- in the order of their places
abbrev pub ComesBeforeAt : Task → ℕ → Task → ℕ → Type 0
ComesBeforeAt End place End other = place < other
ComesBeforeAt End place Begin other = ⊤
ComesBeforeAt End place Answer other = ⊤
ComesBeforeAt Begin place End other = ⊥
ComesBeforeAt Begin place Begin other = place < other
ComesBeforeAt Begin place Answer other = ⊤
ComesBeforeAt Answer place End other = ⊥
ComesBeforeAt Answer place Begin other = ⊥
ComesBeforeAt Answer place Answer other = place < other

-- the first event comes before the second
abbrev pub Precedes : Event → Event → Type 0
Precedes first second =
    (first.x <ℤ second.x) ⊎ ((first.x ≡ second.x) × ComesBeforeAt first.task first.place second.task second.place)

-- The events are all of a kind, each once, and in order.
pub record IsEventQueue (IsEvent : Event → Type 0) (events : List Event) : Type 0 where
  pub each : (event : Event) → IsEvent event → Contains events event
  pub of : All IsEvent events
  pub in_order : AllPairs Precedes events

-- ---- the events of items and points

-- the item stands at this place of the list
abbrev pub StandsAt : {X : Type 0} → List X → ℕ → X → Type 0
StandsAt items place item = (place < length items) × (get_or items place item ≡ item)

-- at each item of the list, whatever a closure may answer is its x
abbrev pub Tells : {X : Type 0} → (X → Option ℤ → Type 0) → (X → Option ℤ) → List X → Type 0
Tells may_answer x_of items = All (λ item. (answer : Option ℤ) → may_answer item answer → answer ≡ x_of item) items

-- the item at this place has this x
abbrev pub HasX : {X : Type 0} → (X → Option ℤ) → List X → ℕ → ℤ → Type 0
HasX {X} x_of items place x = (item : X) × StandsAt items place item × (x_of item ≡ Some x)

-- this is done at this x with the item or the point at this place
abbrev pub IsDoneAt : {X Y : Type 0} → (X → Option ℤ) → (X → Option ℤ) → (Y → Option ℤ) → List X → List Y → ℤ → Task → ℕ → Type 0
IsDoneAt ends begins answers items points x End place = HasX ends items place x
IsDoneAt ends begins answers items points x Begin place = HasX begins items place x
IsDoneAt ends begins answers items points x Answer place = HasX answers points place x

-- the event is one of the items or of the points, each of which has these x's
abbrev pub IsEventOf : {X Y : Type 0} → (X → Option ℤ) → (X → Option ℤ) → (Y → Option ℤ) → List X → List Y → Event → Type 0
IsEventOf ends begins answers items points event = IsDoneAt ends begins answers items points event.x event.task event.place

-- this is done with one of the items at the event
abbrev pub IsDoneWith : {X : Type 0} → Task → (X → Option ℤ) → List X → Event → Type 0
IsDoneWith task x_of items event = (event.task ≡ task) × HasX x_of items event.place event.x

-- of two events the first would come before the second at one x
abbrev pub IsListedBefore : Event → Event → Type 0
IsListedBefore first second = ComesBeforeAt first.task first.place second.task second.place

-- The events stand in the order of what is done and of place, and each at an x that is an i32.
pub record AreListed (events : List Event) : Type 0 where
  pub fit : All (λ event. FitsSigned w32 event.x) events
  pub in_order : AllPairs IsListedBefore events

-- The events are brought into order.
pub record AreOrdered (before after : List Event) : Type 0 where
  pub moved : IsPermutation before after
  pub in_order : AllPairs Precedes after

-- The list gains the events at which this is done with the items. Where what it had is done before, all are still listed.
pub record Gains {X : Type 0} (task : Task) (x_of : X → Option ℤ) (items : List X) (before after : List Event) : Type 0 where
  pub kept : (event : Event) → Contains before event → Contains after event
  pub each : (place : ℕ) (x : ℤ) → HasX x_of items place x → Contains after (event_at x task place)
  pub of : All (λ event. Contains before event ⊎ IsDoneWith task x_of items event) after
  pub listed : All (λ event. (place : ℕ) → ComesBeforeAt event.task event.place task place) before → AreListed before → AreListed after
