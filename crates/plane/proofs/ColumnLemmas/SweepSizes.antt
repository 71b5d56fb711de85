-- How many events a sweep by columns has, and how many edges its line. Numbers that are apart and below a number are no more
-- than it.
use Rattle.std.proofs.Common.{◌≡◌, ◌≢◌, inl, inr, true, false, ℕ, ◌≤◌, ◌<◌, ◌+◌, ◌*◌, ℤ, pos, ◌<ℤ◌, List, Option, eqb, length, get_or, map, sym, ap, ◌∙◌, arith, ◌⊎◌}
use Rattle.std.specs.List.{All, AllPairs}
use Rattle.std.proofs.lemmas.Bool.Decides.{Decides-eqb, eqb_tells}
use Rattle.std.proofs.lemmas.Int.{ints}
use Rattle.std.proofs.lemmas.List.{get_or-map, length-map}
use Rattle.std.proofs.lemmas.List.Elements.{All-contains, All-map}
use Rattle.std.proofs.lemmas.Map.Made.{IsDistinct-from_AllPairs}
use Rattle.std.proofs.lemmas.Map.Steps.{length-le_from_distinct_below}
use Rattle.std.proofs.lemmas.Map.Views.{Contains-from_any}
use Rattle.std.proofs.lemmas.Option.{same_Some}
use Rattle.event_queue.specs.Queue.{ComesBeforeAt, HasX, IsDoneAt}
use Rattle.event_queue.specs.declared.Event.{Event}
use Rattle.event_queue.specs.declared.Task.{Task}
use Rattle.event_queue.specs.declared.Task.TheVariants.{End, Begin, Answer}
use Rattle.event_queue.proofs.QueueLemmas.Places.{one_item}
use Rattle.plane.specs.declared.edge.Edge.{Edge}
use Rattle.plane.specs.declared.columns.Asked.{Asked}
use Rattle.plane.specs.declared.columns.exchanges.Exchange.{Exchange}
use Rattle.plane.specs.declared.sweep_line.active.ActiveEdge.{ActiveEdge}
use Rattle.plane.specs.Columns.Status.{Line}
use Rattle.plane.specs.Columns.Sweep.{IsQueue, IsSwept, asked_x}
use Rattle.plane.specs.Locate.Events.{begin_x, end_x}

equal : (x y : ℕ) → eqb x y ≡ true → x ≡ y
equal x y is = elim (eqb_tells x y) [
  | inl (tells, same) ↦ same
  | inr (tells, differ) ↦ absurd (let both : true ≡ false = sym is ∙ tells in cc)
]

-- numbers that are apart
few_numbers : (numbers : List ℕ) (most : ℕ) → AllPairs (λ i j. i ≢ j) numbers → All (λ number. number < most) numbers → length numbers ≤ most
few_numbers numbers most apart below =
    length-le_from_distinct_below numbers most (IsDistinct-from_AllPairs Decides-eqb numbers apart)
    (λ q any. All-contains (λ number. number < most) numbers q below (Contains-from_any (λ x y. equal x y) q numbers any))

-- items whose numbers are
few_items : {X : Type 0} (number : X → ℕ) (items : List X) (nothing : ℕ → X) (most : ℕ) → AllPairs (λ one later. number one ≢ number later) items → All (λ item. number item < most) items → length items ≤ most
few_items number items nothing most apart below =
    let numbers = map number items in
    let numbers_apart : AllPairs (λ i j. i ≢ j) numbers = λ i j d before within.
    let inside : j < length items = omega (arith, within, length-map items number) in
    let inside_too : i < length items = omega (arith, before, inside) in
    λ same. apart i j (nothing d) before inside (sym (get_or-map number items i (nothing d) d inside_too) ∙ same ∙ get_or-map number items j (nothing d) d inside) in
    let most_numbers = few_numbers numbers most numbers_apart (All-map (λ number. number < most) number items below) in
    omega (arith, most_numbers, length-map items number)

-- the line has no more edges than there are
pub few_active : (edges : List Edge) (done : List Event) (moment : ℤ) (line : Line) (exchanges : List Exchange) (told : List (ℕ × ℕ)) → IsSwept edges done moment line exchanges told → length line.edges ≤ length edges
few_active edges done moment line exchanges told swept =
    few_items (λ (active : ActiveEdge). active.place) line.edges nothing (length edges) (λ i j d before within. (swept.order i j d before within).0) (λ i d within. ((swept.of i d within).0).one.stands.0)
  where
    nothing : ℕ → ActiveEdge
    nothing place = record { edge = record { x0 = pos 0; y0 = pos 0; x1 = pos 0; y1 = pos 0 }; place = place }

-- two at one place have one x
one_x : {X : Type 0} (x_of : X → Option ℤ) (items : List X) (place other : ℕ) (x y : ℤ) → HasX x_of items place x → HasX x_of items other y → place ≡ other → x ≡ y
one_x x_of items place other x y (item, stands, has) (item', stands', has') same =
    same_Some x y (sym has ∙ ap x_of (one_item items place other item item' same stands stands') ∙ has')

module _ (edges : List Edge) (asked : List Asked) where
  -- a number for what is done with which
  abbrev number_at : Task → ℕ → ℕ
  number_at End place = place
  number_at Begin place = length edges + place
  number_at Answer place = 2 * length edges + place

  abbrev number_of : Event → ℕ
  number_of event = number_at event.task event.place

  abbrev IsDone : ℤ → Task → ℕ → Type 0
  IsDone x task place = IsDoneAt end_x begin_x asked_x edges asked x task place

  below : (x : ℤ) (task : Task) (place : ℕ) → IsDone x task place → number_at task place < 2 * length edges + length asked
  below x End place (item, stands, has) = omega (arith, stands.0)
  below x Begin place (item, stands, has) = omega (arith, stands.0)
  below x Answer place (item, stands, has) = omega (arith, stands.0)

  abbrev Comes : ℤ → Task → ℕ → ℤ → Task → ℕ → Type 0
  Comes x task place y task' place' = (x <ℤ y) ⊎ ((x ≡ y) × ComesBeforeAt task place task' place')

  not_itself : (x y : ℤ) (place other : ℕ) → x ≡ y → place ≡ other → (x <ℤ y) ⊎ ((x ≡ y) × (place < other)) → ⊥
  not_itself x y place other same same_place (inl less) = omega (arith, ints, same, less)
  not_itself x y place other same same_place (inr (at, less)) = omega (arith, same_place, less)

  apart : (x : ℤ) (task : Task) (place : ℕ) (y : ℤ) (task' : Task) (place' : ℕ) → IsDone x task place → IsDone y task' place' → Comes x task place y task' place' → number_at task place ≢ number_at task' place'
  apart x End place y End place' is is' comes = λ same. not_itself x y place place' (one_x end_x edges place place' x y is is' same) same comes
  apart x Begin place y Begin place' is is' comes = λ same. let here : place ≡ place' = omega (arith, same) in not_itself x y place place' (one_x begin_x edges place place' x y is is' here) here comes
  apart x Answer place y Answer place' is is' comes = λ same. let here : place ≡ place' = omega (arith, same) in not_itself x y place place' (one_x asked_x asked place place' x y is is' here) here comes
  apart x End place y Begin place' is is' comes = λ same. omega (arith, same, is.1.0)
  apart x End place y Answer place' is is' comes = λ same. omega (arith, same, is.1.0)
  apart x Begin place y End place' is is' comes = λ same. omega (arith, same, is'.1.0)
  apart x Begin place y Answer place' is is' comes = λ same. omega (arith, same, is.1.0)
  apart x Answer place y End place' is is' comes = λ same. omega (arith, same, is'.1.0)
  apart x Answer place y Begin place' is is' comes = λ same. omega (arith, same, is'.1.0)

  -- two events for each edge at most, and one for each that is asked
  pub few_events : (events : List Event) → IsQueue edges asked events → length events ≤ 2 * length edges + length asked
  few_events events queue =
      few_items number_of events nothing (2 * length edges + length asked)
      (λ i j d before within.
      let one = get_or events i d in
      let other = get_or events j d in
      apart one.x one.task one.place other.x other.task other.place (queue.of i d (omega (arith, before, within))) (queue.of j d within) (queue.in_order i j d before within))
      (λ i d within. let event = get_or events i d in below event.x event.task event.place (queue.of i d within))
    where
      nothing : ℕ → Event
      nothing place = record { x = pos 0; task = End; place = place }
