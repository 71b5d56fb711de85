-- How many of the events begin an item: never more than there are items.
use Rattle.std.proofs.Common.{◌≡◌, ◌≢◌, inl, inr, Bool, true, false, ℕ, ◌≤◌, ◌<◌, ◌+◌, ℤ, List, Option, cond, eqb, pos, length, get_or, map, take, drop, refl, sym, ap, ◌∙◌, subst, arith}
use Rattle.std.specs.List.{All, AllPairs, filter}
use Rattle.std.proofs.lemmas.Bool.Decides.{Decides-eqb, eqb_tells}
use Rattle.std.proofs.lemmas.Int.{ints}
use Rattle.std.proofs.lemmas.List.{get_or-map, length-append, length-map, take-append-drop}
use Rattle.std.proofs.lemmas.List.Elements.{All-contains, All-filter, All-map, filter-append, filter_passes}
use Rattle.std.proofs.lemmas.List.Filters.{length-filter_more}
use Rattle.std.proofs.lemmas.List.Kept.{AllPairs-filter}
use Rattle.std.proofs.lemmas.Map.Made.{IsDistinct-from_AllPairs}
use Rattle.std.proofs.lemmas.Map.Steps.{length-le_from_distinct_below}
use Rattle.std.proofs.lemmas.Map.Views.{Contains-from_any}
use Rattle.std.proofs.lemmas.Option.{same_Some}
use Rattle.event_queue.specs.Queue.{IsEventQueue, IsEventOf, IsDoneAt, HasX, ComesBeforeAt, Precedes}
use Rattle.event_queue.specs.declared.Event.{Event}
use Rattle.event_queue.specs.declared.Task.{Task}
use Rattle.event_queue.specs.declared.Task.TheVariants.{End, Begin, Answer}
use Rattle.event_queue.proofs.QueueLemmas.Places.{one_item}

-- whether this begins an item
abbrev pub is_begin : Task → Bool
is_begin End = false
is_begin Begin = true
is_begin Answer = false

abbrev begins_at : Event → Bool
begins_at event = is_begin event.task

-- how many of the events begin an item
abbrev pub begun : List Event → ℕ
begun events = length (filter begins_at events)

begin_from : (task : Task) → is_begin task ≡ true → task ≡ Begin
begin_from End is = cc
begin_from Begin is = refl
begin_from Answer is = cc

module _ {X Y : Type 0} (ends begins : X → Option ℤ) (answers : Y → Option ℤ) (items : List X) (points : List Y) (events : List Event)
    (queue : IsEventQueue (IsEventOf ends begins answers items points) events) where
  has_x : (event : Event) → IsEventOf ends begins answers items points event → begins_at event ≡ true → HasX begins items event.place event.x
  has_x event of is = subst (λ task. IsDoneAt ends begins answers items points event.x task event.place) (begin_from event.task is) of

  abbrev these : List Event
  these = filter begins_at events

  here : (i : ℕ) (d : Event) → i < length these → HasX begins items (get_or these i d).place (get_or these i d).x
  here i d within = has_x (get_or these i d) (All-filter begins_at (IsEventOf ends begins answers items points) events queue.of i d within) (filter_passes begins_at events i d within)

  -- no two of them have one place
  apart : (one other : Event) → begins_at one ≡ true → begins_at other ≡ true → HasX begins items one.place one.x → HasX begins items other.place other.x → Precedes one other → one.place ≢ other.place
  apart one other is is' (item, stands, has) (item', stands', has') first same =
      let x_same : one.x ≡ other.x = same_Some one.x other.x (sym has ∙ ap begins (one_item items one.place other.place item item' same stands stands') ∙ has') in
      elim first [
        | inl less ↦ omega (arith, ints, less, x_same)
        | inr (at, before) ↦ omega (arith, same, subst (λ task. ComesBeforeAt Begin one.place task other.place) (begin_from other.task is') (subst (λ task. ComesBeforeAt task one.place other.task other.place) (begin_from one.task is) before))
      ]

  abbrev places : List ℕ
  places = map (λ (event : Event). event.place) these

  places_apart : AllPairs (λ i j. i ≢ j) places
  places_apart i j d below within =
      let e : Event = record { x = pos 0; task = End; place = d } in
      let inside : j < length these = omega (arith, within, length-map these (λ (event : Event). event.place)) in
      let inside' : i < length these = omega (arith, below, inside) in
      let differ = apart (get_or these i e) (get_or these j e) (filter_passes begins_at events i e inside') (filter_passes begins_at events j e inside)
      (here i e inside') (here j e inside) (AllPairs-filter Precedes begins_at events queue.in_order i j e below inside) in
      λ same. differ (sym (get_or-map (λ (event : Event). event.place) these i e d inside') ∙ same ∙ get_or-map (λ (event : Event). event.place) these j e d inside)

  places_within : All (λ place. place < length items) places
  places_within = All-map (λ place. place < length items) (λ (event : Event). event.place) these (λ i d within. let (item, stands, has) = here i d within in stands.0)

  pub begun-le : begun events ≤ length items
  begun-le =
      let distinct = IsDistinct-from_AllPairs Decides-eqb places places_apart in
      let most : length places ≤ length items = length-le_from_distinct_below places (length items) distinct
      (λ q any. All-contains (λ place. place < length items) places q places_within (Contains-from_any (λ x y. equal x y) q places any)) in
      omega (arith, most, length-map these (λ (event : Event). event.place))
    where
      equal : (x y : ℕ) → eqb x y ≡ true → x ≡ y
      equal x y is = elim (eqb_tells x y) [
        | inl (tells, same) ↦ same
        | inr (tells, differ) ↦ absurd (let both : true ≡ false = sym is ∙ tells in cc)
      ]

  -- at an event that begins an item fewer have begun
  pub begun-before : (k : ℕ) (event : Event) → k < length events → event ≡ get_or events k event → event.task ≡ Begin → begun (take k events) < length items
  begun-before k event inside is begins_it =
      let one_more : begun (take (k + 1) events) ≡ begun (take k events) + 1 =
      length-filter_more begins_at events k event inside ∙ ap (λ (task : Task). begun (take k events) + cond (is_begin task) 1 0) (sym (ap (λ (e : Event). e.task) is) ∙ begins_it) in
      let parts = ap begun (take-append-drop (k + 1) events) in
      let both = ap length (filter-append begins_at (take (k + 1) events) (drop (k + 1) events)) in
      omega (arith, one_more, begun-le, both, parts, length-append (filter begins_at (take (k + 1) events)) (filter begins_at (drop (k + 1) events)))

-- one more event
pub begun-more : (events : List Event) (k : ℕ) (event : Event) → k < length events → event ≡ get_or events k event → begun (take (k + 1) events) ≡ begun (take k events) + cond (is_begin event.task) 1 0
begun-more events k event inside is =
    length-filter_more begins_at events k event inside ∙ ap (λ (e : Event). begun (take k events) + cond (begins_at e) 1 0) (sym is)
