-- What is done of the events of a queue where the sweep has come to one of them.
use Rattle.std.proofs.Common.{◌≡◌, ◌≢◌, inl, inr, ℕ, ◌<◌, ◌+◌, ℤ, ◌≤ℤ◌, List, [], ◌∷◌, ◌++◌, length, get_or, take, refl, sym, ap, ◌∙◌, subst, ⊎_elim, arith}
use Rattle.std.specs.List.{All, Contains}
use Rattle.std.specs.Ordering.{MatchOrdering, nat_cmp}
use Rattle.std.specs.declared.cmp.Ordering.{Ordering}
use Rattle.std.specs.declared.cmp.Ordering.TheVariants.{Less, Equal, Greater}
use Rattle.std.proofs.lemmas.Cmp.{ranked}
use Rattle.std.proofs.lemmas.Int.{ints, by_lt_z}
use Rattle.std.proofs.lemmas.List.{get_or-take, get_or_default, length-take-le, take_more}
use Rattle.std.proofs.lemmas.List.Elements.{Contains-get_or, Contains-push_cases}
use Rattle.event_queue.specs.Queue.{event_at, ComesBeforeAt, Precedes, IsEventQueue}
use Rattle.event_queue.specs.declared.Event.{Event}
use Rattle.event_queue.specs.declared.Task.{Task}
use Rattle.event_queue.specs.declared.Task.TheVariants.{End, Begin, Answer}

-- of two events not each comes before the other
pub never_both : (first second : Event) → Precedes first second → Precedes second first → ⊥
never_both first second (inl less) (inl more) = omega (arith, ints, less, more)
never_both first second (inl less) (inr (same, at)) = omega (arith, ints, less, same)
never_both first second (inr (same, at)) (inl more) = omega (arith, ints, same, more)
never_both first second (inr (same, at)) (inr (same', at')) = at_one first.task first.place second.task second.place at at'
  where
    at_one : (t : Task) (p : ℕ) (u : Task) (q : ℕ) → ComesBeforeAt t p u q → ComesBeforeAt u q t p → ⊥
    at_one End p End q below above = omega (arith, below, above)
    at_one End p Begin q below above = above
    at_one End p Answer q below above = above
    at_one Begin p End q below above = below
    at_one Begin p Begin q below above = omega (arith, below, above)
    at_one Begin p Answer q below above = above
    at_one Answer p End q below above = below
    at_one Answer p Begin q below above = below
    at_one Answer p Answer q below above = omega (arith, below, above)

-- an event doesn't lie behind one that it comes before
pub upto-precedes : (first second : Event) → Precedes first second → first.x ≤ℤ second.x
upto-precedes first second (inl less) = omega (arith, ints, less)
upto-precedes first second (inr (same, at)) = omega (arith, ints, same)

-- an event is told by its parts
pub event_is_at : (event : Event) (x : ℤ) (task : Task) → event.x ≡ x → event.task ≡ task → event ≡ event_at x task event.place
event_is_at event x task at same = ap (λ (z : ℤ). event_at z event.task event.place) at ∙ ap (λ (t : Task). event_at x t event.place) same

-- at one x an end comes before all that isn't an end
end_first : (t : Task) (p q : ℕ) → t ≢ End → ComesBeforeAt End p t q
end_first End p q other = absurd (other refl)
end_first Begin p q other = tt
end_first Answer p q other = tt

-- an end doesn't come after what is at its x or later, and isn't an end
pub end-precedes : (x : ℤ) (place : ℕ) (event : Event) → event.task ≢ End → x ≤ℤ event.x → Precedes (event_at x End place) event
end-precedes x place event other upto =
    by_lt_z x event.x (λ less. inl less) (λ from. inr (omega (arith, ints, upto, from), end_first event.task place event.place other))

-- a begin comes before an answer that isn't before its x
pub begin-precedes : (x later : ℤ) (place other : ℕ) → x ≤ℤ later → Precedes (event_at x Begin place) (event_at later Answer other)
begin-precedes x later place other upto = by_lt_z x later (λ less. inl less) (λ from. inr (omega (arith, ints, upto, from), tt))

-- what is done after an event of another task was done before it
pub done_earlier : (done : List Event) (event other : Event) → event.task ≢ other.task → Contains (done ++ event ∷ []) other → Contains done other
done_earlier done event other differ held =
    ⊎_elim (λ before. before) (λ this. absurd (differ (ap (λ (e : Event). e.task) this))) (Contains-push_cases done event other held)

module _ {IsEvent : Event → Type 0} {events : List Event} (queue : IsEventQueue IsEvent events) (k : ℕ) (event : Event) (inside : k < length events) (is : event ≡ get_or events k event) where
  -- what is done comes before the event
  pub precedes : (other : Event) → Contains (take k events) other → Precedes other event
  precedes other (m, within, at) =
      let size = length-take-le k events (omega (arith, inside)) in
      let below : m < k = omega (arith, within, size) in
      subst (λ first. Precedes first event) (sym (get_or-take k events m other below) ∙ at)
      (subst (Precedes (get_or events m other)) (get_or_default events k other event inside ∙ sym is) (queue.in_order m k other below inside))

  -- what comes before the event is done
  pub done_before : (other : Event) → IsEvent other → Precedes other event → Contains (take k events) other
  done_before other of first = let (m, within, at) = queue.each other of in told m within at (nat_cmp m k) (ranked m k (nat_cmp m k) refl)
    where
      told : (m : ℕ) → m < length events → get_or events m other ≡ other → (r : Ordering) → MatchOrdering r (m < k) (m ≡ k) (k < m) → Contains (take k events) other
      told m within at Less below = (m, (let size = length-take-le k events (omega (arith, inside)) in omega (arith, below, size)), get_or-take k events m other below ∙ at)
      told m within at Equal same =
          let one : event ≡ other = is ∙ get_or_default events k event other inside ∙ ap (λ j. get_or events j other) (sym same) ∙ at in
          let itself = subst (Precedes other) one first in
          absurd (never_both other other itself itself)
      told m within at Greater above =
          let later = queue.in_order k m other above within in
          let here : get_or events k other ≡ event = get_or_default events k other event inside ∙ sym is in
          absurd (never_both other event first (subst (Precedes event) at (subst (λ e. Precedes e (get_or events m other)) here later)))

  -- nothing that is done lies behind the event
  pub none_behind : All (λ other. other.x ≤ℤ event.x) (take k events)
  none_behind i d within = upto-precedes (get_or (take k events) i d) event (precedes (get_or (take k events) i d) (Contains-get_or (take k events) i d within))

  pub one_more : take (k + 1) events ≡ take k events ++ event ∷ []
  one_more = take_more events k event inside ∙ ap (λ e. take k events ++ e ∷ []) (sym is)

  -- whose event it is
  pub event_is : IsEvent event
  event_is = subst IsEvent (sym is) (queue.of k event inside)
