-- The points whose answers are done have them at their places.
use Rattle.std.proofs.Common.{◌≡◌, ◌≢◌, ℕ, ◌<◌, ℤ, List, [], ◌∷◌, ◌++◌, length, get_or, set, refl, sym, ap, ◌∙◌, subst, ⊎_elim, arith}
use Rattle.std.specs.List.{AllZip, Contains}
use Rattle.std.specs.Ordering.{MatchOrdering, nat_cmp}
use Rattle.std.specs.declared.cmp.Ordering.{Ordering}
use Rattle.std.specs.declared.cmp.Ordering.TheVariants.{Less, Equal, Greater}
use Rattle.std.proofs.lemmas.Cmp.{ranked}
use Rattle.std.proofs.lemmas.Grind.{get_or-set_at}
use Rattle.std.proofs.lemmas.List.{get_or-set_other, length-set}
use Rattle.std.proofs.lemmas.List.Elements.{Contains-push_cases}
use Rattle.event_queue.specs.Queue.{StandsAt, event_at}
use Rattle.event_queue.specs.declared.Event.{Event}
use Rattle.event_queue.specs.declared.Task.TheVariants.{Answer}
use Rattle.event_queue.proofs.QueueLemmas.Done.{done_earlier}
use Rattle.event_queue.proofs.QueueLemmas.Places.{AllZip-each, one_item}

module _ {Y A : Type 0} (IsAnswer : Y → A → Type 0) (default : A) (points : List Y) where
  -- there is room for all answers, and each point that is done has its own
  pub record Answered (done : List Event) (answers : List A) : Type 0 where
    pub room : length answers ≡ length points
    pub each : (place : ℕ) (point : Y) (x : ℤ) → StandsAt points place point → Contains done (event_at x Answer place) → IsAnswer point (get_or answers place default)

  -- nothing is done
  pub Answered-none : (answers : List A) → length answers ≡ length points → Answered [] answers
  Answered-none answers room = record { room = room; each = λ place point x stands done. absurd (omega (arith, done.1)) }

  module _ (done : List Event) (answers : List A) (answered : Answered done answers) (event : Event) where
    -- something else is done
    pub Answered-other : event.task ≢ Answer → Answered (done ++ event ∷ []) answers
    Answered-other other = record {
      room = answered.room;
      each = λ place point x stands held. answered.each place point x stands (done_earlier done event (event_at x Answer place) other held);
    }

    -- the point at the event's place is answered
    module _ (point : Y) (value : A) (stands : StandsAt points event.place point) (right : IsAnswer point value) where
      -- its answer stands at its place, and the others are as they were
      put : (place : ℕ) (other : Y) → StandsAt points place other → (place ≢ event.place → IsAnswer other (get_or answers place default)) → IsAnswer other (get_or (set answers event.place value) place default)
      put place other at elsewhere = by_place (nat_cmp place event.place) (ranked place event.place (nat_cmp place event.place) refl)
        where
          away : place ≢ event.place → IsAnswer other (get_or (set answers event.place value) place default)
          away differs = subst (IsAnswer other) (sym (get_or-set_other answers event.place place value default differs)) (elsewhere differs)

          by_place : (r : Ordering) → MatchOrdering r (place < event.place) (place ≡ event.place) (event.place < place) → IsAnswer other (get_or (set answers event.place value) place default)
          by_place Less below = away (λ this. omega (arith, below, this))
          by_place Equal this =
              subst (IsAnswer other) (sym (get_or-set_at answers event.place place value default this (let size = answered.room in omega (arith, size, stands.0))))
              (subst (λ (p : Y). IsAnswer p value) (one_item points event.place place point other (sym this) stands at) right)
          by_place Greater above = away (λ this. omega (arith, above, this))

      pub Answered-set : Answered (done ++ event ∷ []) (set answers event.place value)
      Answered-set = record {
        room = length-set answers event.place value ∙ answered.room;
        each = λ place other x at held.
            ⊎_elim
            (λ earlier. put place other at (λ _. answered.each place other x at earlier))
            (λ this. put place other at (λ elsewhere. absurd (elsewhere (sym (ap (λ (e : Event). e.place) this)))))
            (Contains-push_cases done event (event_at x Answer place) held);
      }

  -- all are done
  pub Answered-all : (done : List Event) (answers : List A) → Answered done answers
      → ((place : ℕ) (point : Y) → StandsAt points place point → (x : ℤ) × Contains done (event_at x Answer place)) → AllZip IsAnswer points answers
  Answered-all done answers answered all =
      AllZip-each IsAnswer default points answers answered.room
      (λ place point stands. let (x, held) = all place point stands in answered.each place point x stands held)
