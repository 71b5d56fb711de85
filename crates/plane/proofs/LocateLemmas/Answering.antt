-- How a point is answered.
use Rattle.std.proofs.Common.{◌≡◌, ◌≢◌, inl, inr, ℕ, ◌<◌, ◌+◌, ℤ, pos, ◌+ℤ◌, List, [], ◌∷◌, ◌++◌, Option, Some, None, length, get_or, set, take, refl, sym, ap, ◌∙◌, subst, ⊎_elim, arith}
use Rattle.std.specs.List.{All, Contains}
use Rattle.std.specs.declared.cmp.Ordering.TheVariants.{Greater}
use Rattle.std.proofs.lemmas.Int.{ints}
use Rattle.std.proofs.lemmas.List.Elements.{All-contains, All-weaker, Contains-append_left}
use Rattle.i_tree.proofs.RootLemmas.Joined.{Contains-middle}
use Rattle.i_tree.specs.Root.Along.{IsLast}
use Rattle.i_tree.specs.Root.Change.{Without}
use Rattle.event_queue.proofs.QueueLemmas.Answers.{Answered-set}
use Rattle.event_queue.proofs.QueueLemmas.Places.{StandsAt-read, one_item, slice_get-stands}
use Rattle.plane.specs.declared.edge.Edge.{Edge}
use Rattle.plane.specs.declared.point.Point.{Point}
use Rattle.event_queue.specs.declared.Event.{Event}
use Rattle.event_queue.specs.declared.Task.TheVariants.{End, Begin, Answer}
use Rattle.plane.specs.declared.sweep_line.active.ActiveEdge.{ActiveEdge}
use Rattle.plane.specs.Locate.Answers.{IsHighestUnder, IsPlaceBelow}
use Rattle.plane.specs.SweepLine.Heights.{rightwards, IsUnder, IsLowerAt}
use Rattle.event_queue.specs.Queue.{StandsAt, Precedes}
use Rattle.plane.specs.Locate.Events.{CoversSome, answering_of, IsQueue}
use Rattle.plane.specs.Locate.Serving.{IsPlaceUnder, place_of}
use Rattle.plane.specs.SweepLine.Active.{Entry, cmp_to_point, live_entries, IsExpiredAt}
use Rattle.plane.specs.SweepLine.Begun.{begin_of, end_of, IsBegun, HasEnded}
use Rattle.plane.proofs.LocateLemmas.Begun.{turned, IsBegun-more, IsBegun-before}
use Rattle.event_queue.proofs.QueueLemmas.Done.{begin-precedes, done_earlier, upto-precedes, precedes, done_before, one_more}
use Rattle.plane.proofs.LocateLemmas.Events.{answers_of, is_beginning}
use Rattle.plane.proofs.SweepLineLemmas.Later.{live-without}
use Rattle.plane.specs.SweepLine.Line.{IsLineAt, IsSortedAt}
use Rattle.plane.proofs.SweepLineLemmas.Rightwards.{rightwards-same}
use Rattle.plane.proofs.LocateLemmas.Swept.{Swept, line_at, all_live_at, live_is_line, none_behind_before, upto_later}
use Rattle.plane.proofs.SweepLineLemmas.Turned.{IsUnder-turned, IsLowerAt-turned}
use Rattle.plane.proofs.SweepLineLemmas.Sorted.{IsSortedAt-line}
use Rattle.plane.proofs.SweepLineLemmas.Under.{none_under, highest_under}

module _ (edges : List Edge) (points : List Point) (events : List Event) (queue : IsQueue edges points events)
    (k : ℕ) (event : Event) (inside : k < length events) (is : event ≡ get_or events k event)
    (stored : List Entry) (answers : List (Option ℕ)) (swept : Swept edges points (take k events) stored answers)
    (d : Point) (answers_now : event.task ≡ Answer) where
  abbrev point : Point
  point = get_or points event.place d

  whose : (of : Point) × StandsAt points event.place of × (event ≡ answering_of event.place of)
  whose = answers_of edges points events queue k event inside is answers_now

  stands : StandsAt points event.place point
  stands = let within = whose.1.0 in StandsAt-read points event.place d within

  at_answer : event ≡ answering_of event.place point
  at_answer = whose.2 ∙ ap (answering_of event.place) (one_item points event.place event.place whose.0 point refl whose.1 stands)

  here : event.x ≡ point.x
  here = ap (λ (e : Event). e.x) at_answer

  no_end : event.task ≢ End
  no_end ends = let apart : Answer ≡ End = sym answers_now ∙ ends in cc

  no_begin : event.task ≢ Begin
  no_begin begins = let apart : Answer ≡ Begin = sym answers_now ∙ begins in cc

  -- the line as it stands, which is what is live
  now : IsLineAt point.x swept.line
  now = line_at edges points events queue k event inside is stored answers swept point.x here

  sorted : IsSortedAt point.x swept.line
  sorted = IsSortedAt-line point.x swept.line now (all_live_at edges points events queue k event inside is stored answers swept point.x here no_end)

  is_line : live_entries point.x stored ≡ swept.line
  is_line = live_is_line edges points events queue k event inside is stored answers swept point.x here no_end

  -- an edge that covers the point's x has begun and not ended
  module _ (i : ℕ) (edge : Edge) (at : StandsAt edges i edge) (under : IsUnder point edge) where
    some : CoversSome edge
    some = let covers = under.covers in omega (arith, ints, covers.from, covers.before)

    abbrev active : ActiveEdge
    active = record { edge = rightwards edge; place = i }

    first : Precedes (begin_of active) event
    first =
        let from = under.covers.from in
        subst (Precedes (begin_of active)) (sym at_answer) (begin-precedes (rightwards edge).x0 point.x i event.place from)

    begun : IsBegun edges (take k events) active
    begun = record {
      one = record { edge = edge; stands = at; same = refl; onwards = some };
      begun = done_before queue k event inside is (begin_of active) (is_beginning edges points i edge at some) first;
    }

    not_ended : ¬ (HasEnded (take k events) active)
    not_ended has =
        let before = under.covers.before in
        let ends = upto-precedes (end_of active) event (precedes queue k event inside is (end_of active) has) in
        omega (arith, ints, before, ends, here)

    in_line : Contains swept.line (active, tt)
    in_line = ⊎_elim (λ has. absurd (not_ended has)) (λ held. held) (swept.each active begun)

    as_turned : rightwards edge ≡ rightwards (rightwards edge)
    as_turned = sym (rightwards-same (rightwards edge) some)

    turned_under : IsUnder point (rightwards edge)
    turned_under = IsUnder-turned edge (rightwards edge) as_turned point under

  -- where none of the line is under the point, no edge is
  no_edge : IsLast (λ entry. cmp_to_point point entry.0 ≢ Greater) swept.line None → IsPlaceBelow edges point None
  no_edge none i e within under =
      let edge = get_or edges i e in
      let at = StandsAt-read edges i e within in
      All-contains (λ (entry : Entry). ¬ (IsUnder point entry.0.edge)) swept.line (active i edge at under, tt) (none_under point swept.line sorted none)
      (in_line i edge at under) (turned_under i edge at under)

  -- what is below none of the line that is under the point, at some x, is below no edge that is
  none_lower : (one other : Edge) → rightwards one ≡ rightwards other → (x : ℤ) → All (λ entry. IsUnder point entry.0.edge → ¬ (IsLowerAt x one entry.0.edge)) swept.line
      → All (λ edge. IsUnder point edge → ¬ (IsLowerAt x other edge)) edges
  none_lower one other same x none_higher i e within under lower =
      let edge = get_or edges i e in
      let at = StandsAt-read edges i e within in
      All-contains (λ (entry : Entry). IsUnder point entry.0.edge → ¬ (IsLowerAt x one entry.0.edge)) swept.line (active i edge at under, tt) none_higher
      (in_line i edge at under) (turned_under i edge at under)
      (IsLowerAt-turned other one (sym same) edge (rightwards edge) (as_turned i edge at under) x lower)

  -- else the last of the line that isn't above it is the highest edge
  highest_edge : (found : Entry) → IsLast (λ entry. cmp_to_point point entry.0 ≢ Greater) swept.line (Some found) → IsHighestUnder edges point found.0.place
  highest_edge found last =
      let (front, back, cut, low, high) = last in
      let held : Contains swept.line found = subst (λ (entries : List Entry). Contains entries found) (sym cut) (Contains-middle front found back) in
      let which = All-contains (λ (entry : Entry). IsBegun edges (take k events) entry.0 × ¬ (HasEnded (take k events) entry.0)) swept.line found swept.of held in
      let found_begun = which.0 in
      let one = found_begun.one in
      let (under, none_higher, none_steeper) = highest_under point swept.line sorted found last in
      record {
        edge = one.edge;
        stands = slice_get-stands edges found.0.place one.edge one.stands;
        under = IsUnder-turned found.0.edge one.edge (turned edges found.0 one) point under;
        highest = none_lower found.0.edge one.edge (turned edges found.0 one) point.x none_higher;
        steepest = none_lower found.0.edge one.edge (turned edges found.0 one) (point.x +ℤ pos 1) none_steeper;
      }

  by_found : (found : Option Entry) → IsLast (λ entry. cmp_to_point point entry.0 ≢ Greater) swept.line found → IsPlaceBelow edges point (place_of found)
  by_found None last = no_edge last
  by_found (Some found) last = highest_edge found last

  still : (entry : Entry) → IsBegun edges (take k events) entry.0 × ¬ (HasEnded (take k events) entry.0)
      → IsBegun edges (take k events ++ event ∷ []) entry.0 × ¬ (HasEnded (take k events ++ event ∷ []) entry.0)
  still entry (is', not_yet) = (IsBegun-more edges (take k events) event entry.0 is', λ has. not_yet (done_earlier (take k events) event (end_of entry.0) no_end has))

  module _ (told : Option ℕ) (right : IsPlaceBelow edges point told) where
    served : (after : List Entry) → Without (IsExpiredAt point.x) stored after → Swept edges points (take k events ++ event ∷ []) after (set answers event.place told)
    served after kept = record {
      line = swept.line;
      of = All-weaker (λ (entry : Entry). IsBegun edges (take k events) entry.0 × ¬ (HasEnded (take k events) entry.0))
          (λ entry. IsBegun edges (take k events ++ event ∷ []) entry.0 × ¬ (HasEnded (take k events ++ event ∷ []) entry.0)) still swept.line swept.of;
      each = λ active is'. ⊎_elim
          (λ has. inl (Contains-append_left (take k events) (event ∷ []) (end_of active) has))
          (λ held. inr held)
          (swept.each active (IsBegun-before edges (take k events) event active no_begin is'));
      in_line = λ later none ends. swept.in_line later (none_behind_before edges points events queue k event inside is stored answers swept point.x here later none) ends;
      live = λ later none.
          sym (live-without point.x later (upto_later edges points events queue k event inside is stored answers swept point.x here later none) kept)
          ∙ swept.live later (none_behind_before edges points events queue k event inside is stored answers swept point.x here later none);
      ended = λ one other is' is'' has. swept.ended one other
          (IsBegun-before edges (take k events) event one no_begin is') (IsBegun-before edges (take k events) event other no_begin is'')
          (done_earlier (take k events) event (end_of one) no_end has);
      answered = Answered-set (IsPlaceBelow edges) None points (take k events) answers swept.answered event point told stands right;
    }

  -- what is live is sorted
  pub point_requires : IsSortedAt (get_or points event.place d).x (live_entries (get_or points event.place d).x stored)
  point_requires = subst (IsSortedAt point.x) (sym is_line) sorted

  -- with what is told it is answered
  pub Swept-answered : (after : List Entry) (told : Option ℕ) → IsPlaceUnder (get_or points event.place d) (live_entries (get_or points event.place d).x stored) told
      → Without (IsExpiredAt (get_or points event.place d).x) stored after
      → Swept edges points (take (k + 1) events) after (set answers event.place told)
  Swept-answered after told tells kept =
      let (found, last, tells_place) = tells in
      let right : IsPlaceBelow edges point told =
      subst (IsPlaceBelow edges point) (sym tells_place)
      (by_found found (subst (λ (entries : List Entry). IsLast (λ entry. cmp_to_point point entry.0 ≢ Greater) entries found) is_line last)) in
      subst (λ done. Swept edges points done after (set answers event.place told)) (sym (one_more queue k event inside is))
      (served told right after kept)
