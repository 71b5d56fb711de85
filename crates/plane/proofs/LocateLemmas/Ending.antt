-- How the end of an edge is served.
use Rattle.std.proofs.Common.{◌≡◌, ◌≢◌, ◌⊎◌, inl, inr, ℕ, ◌<◌, ◌+◌, ℤ, ◌≤ℤ◌, ◌<ℤ◌, List, [], ◌∷◌, ◌++◌, Option, None, length, get_or, take, refl, sym, ap, ◌∙◌, subst, ⊎_elim, arith}
use Rattle.std.specs.List.{All, AllPairs, Contains}
use Rattle.std.specs.declared.cmp.Ordering.TheVariants.{Less}
use Rattle.std.proofs.lemmas.Int.{ints}
use Rattle.std.proofs.lemmas.List.Elements.{All-append, All-contains, All-weaker, Contains-append_left, Contains-push, Contains-push_cases}
use Rattle.std.proofs.lemmas.List.Kept.{AllPairs-filter}
use Rattle.i_tree.proofs.RootLemmas.Withouts.{Without-middle}
use Rattle.i_tree.specs.Root.Along.{AreNeighbours, IsMonotoneAlong}
use Rattle.i_tree.specs.Root.Change.{Without}
use Rattle.event_queue.proofs.QueueLemmas.Answers.{Answered-other}
use Rattle.plane.specs.Locate.Answers.{IsPlaceBelow}
use Rattle.i_tree.proofs.SetLemmas.Live.{cut_at_item}
use Rattle.plane.specs.declared.edge.Edge.{Edge}
use Rattle.plane.specs.declared.point.Point.{Point}
use Rattle.event_queue.specs.declared.Event.{Event}
use Rattle.event_queue.specs.declared.Task.TheVariants.{End, Begin, Answer}
use Rattle.plane.specs.declared.sweep_line.active.ActiveEdge.{ActiveEdge}
use Rattle.plane.specs.SweepLine.Crossings.{Cross, IsCrossing}
use Rattle.plane.specs.SweepLine.Heights.{rightwards}
use Rattle.event_queue.specs.Queue.{StandsAt, Precedes}
use Rattle.plane.specs.Locate.Events.{CoversSome, ending_of, IsQueue}
use Rattle.plane.specs.Locate.Serving.{HaveCrossing}
use Rattle.plane.specs.SweepLine.Active.{Entry, cmp_active, cmp_to_ending, is_live_at, live_entries, IsExpiredAt, NotCross}
use Rattle.plane.proofs.SweepLineLemmas.Adjacent.{All-left_out, AllPairs-before, AllPairs-after}
use Rattle.plane.proofs.SweepLineLemmas.Advance.{advance}
use Rattle.plane.specs.SweepLine.Begun.{begin_of, end_of, IsOneOf, IsBegun, HasEnded}
use Rattle.plane.proofs.LocateLemmas.Begun.{same_active, edge_at, is_one_of, end_is, IsBegun-more, IsBegun-before, begin_known, never_before_itself, IsCrossing-among}
use Rattle.event_queue.proofs.QueueLemmas.Done.{never_both, precedes, done_before, one_more}
use Rattle.plane.proofs.LocateLemmas.Events.{ends_of}
use Rattle.plane.proofs.SweepLineLemmas.Ends.{end_monotone, end_uncrossed, end_kept}
use Rattle.plane.proofs.SweepLineLemmas.Later.{around_cases, live-without}
use Rattle.plane.specs.SweepLine.Line.{IsLineAt}
use Rattle.plane.proofs.SweepLineLemmas.Live.{is_live_at-ended}
use Rattle.plane.proofs.LocateLemmas.Swept.{Swept, NoneBehind, line_at, live_at, live_are, live_onwards, none_behind_before, upto_later}
use Rattle.plane.proofs.SweepLineLemmas.Turned.{uncrossed_itself}
use Rattle.plane.proofs.SweepLineLemmas.Uncrossed.{Cross-exchanged}

module _ (edges : List Edge) (points : List Point) (events : List Event) (queue : IsQueue edges points events)
    (k : ℕ) (event : Event) (inside : k < length events) (is : event ≡ get_or events k event)
    (stored : List Entry) (answers : List (Option ℕ)) (swept : Swept edges points (take k events) stored answers)
    (d : Edge) (ends : event.task ≡ End) (ending : ActiveEdge) (edge_is : ending.edge ≡ rightwards (get_or edges event.place d)) (place_is : ending.place ≡ event.place) where
  whose : (edge : Edge) × StandsAt edges event.place edge × CoversSome edge × (event ≡ ending_of event.place edge)
  whose = ends_of edges points events queue k event inside is ends

  same : ending.edge ≡ rightwards whose.0
  same = edge_at edges ending event.place whose.0 d whose.1 edge_is

  one_of : IsOneOf edges ending
  one_of = is_one_of edges ending event.place whose.0 whose.1 whose.2 same place_is

  at_end : event ≡ end_of ending
  at_end = whose.3 ∙ sym (end_is ending event.place whose.0 same place_is)

  here : event.x ≡ ending.edge.x1
  here = ap (λ (e : Event). e.x) at_end

  no_begin : event.task ≢ Begin
  no_begin begins = let apart : End ≡ Begin = sym ends ∙ begins in cc

  no_answer : event.task ≢ Answer
  no_answer answers_now = let apart : End ≡ Answer = sym ends ∙ answers_now in cc

  -- it has begun, and ends now
  begun : IsBegun edges (take k events) ending
  begun = record {
    one = one_of;
    begun = done_before queue k event inside is (begin_of ending) (begin_known edges points ending one_of)
        (subst (Precedes (begin_of ending)) (sym at_end) (let onwards = one_of.onwards in inl onwards));
  }

  not_ended : ¬ (HasEnded (take k events) ending)
  not_ended has =
      let first = subst (λ (e : Event). Precedes e event) (sym at_end) (precedes queue k event inside is (end_of ending) has) in
      never_both event event first first

  in_line : Contains swept.line (ending, tt)
  in_line = ⊎_elim (λ has. absurd (not_ended has)) (λ held. held) (swept.each ending begun)

  ends_now : HasEnded (take k events ++ event ∷ []) ending
  ends_now = subst (Contains (take k events ++ event ∷ [])) at_end (Contains-push (take k events) event)

  -- what ends at this event is it
  this_one : (active : ActiveEdge) → IsOneOf edges active → event ≡ end_of active → active ≡ ending
  this_one active is' this = same_active edges active ending is' one_of (ap (λ (e : Event). e.place) (sym this ∙ at_end))

  module _ (front back : List Entry) (cut : swept.line ≡ front ++ (ending, tt) ∷ back) where
    whole : IsLineAt ending.edge.x1 (front ++ (ending, tt) ∷ back)
    whole = subst (λ (entries : List Entry). IsLineAt ending.edge.x1 entries) cut (line_at edges points events queue k event inside is stored answers swept ending.edge.x1 here)

    live_whole : live_entries ending.edge.x1 stored ≡ live_entries ending.edge.x1 (front ++ (ending, tt) ∷ back)
    live_whole = live_at edges points events queue k event inside is stored answers swept ending.edge.x1 here ∙ ap (live_entries ending.edge.x1) cut

    monotone : IsMonotoneAlong (cmp_to_ending ending) (live_entries ending.edge.x1 stored)
    monotone =
        subst (λ (entries : List Entry). IsMonotoneAlong (cmp_to_ending ending) entries) (sym live_whole)
        (end_monotone ending.edge.x1 front (ending, tt) back whole refl)

    -- the others are others
    others : All (λ entry. entry.0 ≢ ending) (front ++ back)
    others =
        All-append (λ (entry : Entry). entry.0 ≢ ending) front back
        (All-weaker (λ (entry : Entry). cmp_active entry.0 ending ≡ Less) (λ entry. entry.0 ≢ ending)
        (λ entry less is_it. never_before_itself ending (subst (λ (s : ActiveEdge). cmp_active s ending ≡ Less) is_it less))
        front (AllPairs-before (λ (one other : Entry). cmp_active one.0 other.0 ≡ Less) front (ending, tt) back whole.order))
        (All-weaker (λ (entry : Entry). cmp_active ending entry.0 ≡ Less) (λ entry. entry.0 ≢ ending)
        (λ entry less is_it. never_before_itself ending (subst (λ (s : ActiveEdge). cmp_active ending s ≡ Less) is_it less))
        back (AllPairs-after (λ (one other : Entry). cmp_active one.0 other.0 ≡ Less) front (ending, tt) back whole.order))

    -- it is the ending one, or it stands in the line without it
    in_parts : (active : ActiveEdge) → Contains swept.line (active, tt) → (ending ≡ active) ⊎ Contains (front ++ back) (active, tt)
    in_parts active held =
        ⊎_elim (λ this. inl (ap (λ (entry : Entry). entry.0) this)) (λ there. inr there)
        (around_cases front (ending, tt) back (active, tt) (subst (λ (entries : List Entry). Contains entries (active, tt)) cut held))

    -- it crosses nothing that has begun
    uncrossed : (other : ActiveEdge) → IsBegun edges (take k events) other → ¬ (Cross ending.edge other.edge)
    uncrossed other is' cross =
        ⊎_elim
        (λ has. swept.ended other ending is' begun has (Cross-exchanged ending.edge other.edge cross))
        (λ held. ⊎_elim
        (λ this. uncrossed_itself ending.edge (subst (λ (s : ActiveEdge). Cross ending.edge s.edge) (sym this) cross))
        (λ there. All-contains (λ (entry : Entry). ¬ (Cross entry.0.edge ending.edge)) (front ++ back) (other, tt) (end_uncrossed ending.edge.x1 front (ending, tt) back whole refl) there (Cross-exchanged ending.edge other.edge cross))
        (in_parts other held))
        (swept.each other is')

    -- what had begun and not ended goes on
    still : (entry : Entry) → IsBegun edges (take k events) entry.0 × ¬ (HasEnded (take k events) entry.0) → entry.0 ≢ ending
        → IsBegun edges (take k events ++ event ∷ []) entry.0 × ¬ (HasEnded (take k events ++ event ∷ []) entry.0)
    still entry (is', not_yet) other = (
      IsBegun-more edges (take k events) event entry.0 is',
      λ has. ⊎_elim not_yet (λ this. other (this_one entry.0 is'.one this)) (Contains-push_cases (take k events) event (end_of entry.0) has),
    )

    all_before : All (λ entry. IsBegun edges (take k events) entry.0 × ¬ (HasEnded (take k events) entry.0)) (front ++ back)
    all_before =
        All-left_out (λ (entry : Entry). IsBegun edges (take k events) entry.0 × ¬ (HasEnded (take k events) entry.0)) front (ending, tt) back
        (subst (All (λ (entry : Entry). IsBegun edges (take k events) entry.0 × ¬ (HasEnded (take k events) entry.0))) cut swept.of)

    module _ (after : List Entry) (found : Option Entry × Option Entry) (are : AreNeighbours (cmp_to_ending ending) (live_entries ending.edge.x1 stored) found) (apart : NotCross found.0 found.1)
        (kept : Without (IsExpiredAt ending.edge.x1) stored after) where
      left : IsLineAt ending.edge.x1 (front ++ back)
      left =
          end_kept ending.edge.x1 front (ending, tt) back whole refl found
          (subst (λ (entries : List Entry). AreNeighbours (cmp_to_ending ending) entries found) live_whole are) apart

      upto : (later : ℤ) → NoneBehind (take k events ++ event ∷ []) later → ending.edge.x1 ≤ℤ later
      upto later none = upto_later edges points events queue k event inside is stored answers swept ending.edge.x1 here later none

      live_later : (later : ℤ) → NoneBehind (take k events ++ event ∷ []) later → live_entries later after ≡ live_entries later (front ++ back)
      live_later later none =
          let onwards = upto later none in
          let gone : IsExpiredAt ending.edge.x1 (ending, tt) = is_live_at-ended ending.edge.x1 (ending, tt) (omega (arith, ints)) in
          sym (live-without ending.edge.x1 later onwards kept)
          ∙ swept.live later (none_behind_before edges points events queue k event inside is stored answers swept ending.edge.x1 here later none)
          ∙ ap (live_entries later) cut
          ∙ live-without ending.edge.x1 later onwards (Without-middle {MayGo = IsExpiredAt ending.edge.x1} front (ending, tt) back gone)

      served : Swept edges points (take k events ++ event ∷ []) after answers
      served = record {
        line = front ++ back;
        of = λ i e within. still (get_or (front ++ back) i e) (all_before i e within) (others i e within);
        each = λ active is'. ⊎_elim
            (λ has. inl (Contains-append_left (take k events) (event ∷ []) (end_of active) has))
            (λ held. ⊎_elim (λ this. inl (subst (λ (s : ActiveEdge). HasEnded (take k events ++ event ∷ []) s) this ends_now)) (λ there. inr there) (in_parts active held))
            (swept.each active (IsBegun-before edges (take k events) event active no_begin is'));
        in_line = λ later none ends'. advance ending.edge.x1 later (front ++ back) (upto later none) ends' left;
        live = live_later;
        ended = λ one other is' is'' has cross.
            let one_begun = IsBegun-before edges (take k events) event one no_begin is' in
            let other_begun = IsBegun-before edges (take k events) event other no_begin is'' in
            ⊎_elim
            (λ before. swept.ended one other one_begun other_begun before cross)
            (λ this. uncrossed other other_begun (subst (λ (s : ActiveEdge). Cross s.edge other.edge) (this_one one one_begun.one this) cross))
            (Contains-push_cases (take k events) event (end_of one) has);
        answered = Answered-other (IsPlaceBelow edges) None points (take k events) answers swept.answered event no_answer;
      }

  -- it goes to the right, as all that is live does
  pub end_onwards : ending.edge.x0 <ℤ ending.edge.x1
  end_onwards = one_of.onwards

  pub end_live_onwards : All (λ entry. entry.0.edge.x0 <ℤ entry.0.edge.x1) (live_entries ending.edge.x1 stored)
  end_live_onwards = live_onwards edges points events queue k event inside is stored answers swept ending.edge.x1 here

  -- and stands in order
  pub end_order : AllPairs (λ one other. cmp_active one.0 other.0 ≡ Less) (live_entries ending.edge.x1 stored)
  end_order =
      let line = line_at edges points events queue k event inside is stored answers swept ending.edge.x1 here in
      let Before : Entry → Entry → Type 0 = λ one other. cmp_active one.0 other.0 ≡ Less in
      subst (AllPairs Before) (sym (live_at edges points events queue k event inside is stored answers swept ending.edge.x1 here))
      (AllPairs-filter Before (is_live_at ending.edge.x1) swept.line line.order)

  -- the order to the edge is monotone along what is live
  pub end_requires : IsMonotoneAlong (cmp_to_ending ending) (live_entries ending.edge.x1 stored)
  end_requires =
      let (front, back, cut) = cut_at_item swept.line (ending, tt) in_line in
      monotone front back cut

  -- live ones that cross are edges that do
  pub end_crossing : (i j : ℕ) → HaveCrossing (live_entries ending.edge.x1 stored) i j → IsCrossing edges i j
  end_crossing i j among =
      IsCrossing-among edges (live_entries ending.edge.x1 stored) (live_are edges points events queue k event inside is stored answers swept ending.edge.x1 here) i j among

  -- where the two beside it don't cross, it is served
  pub Swept-ended : (after : List Entry) (found : Option Entry × Option Entry) → AreNeighbours (cmp_to_ending ending) (live_entries ending.edge.x1 stored) found → NotCross found.0 found.1
      → Without (IsExpiredAt ending.edge.x1) stored after → Swept edges points (take (k + 1) events) after answers
  Swept-ended after found are apart kept =
      let (front, back, cut) = cut_at_item swept.line (ending, tt) in_line in
      subst (λ done. Swept edges points done after answers) (sym (one_more queue k event inside is))
      (served front back cut after found are apart kept)
