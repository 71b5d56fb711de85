-- It is asked at a column: the edges of the line between the two heights are told.
use Rattle.std.proofs.Common.{◌≡◌, ◌≢◌, inl, inr, ℕ, ℤ, ◌≤ℤ◌, ◌<ℤ◌, List, [], ◌∷◌, ◌++◌, map, get_or, arith, refl, sym, ap, ◌∙◌, subst, ⊎_elim}
use Rattle.std.specs.List.{All, AllPairs, Contains}
use Rattle.std.proofs.lemmas.Int.{ints}
use Rattle.std.proofs.lemmas.List.Elements.{All-append, All-contains, All-weaker, Contains-append_cases, Contains-append_left, Contains-append_right, Contains-get_or, Contains-push, Contains-push_cases}
use Rattle.i_tree.proofs.RootLemmas.Joined.{All-behind, All-front, All-to_map, AllPairs-append, AllPairs-behind, AllPairs-front, AllPairs-to_map}
use Rattle.event_queue.specs.Queue.{Precedes, StandsAt, event_at}
use Rattle.event_queue.specs.declared.Event.{Event}
use Rattle.event_queue.specs.declared.Task.TheVariants.{End, Begin, Answer}
use Rattle.event_queue.proofs.QueueLemmas.Done.{begin-precedes, done_earlier}
use Rattle.event_queue.proofs.QueueLemmas.Places.{one_item}
use Rattle.plane.specs.declared.edge.Edge.{Edge}
use Rattle.plane.specs.declared.columns.Asked.{Asked}
use Rattle.plane.specs.declared.sweep_line.active.ActiveEdge.{ActiveEdge}
use Rattle.plane.specs.declared.columns.exchanges.Exchange.{Exchange}
use Rattle.plane.specs.Columns.Asked.{IsAboveAsked, IsBelowAsked, IsWithinAsked, Reaches}
use Rattle.plane.specs.Columns.Moments.{behind_column}
use Rattle.plane.specs.Columns.Status.{GainsMet, IsSplitByAsked, Line}
use Rattle.plane.specs.Columns.Sweep.{AreMet, IsActiveAt, IsNext, IsPairOfCrossing, IsPairOfReach, IsSorted, IsSwept, StandsBefore, moment_of}
use Rattle.plane.specs.SweepLine.Begun.{HasEnded, IsBegun, IsOneOf, begin_of, end_of}
use Rattle.plane.specs.SweepLine.Heights.{rightwards}
use Rattle.plane.proofs.ColumnLemmas.Lines.{InOrderAt, split-by-asked}
use Rattle.plane.proofs.ColumnLemmas.SweepEvents.{answers_of, begin_known, ended_upto, not_done}
use Rattle.plane.proofs.ColumnLemmas.SweepExchange.{IsPairOfCrossing-more}
use Rattle.plane.proofs.ColumnLemmas.SweepTimes.{all_right, in_order_at}
use Rattle.plane.proofs.LocateLemmas.Begun.{IsBegun-before, IsBegun-more}
use Rattle.plane.proofs.PairsLemmas.Bags.{Contains-from_map, Contains-map}

module _ (edges : List Edge) (asked : List Asked) (done : List Event) (event : Event) (next : IsNext edges asked done event) (answers : event.task ≡ Answer)
    (line : Line) (exchanges : List Exchange) (told : List (ℕ × ℕ)) (sorted : IsSorted edges done (moment_of event) line exchanges told) where
  abbrev now : ℤ
  now = moment_of event

  abbrev swept : IsSwept edges done (moment_of event) line exchanges told
  swept = sorted.swept

  abbrev done_now : List Event
  done_now = done ++ event ∷ []

  no_end : event.task ≢ End
  no_end ends = let both : Answer ≡ End = sym answers ∙ ends in cc

  no_begin : event.task ≢ Begin
  no_begin begins = let both : Answer ≡ Begin = sym answers ∙ begins in cc

  has_ended : (active : ActiveEdge) → HasEnded done_now active → HasEnded done active
  has_ended active has = done_earlier done event (end_of active) no_end has

  -- what was swept is so still
  pub IsSwept-asked : IsSwept edges done_now now line exchanges told
  IsSwept-asked = record {
    room = swept.room;
    of = λ k d inside.
        let (begun, not_ended, first, last) = swept.of k d inside in
        (IsBegun-more edges done event (get_or line.edges k d) begun, λ has. not_ended (has_ended (get_or line.edges k d) has), first, last);
    each = λ active begun. ⊎_elim
        (λ has. inl (Contains-append_left done (event ∷ []) (end_of active) has))
        (λ there. inr there)
        (swept.each active (IsBegun-before edges done event active no_begin begun));
    order = swept.order;
    next = swept.next;
    due = swept.due;
    crossing = All-weaker (IsPairOfCrossing edges done) (IsPairOfCrossing edges done_now) (λ pair is. IsPairOfCrossing-more edges done event pair is) told swept.crossing;
    once = swept.once;
    ended = λ one other begun begun_too has cross.
        swept.ended one other (IsBegun-before edges done event one no_begin begun) (IsBegun-before edges done event other no_begin begun_too) (has_ended one has) cross;
  }

  module _ (what : Asked) (stands : StandsAt asked event.place what) where
    event_is : event ≡ event_at what.x Answer event.place
    event_is =
        let (what', stands', is) = answers_of edges asked event next.is answers in
        is ∙ ap (λ (w : Asked). event_at w.x Answer event.place) (one_item asked event.place event.place what' what refl stands' stands)

    now_is : now ≡ behind_column what.x
    now_is = ap moment_of event_is

    x_is : event.x ≡ what.x
    x_is = ap (λ (e : Event). e.x) event_is

    pub split_asked : (front : List ActiveEdge) × (within : List ActiveEdge) × (back : List ActiveEdge) × IsSplitByAsked what line.edges front within back
    split_asked =
        split-by-asked what line.edges (all_right edges done now line exchanges told swept)
        (subst (λ (moment : ℤ). AllPairs (InOrderAt moment) line.edges) now_is (in_order_at edges done now line exchanges told sorted))

    module _ (front within back : List ActiveEdge) (split : IsSplitByAsked what line.edges front within back) (before after : List (ℕ × ℕ)) (gains : GainsMet within event.place before after) (met : AreMet edges asked done before) where
      abbrev pair_with : ActiveEdge → ℕ × ℕ
      pair_with active = (active.place, event.place)

      active_line : All (IsActiveAt edges done now) ((front ++ within) ++ back)
      active_line = subst (All (IsActiveAt edges done now)) split.is swept.of

      active_within : All (IsActiveAt edges done now) within
      active_within = All-behind (IsActiveAt edges done now) front within (All-front (IsActiveAt edges done now) (front ++ within) back active_line)

      order_within : AllPairs (StandsBefore told now) within
      order_within =
          AllPairs-behind (StandsBefore told now) front within
          (AllPairs-front (StandsBefore told now) (front ++ within) back (subst (AllPairs (StandsBefore told now)) split.is swept.order))

      IsPairOfReach-more : (pair : ℕ × ℕ) → IsPairOfReach edges asked done pair → IsPairOfReach edges asked done_now pair
      IsPairOfReach-more pair is = record {
        edge = is.edge;
        what = is.what;
        first = is.first;
        second = is.second;
        reaches = is.reaches;
        is_done = Contains-append_left done (event ∷ []) (event_at (is.what).x Answer pair.1) is.is_done;
      }

      -- an edge that lives just behind the column, and is within what is asked, reaches it
      reaches_within : (active : ActiveEdge) → IsActiveAt edges done now active → IsWithinAsked what active.edge → IsPairOfReach edges asked done_now (pair_with active)
      reaches_within active (begun, not_ended, first, last) inside =
          let one = begun.one in
          record {
            edge = one.edge;
            what = what;
            first = one.stands;
            second = stands;
            reaches = record {
              covers = record {
                from = subst (λ (edge : Edge). edge.x0 ≤ℤ what.x) one.same (omega (arith, ints, first, now_is));
                before = subst (λ (edge : Edge). what.x <ℤ edge.x1) one.same (omega (arith, ints, last, now_is));
              };
              within = subst (IsWithinAsked what) one.same inside;
            };
            is_done = subst (Contains done_now) event_is (Contains-push done event);
          }

      -- an edge that reaches it is among those
      within_reaches : (i : ℕ) (edge : Edge) → StandsAt edges i edge → Reaches edge what → (active : ActiveEdge) × Contains within active × (active.place ≡ i)
      within_reaches i edge at reaches =
          let covers = reaches.covers in
          let inside = reaches.within in
          let from = covers.from in
          let before_end = covers.before in
          let active : ActiveEdge = record { edge = rightwards edge; place = i } in
          let one : IsOneOf edges active = record { edge = edge; stands = at; same = refl; onwards = omega (arith, ints, from, before_end) } in
          let first = begin-precedes (rightwards edge).x0 what.x i event.place from in
          let begun : IsBegun edges done active = record { one = one; begun = next.before (begin_of active) (begin_known edges asked active one) (subst (Precedes (begin_of active)) (sym event_is) first) } in
          ⊎_elim
          (λ has. let upto = ended_upto edges asked done event next active has in absurd (omega (arith, ints, upto, x_is, before_end)))
          (λ there. ⊎_elim
          (λ ahead. ⊎_elim
          (λ below. absurd (inside.0 (All-contains (λ p. IsBelowAsked what p.edge) front active split.below below)))
          (λ among. (active, among, refl))
          (Contains-append_cases front within active ahead))
          (λ over.
          let above = (All-contains (λ p. IsAboveAsked what p.edge) back active split.above over).1 in
          let not_above = inside.1 in
          absurd (omega (arith, ints, above, not_above)))
          (Contains-append_cases (front ++ within) back active (subst (λ (all : List ActiveEdge). Contains all active) split.is there)))
          (swept.each active begun)

      abbrev pairs : List (ℕ × ℕ)
      pairs = map pair_with within

      -- what was told before was asked before
      asked_before : (pair other : ℕ × ℕ) → IsPairOfReach edges asked done pair → Contains pairs other → pair ≢ other
      asked_before pair other is there same =
          let (active, among, pair_is) = Contains-from_map pair_with within other there in
          let place : pair.1 ≡ event.place = ap (λ (p : ℕ × ℕ). p.1) (same ∙ sym pair_is) in
          let what_is : is.what ≡ what = one_item asked pair.1 event.place is.what what place is.second stands in
          not_done edges asked done event next
          (subst (Contains done) (ap (λ (w : Asked). event_at w.x Answer pair.1) what_is ∙ ap (λ (j : ℕ). event_at what.x Answer j) place ∙ sym event_is) is.is_done)

      met_now : AreMet edges asked done_now (before ++ pairs)
      met_now = record {
        of = All-append (IsPairOfReach edges asked done_now) before pairs
            (All-weaker (IsPairOfReach edges asked done) (IsPairOfReach edges asked done_now) IsPairOfReach-more before met.of)
            (All-to_map (IsPairOfReach edges asked done_now) pair_with within (λ k d inside. reaches_within (get_or within k d) (active_within k d inside) (split.inside k d inside)));
        each = λ i j edge other at at_too has reaches. ⊎_elim
            (λ earlier. Contains-append_left before pairs (i, j) (met.each i j edge other at at_too earlier reaches))
            (λ this.
            let place : event.place ≡ j = ap (λ (e : Event). e.place) this in
            let what_is : other ≡ what = one_item asked j event.place other what (sym place) at_too stands in
            let (active, among, active_is) = within_reaches i edge at (subst (Reaches edge) what_is reaches) in
            let pair_is : pair_with active ≡ (i, j) = cc (active_is, place) in
            Contains-append_right before pairs (i, j) (subst (Contains pairs) pair_is (Contains-map pair_with within active among)))
            (Contains-push_cases done event (event_at other.x Answer j) has);
        once = AllPairs-append (λ pair later. pair ≢ later) before pairs met.once
            (AllPairs-to_map (λ pair later. pair ≢ later) pair_with within
            (λ i j d below inside same. (order_within i j d below inside).0 (ap (λ (p : ℕ × ℕ). p.0) same)))
            (λ k d inside m e inside_too. asked_before (get_or before k d) (get_or pairs m e) (met.of k d inside) (Contains-get_or pairs m e inside_too));
      }

      pub AreMet-asked : AreMet edges asked done_now after
      AreMet-asked = subst (AreMet edges asked done_now) (sym gains) met_now
