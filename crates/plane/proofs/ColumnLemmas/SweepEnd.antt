-- An edge ends: it leaves the line, and what it crosses is told.
use Rattle.std.proofs.Common.{◌≡◌, ◌≢◌, inl, inr, ℕ, ℤ, ◌≤ℤ◌, ◌<ℤ◌, List, [], ◌∷◌, ◌++◌, Option, Some, None, IfSome, get_or, arith, sym, ap, ◌∙◌, subst, ⊎_elim}
use Rattle.std.specs.Bool.{⊤}
use Rattle.std.specs.List.{All, AllPairs, Contains}
use Rattle.std.proofs.lemmas.Int.{clamps, ints}
use Rattle.std.proofs.lemmas.List.Elements.{All-contains, All-tail, All-weaker, Contains-append_cases, Contains-append_left, Contains-get_or, Contains-push, Contains-push_cases}
use Rattle.i_tree.proofs.RootLemmas.Joined.{All-behind, All-front, AllPairs-across}
use Rattle.i_tree.proofs.SetLemmas.Live.{cut_at_item}
use Rattle.event_queue.specs.declared.Event.{Event}
use Rattle.event_queue.specs.declared.Task.TheVariants.{End, Begin}
use Rattle.plane.specs.declared.edge.Edge.{Edge}
use Rattle.plane.specs.declared.columns.Asked.{Asked}
use Rattle.plane.specs.declared.sweep_line.active.ActiveEdge.{ActiveEdge}
use Rattle.plane.specs.declared.columns.exchanges.Exchange.{Exchange}
use Rattle.plane.specs.Columns.Moments.{IsAbove, at_column, last_common}
use Rattle.plane.specs.Columns.Status.{BeginsWith, IsOfLine, LeavesLine, Line}
use Rattle.plane.specs.Columns.Sweep.{AreTold, CanLookAt, IsActiveAt, IsAwaited, IsNext, IsPairOfCrossing, IsSorted, IsSwept, LooksAtBoth, StandsBefore, moment_of}
use Rattle.plane.specs.SweepLine.Begun.{IsBegun, IsOneOf, end_of}
use Rattle.plane.specs.SweepLine.Crossings.{Cross}
use Rattle.plane.specs.SweepLine.Line.{Adjacent}
use Rattle.plane.proofs.ColumnLemmas.Lines.{InOrderAt}
use Rattle.plane.proofs.ColumnLemmas.Moments.{cross-above, cross-sym}
use Rattle.plane.proofs.ColumnLemmas.SweepEvents.{begin_known, ends_of, not_done}
use Rattle.plane.proofs.ColumnLemmas.SweepExchange.{IsPairOfCrossing-more, pair_turned}
use Rattle.plane.proofs.ColumnLemmas.SweepLists.{at_end, at_start, of_first, of_last}
use Rattle.plane.proofs.ColumnLemmas.SweepLooks.{awaited_looked, awaited_more, due_both, keeps_both}
use Rattle.plane.proofs.ColumnLemmas.SweepTimes.{CanLookAt-line, in_order_at}
use Rattle.plane.proofs.LocateLemmas.Begun.{IsBegun-before, IsBegun-more, same_active}
use Rattle.plane.proofs.SweepLineLemmas.Adjacent.{Adjacent-left_out, Adjacent-weaker, All-at, All-left_out, AllPairs-after, AllPairs-before, AllPairs-left_out}
use Rattle.plane.proofs.SweepLineLemmas.Later.{around_cases}
use Rattle.plane.proofs.SweepLineLemmas.Turned.{uncrossed_itself}

-- ---- two that may be there

can_look_both : (from : ℤ) (lower upper : Option ActiveEdge) → IfSome lower (λ p. IfSome upper (λ q. CanLookAt (Some p) (Some q) from)) → CanLookAt lower upper from
can_look_both from None upper can = tt
can_look_both from (Some lower) None can = tt
can_look_both from (Some lower) (Some upper) can = can

looked_both : (from : ℤ) (before after : List Exchange) (lower upper : Option ActiveEdge) → LooksAtBoth lower upper from before after → IfSome lower (λ p. IfSome upper (λ q. IsAwaited after from p q))
looked_both from before after None upper looks = tt
looked_both from before after (Some lower) None looks = tt
looked_both from before after (Some lower) (Some upper) looks = awaited_looked from before after lower upper looks

if_at_start : (P : ActiveEdge → ActiveEdge → Type 0) (ys : List ActiveEdge) (upper : Option ActiveEdge) → BeginsWith ys upper → (lower : Option ActiveEdge) → IfSome lower (λ p. IfSome upper (P p)) → (first : ActiveEdge) (more : List ActiveEdge) → ys ≡ first ∷ more → IfSome lower (λ p. P p first)
if_at_start P ys upper begins None holds first more is = tt
if_at_start P ys upper begins (Some lower) holds first more is = at_start (P lower) ys upper begins holds first more is

-- the last common moment of an edge that ends first
last_at_end : (p ending : Edge) (moment : ℤ) → moment ≡ at_column ending.x1 → moment ≤ℤ at_column p.x1 → last_common p ending ≡ moment
last_at_end p ending moment is upto = omega (arith, ints, clamps, is, upto)

last_at_end_too : (ending p : Edge) (moment : ℤ) → moment ≡ at_column ending.x1 → moment ≤ℤ at_column p.x1 → last_common ending p ≡ moment
last_at_end_too ending p moment is upto = omega (arith, ints, clamps, is, upto)

module _ (edges : List Edge) (asked : List Asked) (done : List Event) (event : Event) (next : IsNext edges asked done event) (ends : event.task ≡ End)
    (line : Line) (exchanges : List Exchange) (told : List (ℕ × ℕ)) (sorted : IsSorted edges done (moment_of event) line exchanges told) where
  abbrev now : ℤ
  now = moment_of event

  abbrev swept : IsSwept edges done (moment_of event) line exchanges told
  swept = sorted.swept

  no_begin : event.task ≢ Begin
  no_begin begins = let both : End ≡ Begin = sym ends ∙ begins in cc

  -- the edge that ends, of the events
  known : (active : ActiveEdge) × IsOneOf edges active × (active.place ≡ event.place) × (event ≡ end_of active)
  known = ends_of edges asked event next.is ends

  pub IsOfLine-ending : IsOfLine line.edges event.place
  IsOfLine-ending =
      let (ending, one, place, is) = known in
      let begun : IsBegun edges done ending = record {
        one = one;
        begun = next.before _ (begin_known edges asked ending one) (inl (subst (λ (z : ℤ). ending.edge.x0 <ℤ z) (sym (ap (λ (e : Event). e.x) is)) one.onwards));
      } in
      ⊎_elim
      (λ has. absurd (not_done edges asked done event next (subst (Contains done) (sym is) has)))
      (λ there. let (front, back, cut) = cut_at_item line.edges ending there in (front, ending, back, cut, place))
      (swept.each ending begun)

  module _ (after : Line) (around : Option ActiveEdge × Option ActiveEdge) (leaves : LeavesLine event.place line.edges after.edges around) where
    abbrev ending : ActiveEdge
    ending = leaves.ending

    abbrev front : List ActiveEdge
    front = leaves.front

    abbrev back : List ActiveEdge
    back = leaves.back

    of_parts : All (IsActiveAt edges done now) (front ++ ending ∷ back)
    of_parts = subst (All (IsActiveAt edges done now)) leaves.was swept.of

    order_parts : AllPairs (StandsBefore told now) (front ++ ending ∷ back)
    order_parts = subst (AllPairs (StandsBefore told now)) leaves.was swept.order

    sorted_parts : AllPairs (InOrderAt now) (front ++ ending ∷ back)
    sorted_parts = subst (AllPairs (InOrderAt now)) leaves.was (in_order_at edges done now line exchanges told sorted)

    ending_active : IsActiveAt edges done now ending
    ending_active = All-at (IsActiveAt edges done now) front ending back of_parts

    ending_one : IsOneOf edges ending
    ending_one = let begun = ending_active.0 in begun.one

    event_is : event ≡ end_of ending
    event_is =
        let (active, one, place, is) = known in
        is ∙ ap end_of (same_active edges active ending one ending_one (place ∙ sym leaves.is))

    now_is : now ≡ at_column ending.edge.x1
    now_is = ap moment_of event_is

    active_front : All (IsActiveAt edges done now) front
    active_front = All-front (IsActiveAt edges done now) front (ending ∷ back) of_parts

    active_back : All (IsActiveAt edges done now) back
    active_back = All-tail (IsActiveAt edges done now) ending back (All-behind (IsActiveAt edges done now) front (ending ∷ back) of_parts)

    active_rest : All (IsActiveAt edges done now) (front ++ back)
    active_rest = All-left_out (IsActiveAt edges done now) front ending back of_parts

    order_rest : AllPairs (StandsBefore told now) (front ++ back)
    order_rest = AllPairs-left_out (StandsBefore told now) front ending back order_parts

    front_ending : All (λ p. StandsBefore told now p ending) front
    front_ending = AllPairs-before (StandsBefore told now) front ending back order_parts

    ending_back : All (StandsBefore told now ending) back
    ending_back = AllPairs-after (StandsBefore told now) front ending back order_parts

    -- ---- what is looked at

    pub can_look_ended : CanLookAt around.0 around.1 now
    can_look_ended =
        can_look_both now around.0 around.1
        (of_last (λ p. IfSome around.1 (λ q. CanLookAt (Some p) (Some q) now)) front around.0 leaves.below
        (λ k d inside.
        of_first (λ q. CanLookAt (Some (get_or front k d)) (Some q) now) back around.1 leaves.above
        (λ m e within. CanLookAt-line edges done now told (get_or front k d) (get_or back m e) (active_front k d inside) (active_back m e within)
        (AllPairs-across (StandsBefore told now) front back order_rest k d inside m e within))))

    -- ---- what it crosses is told

    told_front : (other : ActiveEdge) → Contains front other → Cross other.edge ending.edge → AreTold told other ending
    told_front other there cross =
        let active = All-contains (IsActiveAt edges done now) front other active_front there in
        let begun = active.0 in
        let one = begun.one in
        elim (All-contains (λ p. StandsBefore told now p ending) front other front_ending there).1 [
          | inl first ↦
              absurd (All-contains (λ p. InOrderAt now p ending) front other (AllPairs-before (InOrderAt now) front ending back sorted_parts) there
              (subst (IsAbove other.edge ending.edge) (last_at_end other.edge ending.edge now now_is active.3)
              (cross-above other.edge ending.edge one.onwards ending_one.onwards cross first.0)))
          | inr exchanged ↦ exchanged.2
        ]

    told_back : (other : ActiveEdge) → Contains back other → Cross ending.edge other.edge → AreTold told ending other
    told_back other there cross =
        let active = All-contains (IsActiveAt edges done now) back other active_back there in
        let begun = active.0 in
        let one = begun.one in
        elim (All-contains (StandsBefore told now ending) back other ending_back there).1 [
          | inl first ↦
              absurd (All-contains (InOrderAt now ending) back other (AllPairs-after (InOrderAt now) front ending back sorted_parts) there
              (subst (IsAbove ending.edge other.edge) (last_at_end_too ending.edge other.edge now now_is active.3)
              (cross-above ending.edge other.edge ending_one.onwards one.onwards cross first.0)))
          | inr exchanged ↦ exchanged.2
        ]

    turned_told : (one other : ActiveEdge) → AreTold told one other → AreTold told other one
    turned_told one other are = subst (Contains told) (pair_turned one.place other.place) are

    told_ending : (other : ActiveEdge) → IsBegun edges done other → Cross ending.edge other.edge → AreTold told ending other
    told_ending other begun cross =
        ⊎_elim
        (λ has. turned_told other ending (swept.ended other ending begun ending_active.0 has (cross-sym ending.edge other.edge cross)))
        (λ there. ⊎_elim
        (λ this. absurd (uncrossed_itself ending.edge (subst (λ (s : ActiveEdge). Cross ending.edge s.edge) (sym this) cross)))
        (λ beside. ⊎_elim
        (λ before. turned_told other ending (told_front other before (cross-sym ending.edge other.edge cross)))
        (λ behind. told_back other behind cross)
        (Contains-append_cases front back other beside))
        (around_cases front ending back other (subst (λ (all : List ActiveEdge). Contains all other) leaves.was there)))
        (swept.each other begun)

    this_one : (active : ActiveEdge) → IsOneOf edges active → event ≡ end_of active → ending ≡ active
    this_one active one is = same_active edges ending active ending_one one (ap (λ (e : Event). e.place) (sym event_is ∙ is))

    apart_rest : All (λ p. p.place ≢ ending.place) (front ++ back)
    apart_rest k d inside =
        elim (Contains-append_cases front back (get_or (front ++ back) k d) (Contains-get_or (front ++ back) k d inside)) [
          | inl before ↦ (All-contains (λ p. StandsBefore told now p ending) front (get_or (front ++ back) k d) front_ending before).0
          | inr behind ↦ λ same. (All-contains (StandsBefore told now ending) back (get_or (front ++ back) k d) ending_back behind).0 (sym same)
        ]

    -- ---- it has ended

    abbrev done_now : List Event
    done_now = done ++ event ∷ []

    active_now : (p : ActiveEdge) → p.place ≢ ending.place → IsActiveAt edges done now p → IsActiveAt edges done_now now p
    active_now p apart (begun, not_ended, first, last) = (
      IsBegun-more edges done event p begun,
      λ has. ⊎_elim not_ended (λ this. apart (ap (λ (e : Event). e.place) (sym this ∙ event_is))) (Contains-push_cases done event (end_of p) has),
      first,
      last,
    )

    pub IsSwept-ended : (later : List Exchange) → LooksAtBoth around.0 around.1 now exchanges later → after.places ≡ line.places → IsSwept edges done_now now after later told
    IsSwept-ended later looks places = record {
      room = places ∙ swept.room;
      of = subst (All (IsActiveAt edges done_now now)) (sym leaves.left) (λ k d inside. active_now (get_or (front ++ back) k d) (apart_rest k d inside) (active_rest k d inside));
      each = λ active begun.
          let begun_before = IsBegun-before edges done event active no_begin begun in
          ⊎_elim
          (λ has. inl (Contains-append_left done (event ∷ []) (end_of active) has))
          (λ there. ⊎_elim
          (λ this. inl (subst (Contains done_now) (event_is ∙ ap end_of this) (Contains-push done event)))
          (λ beside. inr (subst (λ (all : List ActiveEdge). Contains all active) (sym leaves.left) beside))
          (around_cases front ending back active (subst (λ (all : List ActiveEdge). Contains all active) leaves.was there)))
          (swept.each active begun_before);
      order = subst (AllPairs (StandsBefore told now)) (sym leaves.left) order_rest;
      next = subst (Adjacent (IsAwaited later now)) (sym leaves.left)
          (Adjacent-left_out (IsAwaited later now) front ending back
          (subst (Adjacent (IsAwaited later now)) leaves.was
          (Adjacent-weaker (λ p. ⊤) (λ p q. ⊤) (IsAwaited exchanges now) (IsAwaited later now)
          (λ p q _ _ _ awaited. awaited_more now p q exchanges later (keeps_both now exchanges later around.0 around.1 looks) awaited) line.edges (λ k d inside. tt) (λ i j d below within. tt) swept.next))
          (λ rest last first more is_last is_first.
          at_end (λ p. IsAwaited later now p first) front around.0 leaves.below
          (if_at_start (IsAwaited later now) back around.1 leaves.above around.0 (looked_both now exchanges later around.0 around.1 looks) first more is_first)
          rest last is_last));
      due = due_both now exchanges later edges around.0 around.1
          (of_last (IsOneOf edges) front around.0 leaves.below (λ k d inside. let begun = (active_front k d inside).0 in begun.one))
          (of_first (IsOneOf edges) back around.1 leaves.above (λ k d inside. let begun = (active_back k d inside).0 in begun.one))
          looks swept.due;
      crossing = All-weaker (IsPairOfCrossing edges done) (IsPairOfCrossing edges done_now) (λ pair is. IsPairOfCrossing-more edges done event pair is) told swept.crossing;
      once = swept.once;
      ended = λ one other begun begun_too has cross.
          let begun_before = IsBegun-before edges done event one no_begin begun in
          let begun_before_too = IsBegun-before edges done event other no_begin begun_too in
          ⊎_elim
          (λ before. swept.ended one other begun_before begun_before_too before cross)
          (λ this.
          let same = this_one one begun_before.one this in
          subst (λ (s : ActiveEdge). AreTold told s other) same (told_ending other begun_before_too (subst (λ (s : ActiveEdge). Cross s.edge other.edge) (sym same) cross)))
          (Contains-push_cases done event (end_of one) has);
    }
