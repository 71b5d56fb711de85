-- An edge begins: it joins the line where it stands.
use Rattle.std.proofs.Common.{◌≡◌, ◌≢◌, ◌⊎◌, inl, inr, ℕ, ℤ, ◌≤ℤ◌, List, [], ◌∷◌, ◌++◌, Option, Some, None, IfSome, get_or, arith, sym, ap, ◌∙◌, subst, ⊎_elim}
use Rattle.std.specs.Bool.{⊤}
use Rattle.std.specs.List.{All, AllPairs, Contains}
use Rattle.std.proofs.lemmas.Bool.{cases_lt}
use Rattle.std.proofs.lemmas.Int.{clamps, ints}
use Rattle.std.proofs.lemmas.List.Elements.{All-contains, All-weaker, Contains-append_left, Contains-append_right, Contains-push, Contains-push_cases}
use Rattle.i_tree.proofs.RootLemmas.Joined.{All-behind, All-front, AllPairs-joined}
use Rattle.i_tree.proofs.RootLemmas.Lists.{Contains-here}
use Rattle.event_queue.specs.declared.Event.{Event}
use Rattle.event_queue.specs.declared.Task.TheVariants.{End, Begin}
use Rattle.event_queue.proofs.QueueLemmas.Done.{done_earlier}
use Rattle.plane.specs.declared.edge.Edge.{Edge}
use Rattle.plane.specs.declared.columns.Asked.{Asked}
use Rattle.plane.specs.declared.sweep_line.active.ActiveEdge.{ActiveEdge}
use Rattle.plane.specs.declared.columns.exchanges.Exchange.{Exchange}
use Rattle.plane.specs.Columns.Moments.{IsAbove, behind_column, first_common}
use Rattle.plane.specs.Columns.Status.{IsOfLine, IsSplitAt, JoinsLine, Line, StandsBelow}
use Rattle.plane.specs.Columns.Sweep.{AreTold, CanLookAt, IsActiveAt, IsAwaited, IsNext, IsPairOfCrossing, IsSorted, IsSwept, LooksAtBoth, StandsBefore, moment_of}
use Rattle.plane.specs.Pairs.Sweep.{pair_of}
use Rattle.plane.specs.SweepLine.Begun.{HasEnded, IsBegun, IsOneOf, begin_of, end_of}
use Rattle.plane.specs.SweepLine.Crossings.{Cross}
use Rattle.plane.specs.SweepLine.Line.{Adjacent}
use Rattle.plane.proofs.ColumnLemmas.Lines.{InOrderAt, split-at}
use Rattle.plane.proofs.ColumnLemmas.Moments.{above-asym, above-or-not}
use Rattle.plane.proofs.ColumnLemmas.SweepEvents.{begins_of, ended_upto, not_done}
use Rattle.plane.proofs.ColumnLemmas.SweepExchange.{IsPairOfCrossing-more, pair_turned}
use Rattle.plane.proofs.ColumnLemmas.SweepLists.{at_end, at_start, of_first, of_last}
use Rattle.plane.proofs.ColumnLemmas.SweepLooks.{Keeps, above_looked, awaited_more, below_looked, can_look_above, can_look_below, due_both, keeps_both}
use Rattle.plane.proofs.ColumnLemmas.SweepTimes.{CanLookAt-line, all_right, in_order_at}
use Rattle.plane.proofs.LocateLemmas.Begun.{IsBegun-more, same_active}
use Rattle.plane.proofs.SweepLineLemmas.Adjacent.{Adjacent-behind, Adjacent-front, Adjacent-joined, Adjacent-weaker, All-joined}
use Rattle.plane.proofs.SweepLineLemmas.Later.{around_more}
use Rattle.plane.proofs.SweepLineLemmas.Turned.{uncrossed_before}

-- the first common moment of two, of which the second begins last
first_at_begin : (p beginning : Edge) (moment : ℤ) → moment ≡ behind_column beginning.x0 → behind_column p.x0 ≤ℤ moment → first_common p beginning ≡ moment
first_at_begin p beginning moment is upto = omega (arith, ints, clamps, is, upto)

first_at_begin_too : (beginning p : Edge) (moment : ℤ) → moment ≡ behind_column beginning.x0 → behind_column p.x0 ≤ℤ moment → first_common beginning p ≡ moment
first_at_begin_too beginning p moment is upto = omega (arith, ints, clamps, is, upto)

module _ (edges : List Edge) (asked : List Asked) (done : List Event) (event : Event) (next : IsNext edges asked done event) (begins : event.task ≡ Begin)
    (line : Line) (exchanges : List Exchange) (told : List (ℕ × ℕ)) (sorted : IsSorted edges done (moment_of event) line exchanges told)
    (beginning : ActiveEdge) (one : IsOneOf edges beginning) (place : beginning.place ≡ event.place) where
  abbrev now : ℤ
  now = moment_of event

  abbrev swept : IsSwept edges done (moment_of event) line exchanges told
  swept = sorted.swept

  no_end : event.task ≢ End
  no_end ends = let both : Begin ≡ End = sym begins ∙ ends in cc

  event_is : event ≡ begin_of beginning
  event_is =
      let (active, one', place', is) = begins_of edges asked event next.is begins in
      is ∙ ap begin_of (same_active edges active beginning one' one (place' ∙ sym place))

  now_is : now ≡ behind_column beginning.edge.x0
  now_is = ap moment_of event_is

  -- it hasn't begun, and hasn't ended
  fresh : ¬ (IsBegun edges done beginning)
  fresh begun = not_done edges asked done event next (subst (Contains done) (sym event_is) begun.begun)

  never_ended : ¬ (HasEnded done beginning)
  never_ended has =
      let upto = ended_upto edges asked done event next beginning has in
      let x : event.x ≡ beginning.edge.x0 = ap (λ (e : Event). e.x) event_is in
      let right = one.onwards in
      omega (arith, ints, upto, x, right)

  -- ---- what its insertion requires

  pub absent : ¬ (IsOfLine line.edges beginning.place)
  absent (front, active, back, cut, same) =
      let there : Contains line.edges active = subst (λ (all : List ActiveEdge). Contains all active) (sym cut) (Contains-append_right front (active ∷ back) active (Contains-here active back)) in
      let begun = (All-contains (IsActiveAt edges done now) line.edges active swept.of there).0 in
      fresh (subst (IsBegun edges done) (same_active edges active beginning begun.one one same) begun)

  pub split_line : (front : List ActiveEdge) × (back : List ActiveEdge) × IsSplitAt beginning line.edges front back
  split_line =
      split-at beginning line.edges one.onwards (all_right edges done now line exchanges told swept)
      (subst (λ (moment : ℤ). AllPairs (InOrderAt moment) line.edges) now_is (in_order_at edges done now line exchanges told sorted))

  -- ---- it has joined

  module _ (after : Line) (around : Option ActiveEdge × Option ActiveEdge) (joins : JoinsLine beginning line.edges after.edges around) where
    abbrev front : List ActiveEdge
    front = joins.front

    abbrev back : List ActiveEdge
    back = joins.back

    split_is : line.edges ≡ front ++ back
    split_is = let split = joins.split in split.is

    of_parts : All (IsActiveAt edges done now) (front ++ back)
    of_parts = subst (All (IsActiveAt edges done now)) split_is swept.of

    active_front : All (IsActiveAt edges done now) front
    active_front = All-front (IsActiveAt edges done now) front back of_parts

    active_back : All (IsActiveAt edges done now) back
    active_back = All-behind (IsActiveAt edges done now) front back of_parts

    order_parts : AllPairs (StandsBefore told now) (front ++ back)
    order_parts = subst (AllPairs (StandsBefore told now)) split_is swept.order

    -- another place than any of those
    apart : (p : ActiveEdge) → IsBegun edges done p → p.place ≢ beginning.place
    apart p begun same = fresh (subst (IsBegun edges done) (same_active edges p beginning begun.one one same) begun)

    -- nothing is told of it
    untold : (p : ActiveEdge) → ¬ (AreTold told p beginning)
    untold p are =
        let pair = All-contains (IsPairOfCrossing edges done) told (pair_of p.place beginning.place) swept.crossing are in
        ⊎_elim
        (λ less. apart pair.other pair.other_begun (omega (arith, less, pair.second)))
        (λ from. apart pair.one pair.begun (omega (arith, from, pair.first)))
        (cases_lt p.place beginning.place)

    front_stands : (p : ActiveEdge) → IsActiveAt edges done now p → StandsBelow beginning p → StandsBefore told now p beginning
    front_stands p (begun, not_ended, first, last) below = (
      apart p begun,
      inl (subst (λ (moment : ℤ). ¬ (IsAbove p.edge beginning.edge moment)) (sym now_is ∙ sym (first_at_begin p.edge beginning.edge now now_is first)) below, untold p),
    )

    back_stands : (p : ActiveEdge) → IsActiveAt edges done now p → ¬ (StandsBelow beginning p) → StandsBefore told now beginning p
    back_stands p (begun, not_ended, first, last) not_below = (
      λ same. apart p begun (sym same),
      inl (
        subst (λ (moment : ℤ). ¬ (IsAbove beginning.edge p.edge moment)) (sym now_is ∙ sym (first_at_begin_too beginning.edge p.edge now now_is first))
            (⊎_elim
            (λ above. above-asym p.edge beginning.edge (behind_column beginning.edge.x0) above)
            (λ below. absurd (not_below below))
            (above-or-not p.edge beginning.edge (behind_column beginning.edge.x0))),
        λ are. untold p (subst (Contains told) (pair_turned beginning.place p.place) are),
      ),
    )

    front_beginning : All (λ p. StandsBefore told now p beginning) front
    front_beginning k d inside = let split = joins.split in front_stands (get_or front k d) (active_front k d inside) (split.below k d inside)

    beginning_back : All (StandsBefore told now beginning) back
    beginning_back k d inside = let split = joins.split in back_stands (get_or back k d) (active_back k d inside) (split.above k d inside)

    order_now : AllPairs (StandsBefore told now) (front ++ beginning ∷ back)
    order_now = AllPairs-joined (StandsBefore told now) front beginning back order_parts front_beginning beginning_back

    -- ---- once it is done

    abbrev done_now : List Event
    done_now = done ++ event ∷ []

    begun_now : IsBegun edges done_now beginning
    begun_now = record { one = one; begun = subst (Contains done_now) event_is (Contains-push done event) }

    not_ended_now : (active : ActiveEdge) → ¬ (HasEnded done active) → ¬ (HasEnded done_now active)
    not_ended_now active not_ended has = not_ended (done_earlier done event (end_of active) no_end has)

    active_more : (active : ActiveEdge) → IsActiveAt edges done now active → IsActiveAt edges done_now now active
    active_more active (begun, not_ended, first, last) = (IsBegun-more edges done event active begun, not_ended_now active not_ended, first, last)

    beginning_active : IsActiveAt edges done_now now beginning
    beginning_active = (
      begun_now,
      not_ended_now beginning never_ended,
      omega (arith, ints, now_is),
      (let right = one.onwards in omega (arith, ints, now_is, right)),
    )

    -- what has begun had begun before, or is this one
    begun_cases : (active : ActiveEdge) → IsBegun edges done_now active → IsBegun edges done active ⊎ (beginning ≡ active)
    begun_cases active begun =
        ⊎_elim
        (λ before. inl (record { one = begun.one; begun = before }))
        (λ this. inr (same_active edges beginning active one begun.one (ap (λ (e : Event). e.place) (sym event_is ∙ this))))
        (Contains-push_cases done event (begin_of active) begun.begun)

    -- ---- what is looked at

    pub can_look_begun_below : CanLookAt around.0 (Some beginning) now
    can_look_begun_below =
        can_look_below now around.0 beginning
        (of_last (λ p. CanLookAt (Some p) (Some beginning) now) front around.0 joins.below
        (λ k d inside. CanLookAt-line edges done_now now told (get_or front k d) beginning (active_more (get_or front k d) (active_front k d inside)) beginning_active (front_beginning k d inside)))

    pub can_look_begun_above : CanLookAt (Some beginning) around.1 now
    can_look_begun_above =
        can_look_above now beginning around.1
        (of_first (λ q. CanLookAt (Some beginning) (Some q) now) back around.1 joins.above
        (λ k d inside. CanLookAt-line edges done_now now told beginning (get_or back k d) beginning_active (active_more (get_or back k d) (active_back k d inside)) (beginning_back k d inside)))

    module _ (mid later : List Exchange) (looks : LooksAtBoth around.0 (Some beginning) now exchanges mid) (looks_too : LooksAtBoth (Some beginning) around.1 now mid later) where
      keeps_later : Keeps mid later
      keeps_later = keeps_both now mid later (Some beginning) around.1 looks_too

      keeps : Keeps exchanges later
      keeps other has = keeps_later other (keeps_both now exchanges mid around.0 (Some beginning) looks other has)

      below_weaker : (told : Option ActiveEdge) → IfSome told (λ p. IsAwaited mid now p beginning) → IfSome told (λ p. IsAwaited later now p beginning)
      below_weaker None awaited = tt
      below_weaker (Some p) awaited = awaited_more now p beginning mid later keeps_later awaited

      next_parts : Adjacent (IsAwaited later now) (front ++ back)
      next_parts =
          subst (Adjacent (IsAwaited later now)) split_is
          (Adjacent-weaker (λ p. ⊤) (λ p q. ⊤) (IsAwaited exchanges now) (IsAwaited later now)
          (λ p q _ _ _ awaited. awaited_more now p q exchanges later keeps awaited) line.edges (λ k d inside. tt) (λ i j d below within. tt) swept.next)

      next_now : Adjacent (IsAwaited later now) (front ++ beginning ∷ back)
      next_now =
          Adjacent-joined (IsAwaited later now) front beginning back (Adjacent-front (IsAwaited later now) front back next_parts) (Adjacent-behind (IsAwaited later now) front back next_parts)
          (at_end (λ p. IsAwaited later now p beginning) front around.0 joins.below (below_weaker around.0 (below_looked now exchanges mid around.0 beginning looks)))
          (at_start (IsAwaited later now beginning) back around.1 joins.above (above_looked now mid later beginning around.1 looks_too))

      pub IsSwept-begun : after.places ≡ line.places → IsSwept edges done_now now after later told
      IsSwept-begun places = record {
        room = places ∙ swept.room;
        of = subst (All (IsActiveAt edges done_now now)) (sym joins.joined)
            (All-joined (IsActiveAt edges done_now now) front beginning back (λ k d inside. active_more (get_or (front ++ back) k d) (of_parts k d inside)) beginning_active);
        each = λ active begun. ⊎_elim
            (λ before. ⊎_elim
            (λ has. inl (Contains-append_left done (event ∷ []) (end_of active) has))
            (λ there. inr (subst (λ (all : List ActiveEdge). Contains all active) (sym joins.joined)
            (around_more front beginning back active (subst (λ (all : List ActiveEdge). Contains all active) split_is there))))
            (swept.each active before))
            (λ this. inr (subst (λ (all : List ActiveEdge). Contains all active) (sym joins.joined)
            (subst (Contains (front ++ beginning ∷ back)) this (Contains-append_right front (beginning ∷ back) beginning (Contains-here beginning back)))))
            (begun_cases active begun);
        order = subst (AllPairs (StandsBefore told now)) (sym joins.joined) order_now;
        next = subst (Adjacent (IsAwaited later now)) (sym joins.joined) next_now;
        due = due_both now mid later edges (Some beginning) around.1 one
            (of_first (IsOneOf edges) back around.1 joins.above (λ k d inside. let begun = (active_back k d inside).0 in begun.one)) looks_too
            (due_both now exchanges mid edges around.0 (Some beginning)
            (of_last (IsOneOf edges) front around.0 joins.below (λ k d inside. let begun = (active_front k d inside).0 in begun.one)) one looks swept.due);
        crossing = All-weaker (IsPairOfCrossing edges done) (IsPairOfCrossing edges done_now) (λ pair is. IsPairOfCrossing-more edges done event pair is) told swept.crossing;
        once = swept.once;
        ended = λ first other begun begun_too has cross.
            let had = done_earlier done event (end_of first) no_end has in
            ⊎_elim
            (λ before. ⊎_elim
            (λ before_too. swept.ended first other before before_too had cross)
            (λ this.
            let upto = ended_upto edges asked done event next first had in
            let x : event.x ≡ beginning.edge.x0 = ap (λ (e : Event). e.x) event_is in
            let right = (before.one).onwards in
            absurd (uncrossed_before first.edge beginning.edge right one.onwards (omega (arith, ints, upto, x)) (subst (λ (s : ActiveEdge). Cross first.edge s.edge) (sym this) cross)))
            (begun_cases other begun_too))
            (λ this. absurd (never_ended (subst (HasEnded done) (sym this) had)))
            (begun_cases first begun);
      }
