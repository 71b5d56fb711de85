-- What holds once some events of a sweep by columns are served: before the first, at the next, and once all are.
use Rattle.std.proofs.Common.{◌≡◌, ◌≢◌, ℕ, zero, suc, ◌<◌, ◌≤◌, ◌+◌, min, max, ℤ, pos, ◌≤ℤ◌, List, [], ◌∷◌, ◌++◌, Some, length, get_or, take, arith, refl, sym, ap, ◌∙◌, subst}
use Rattle.std.specs.List.{All, AllPairs, Contains, slice_get}
use Rattle.std.proofs.lemmas.Int.{ints}
use Rattle.std.proofs.lemmas.List.{get_or_default, take_all}
use Rattle.std.proofs.lemmas.List.Elements.{All-contains, All-nil, All-weaker, Contains-append_left}
use Rattle.i_tree.proofs.RootLemmas.Joined.{AllPairs-nil}
use Rattle.event_queue.specs.Queue.{Precedes, StandsAt, event_at}
use Rattle.event_queue.specs.declared.Event.{Event}
use Rattle.event_queue.specs.declared.Task.TheVariants.{End, Begin, Answer}
use Rattle.event_queue.proofs.QueueLemmas.Done.{done_earlier, one_more}
use Rattle.event_queue.proofs.QueueLemmas.Places.{slice_get-stands}
use Rattle.plane.specs.declared.edge.Edge.{Edge}
use Rattle.plane.specs.declared.columns.Asked.{Asked}
use Rattle.plane.specs.declared.sweep_line.active.ActiveEdge.{ActiveEdge}
use Rattle.plane.specs.declared.columns.exchanges.Exchange.{Exchange}
use Rattle.plane.specs.Columns.Asked.{Reaches}
use Rattle.plane.specs.Columns.Status.{Line}
use Rattle.plane.specs.Columns.Sweep.{AreMet, IsActiveAt, IsAwaited, IsDue, IsNext, IsPairOfCrossing, IsPairOfReach, IsQueue, IsSwept, IsSweptUpto, StandsBefore, moment_of}
use Rattle.plane.specs.Pairs.Pairs.{ArePairs, ArePairsBetween, PairAt, PairBetween}
use Rattle.plane.specs.Pairs.Sweep.{pair_of}
use Rattle.plane.specs.SweepLine.Begun.{IsBegun, IsOneOf}
use Rattle.plane.specs.SweepLine.Crossings.{Cross}
use Rattle.plane.specs.SweepLine.Heights.{rightwards}
use Rattle.plane.specs.SweepLine.Line.{Adjacent}
use Rattle.plane.proofs.ColumnLemmas.SweepEvents.{IsNext-queue, answer_known, begin_known, end_known, lives_still, moment_upto}
use Rattle.plane.proofs.LocateLemmas.Begun.{turned}
use Rattle.plane.proofs.SweepLineLemmas.Rightwards.{rightwards-same}
use Rattle.plane.proofs.SweepLineLemmas.Turned.{CoversSome-crossed, Cross-turned}
use Rattle.plane.proofs.SweepLineLemmas.Uncrossed.{Cross-exchanged}

-- The sweep has come to a moment that isn't behind that of the next event, and the events before that are done.
pub record IsServed (edges : List Edge) (asked : List Asked) (events : List Event) (k : ℕ) (line : Line) (exchanges : List Exchange) (told met : List (ℕ × ℕ)) : Type 0 where
  pub from : ℤ
  pub before : (event : Event) → k < length events → event ≡ get_or events k event → from ≤ℤ moment_of event
  pub swept : IsSwept edges (take k events) from line exchanges told
  pub are_met : AreMet edges asked (take k events) met

-- what ends isn't answered
pub end_differs : End ≡ Answer → ⊥
end_differs both = cc

-- and what begins neither
pub begin_differs : Begin ≡ Answer → ⊥
begin_differs both = cc

-- ---- before the first event

module _ (edges : List Edge) (asked : List Asked) where
  AreMet-none : AreMet edges asked [] []
  AreMet-none = record {
    of = All-nil (IsPairOfReach edges asked []);
    each = λ i j edge what at at_too done reaches. absurd (omega (arith, done.1));
    once = AllPairs-nil (λ pair later. pair ≢ later);
  }

  IsSwept-nothing : (moment : ℤ) (line : Line) → line.edges ≡ [] → line.places ≡ length edges → IsSwept edges [] moment line [] []
  IsSwept-nothing moment line empty places = record {
    room = places;
    of = subst (All (IsActiveAt edges [] moment)) (sym empty) (All-nil (IsActiveAt edges [] moment));
    each = λ active begun. let done = begun.begun in absurd (omega (arith, done.1));
    order = subst (AllPairs (StandsBefore [] moment)) (sym empty) (AllPairs-nil (StandsBefore [] moment));
    next = subst (Adjacent (IsAwaited [] moment)) (sym empty) tt;
    due = All-nil (IsDue edges moment);
    crossing = All-nil (IsPairOfCrossing edges []);
    once = AllPairs-nil (λ pair later. pair ≢ later);
    ended = λ one other begun begun_too has cross. absurd (omega (arith, has.1));
  }

  pub IsServed-nothing : (events : List Event) (line : Line) (exchanges : List Exchange) (told met : List (ℕ × ℕ)) → line.edges ≡ [] → line.places ≡ length edges → exchanges ≡ [] → told ≡ [] → met ≡ []
      → IsServed edges asked events 0 line exchanges told met
  IsServed-nothing events line exchanges told met empty places none untold unmet =
      let d : Event = record { x = pos 0; task = End; place = 0 } in
      let moment = moment_of (get_or events 0 d) in
      record {
        from = moment;
        before = λ event inside is. let same = ap moment_of (get_or_default events 0 d event inside ∙ sym is) in omega (arith, ints, same);
        swept = subst (λ (all : List Exchange). IsSwept edges [] moment line all told) (sym none)
            (subst (λ (all : List (ℕ × ℕ)). IsSwept edges [] moment line [] all) (sym untold) (IsSwept-nothing moment line empty places));
        are_met = subst (AreMet edges asked []) (sym unmet) AreMet-none;
      }

-- ---- at the next event

module _ (edges : List Edge) (asked : List Asked) (events : List Event) (queue : IsQueue edges asked events) (k : ℕ) (event : Event) (inside : k < length events) (is : event ≡ get_or events k event) where
  pub next_is : IsNext edges asked (take k events) event
  next_is = IsNext-queue edges asked events queue k event inside is

  pub IsSweptUpto-served : (line : Line) (exchanges : List Exchange) (told met : List (ℕ × ℕ)) → IsServed edges asked events k line exchanges told met → IsSweptUpto edges (take k events) (moment_of event) line exchanges told
  IsSweptUpto-served line exchanges told met served =
      let swept = served.swept in
      record {
        from = served.from;
        upto = served.before event inside is;
        alive = λ n d within.
            let (begun, not_ended, _, _) = swept.of n d within in
            lives_still edges asked (take k events) event next_is (get_or line.edges n d) begun.one not_ended;
        swept = swept;
      }

  pub IsServed-next : (line : Line) (exchanges : List Exchange) (told met : List (ℕ × ℕ)) → IsSwept edges (take k events ++ event ∷ []) (moment_of event) line exchanges told → AreMet edges asked (take k events ++ event ∷ []) met
      → IsServed edges asked events (k + 1) line exchanges told met
  IsServed-next line exchanges told met swept are_met =
      let more = one_more queue k event inside is in
      record {
        from = moment_of event;
        before = λ later within later_is.
            moment_upto event later
            (subst (Precedes event) (sym later_is) (subst (λ (e : Event). Precedes e (get_or events (k + 1) later)) (get_or_default events k later event inside ∙ sym is) (queue.in_order k (k + 1) later (omega arith) within)));
        swept = subst (λ (done : List Event). IsSwept edges done (moment_of event) line exchanges told) (sym more) swept;
        are_met = subst (λ (done : List Event). AreMet edges asked done met) (sym more) are_met;
      }

  -- at one at which nothing is asked, nothing more is met
  pub AreMet-other : (met : List (ℕ × ℕ)) → event.task ≢ Answer → AreMet edges asked (take k events) met → AreMet edges asked (take k events ++ event ∷ []) met
  AreMet-other met other are_met = record {
    of = All-weaker (IsPairOfReach edges asked (take k events)) (IsPairOfReach edges asked (take k events ++ event ∷ []))
        (λ pair reach. record {
          edge = reach.edge;
          what = reach.what;
          first = reach.first;
          second = reach.second;
          reaches = reach.reaches;
          is_done = Contains-append_left (take k events) (event ∷ []) (event_at (reach.what).x Answer pair.1) reach.is_done;
        })
        met are_met.of;
    each = λ i j edge what at at_too done reaches. are_met.each i j edge what at at_too (done_earlier (take k events) event (event_at what.x Answer j) other done) reaches;
    once = are_met.once;
  }

-- ---- once all are served

stands-slice_get : {X : Type 0} (items : List X) (i : ℕ) (x : X) → slice_get items i ≡ Some x → StandsAt items i x
stands-slice_get [] i x is = cc
stands-slice_get (y ∷ ys) zero x is = (omega arith, cc)
stands-slice_get (y ∷ ys) (suc i) x is = let (within, at) = stands-slice_get ys i x is in (omega (arith, within), at)

module _ (edges : List Edge) (asked : List Asked) (events : List Event) (queue : IsQueue edges asked events) (k : ℕ) (all : length events ≤ k) (line : Line) (exchanges : List Exchange) (told met : List (ℕ × ℕ))
    (served : IsServed edges asked events k line exchanges told met) where
  abbrev done : List Event
  done = take k events

  all_done : (event : Event) → Contains events event → Contains done event
  all_done event has = subst (λ (all : List Event). Contains all event) (sym (take_all k events all)) has

  swept : IsSwept edges done served.from line exchanges told
  swept = served.swept

  are_met : AreMet edges asked done met
  are_met = served.are_met

  pair_at : (pair : ℕ × ℕ) → IsPairOfCrossing edges done pair → PairAt Cross edges pair.0 pair.1
  pair_at pair is =
      let begun = is.begun in
      let begun_too = is.other_begun in
      let one = begun.one in
      let other = begun_too.one in
      record {
        one = one.edge;
        other = other.edge;
        rising = is.rising;
        first = subst (λ i. slice_get edges i ≡ Some one.edge) (sym is.first) (slice_get-stands edges (is.one).place one.edge one.stands);
        second = subst (λ i. slice_get edges i ≡ Some other.edge) (sym is.second) (slice_get-stands edges (is.other).place other.edge other.stands);
        meet = Cross-turned (is.one).edge one.edge (is.other).edge other.edge (turned edges is.one one) (turned edges is.other other) is.cross;
      }

  crossing_told : (i j : ℕ) → PairAt Cross edges i j → Contains told (i, j)
  crossing_told i j at =
      let stands = stands-slice_get edges i at.one at.first in
      let stands_too = stands-slice_get edges j at.other at.second in
      let some = CoversSome-crossed at.one at.other at.meet in
      let some_too = CoversSome-crossed at.other at.one (Cross-exchanged at.one at.other at.meet) in
      let one : ActiveEdge = record { edge = rightwards at.one; place = i } in
      let other : ActiveEdge = record { edge = rightwards at.other; place = j } in
      let is_one : IsOneOf edges one = record { edge = at.one; stands = stands; same = refl; onwards = some } in
      let is_other : IsOneOf edges other = record { edge = at.other; stands = stands_too; same = refl; onwards = some_too } in
      let begun : IsBegun edges done one = record { one = is_one; begun = all_done _ (queue.each _ (begin_known edges asked one is_one)) } in
      let begun_too : IsBegun edges done other = record { one = is_other; begun = all_done _ (queue.each _ (begin_known edges asked other is_other)) } in
      let rising = at.rising in
      let pair_is : pair_of i j ≡ (i, j) = let least : min i j ≡ i = omega (arith, rising) in let most : max i j ≡ j = omega (arith, rising) in cc in
      subst (Contains told) pair_is
      (swept.ended one other begun begun_too (all_done _ (queue.each _ (end_known edges asked one is_one)))
      (Cross-turned at.one (rightwards at.one) at.other (rightwards at.other) (sym (rightwards-same (rightwards at.one) some)) (sym (rightwards-same (rightwards at.other) some_too)) at.meet))

  pub all_crossed : ArePairs Cross edges told
  all_crossed = record {
    once = swept.once;
    exact = λ i j. (λ has. pair_at (i, j) (All-contains (IsPairOfCrossing edges done) told (i, j) swept.crossing has), crossing_told i j);
  }

  pub crossed_within : All (λ pair. (pair.0 < length edges) × (pair.1 < length edges)) told
  crossed_within n d inside =
      let is = swept.crossing n d inside in
      let first = is.first in
      let second = is.second in
      let one = (is.begun).one in
      let other = (is.other_begun).one in
      let within = (one.stands).0 in
      let within_too = (other.stands).0 in
      (omega (arith, first, within), omega (arith, second, within_too))

  pair_between : (pair : ℕ × ℕ) → IsPairOfReach edges asked done pair → PairBetween Reaches edges asked pair.0 pair.1
  pair_between pair is = record {
    one = is.edge;
    other = is.what;
    first = slice_get-stands edges pair.0 is.edge is.first;
    second = slice_get-stands asked pair.1 is.what is.second;
    meet = is.reaches;
  }

  pub all_met : ArePairsBetween Reaches edges asked met
  all_met = record {
    once = are_met.once;
    exact = λ i j. (
      λ has. pair_between (i, j) (All-contains (IsPairOfReach edges asked done) met (i, j) are_met.of has),
      λ at.
          let stands_too = stands-slice_get asked j at.other at.second in
          are_met.each i j at.one at.other (stands-slice_get edges i at.one at.first) stands_too (all_done _ (queue.each _ (answer_known edges asked j at.other stands_too))) at.meet,
    );
  }

  pub met_within : All (λ pair. (pair.0 < length edges) × (pair.1 < length asked)) met
  met_within n d inside =
      let is = are_met.of n d inside in
      ((is.first).0, (is.second).0)
