-- An exchange that was put down comes: two edges are exchanged and told, or they aren't neighbours any more.
use Rattle.std.proofs.Common.{◌≡◌, ◌≢◌, ◌⊎◌, inl, inr, ℕ, zero, suc, min, max, ℤ, List, [], ◌∷◌, ◌++◌, Option, Some, None, IfSome, get_or, arith, sym, ap, ◌∙◌, subst, ⊎_elim}
use Rattle.std.specs.List.{All, AllPairs, Contains}
use Rattle.std.specs.List.Sorted.{IsPermutation}
use Rattle.std.proofs.lemmas.Bool.{cases_lt}
use Rattle.std.proofs.lemmas.List.{length-append}
use Rattle.std.proofs.lemmas.List.Elements.{All-head, All-push, All-tail, Contains-append_left, Contains-get_or, Contains-push, Contains-push_cases}
use Rattle.std.proofs.lemmas.List.Quantifiers.{all_pairs_push}
use Rattle.std.proofs.lemmas.List.Sorted.{All-permutation, Contains-permutation}
use Rattle.i_tree.proofs.RootLemmas.Joined.{All-behind, All-front}
use Rattle.event_queue.specs.declared.Event.{Event}
use Rattle.plane.specs.declared.edge.Edge.{Edge}
use Rattle.plane.specs.declared.sweep_line.active.ActiveEdge.{ActiveEdge}
use Rattle.plane.specs.declared.columns.exchanges.Exchange.{Exchange}
use Rattle.plane.specs.declared.columns.status.Exchanged.{Exchanged}
use Rattle.plane.specs.Columns.Moments.{IsAbove, first_common}
use Rattle.plane.specs.Columns.Status.{AreNext, ExchangesNext, Line}
use Rattle.plane.specs.Columns.Sweep.{AreTold, CanLookAt, GoesOn, IsActiveAt, IsAwaited, IsDue, IsPairOfCrossing, IsSwept, LooksAtBoth, StandsBefore}
use Rattle.plane.specs.Pairs.Sweep.{pair_of}
use Rattle.plane.specs.SweepLine.Begun.{IsBegun, IsOneOf}
use Rattle.plane.specs.SweepLine.Crossings.{Cross}
use Rattle.plane.specs.SweepLine.Line.{Adjacent}
use Rattle.plane.proofs.ColumnLemmas.Moments.{above-asym, above-stays, cross-from, cross-sym}
use Rattle.plane.proofs.ColumnLemmas.SweepLists.{Adjacent-exchanged, Adjacent-placed, AllPairs-exchanged, IsPermutation-exchanged, at_end, at_start, of_first, of_last}
use Rattle.plane.proofs.ColumnLemmas.SweepLooks.{Keeps, above_looked, awaited_more, below_looked, can_look_above, can_look_below, due_both, keeps_both, length_both}
use Rattle.plane.proofs.ColumnLemmas.SweepTimes.{CanLookAt-line, first_of_two, last_of_two}
use Rattle.plane.proofs.LocateLemmas.Begun.{IsBegun-more, same_active}
use Rattle.plane.proofs.SweepLineLemmas.Adjacent.{All-at, All-left_out, AllPairs-after, AllPairs-before, AllPairs-left_out}

-- ---- pairs of places

pub pair_turned : (i j : ℕ) → pair_of i j ≡ pair_of j i
pair_turned i j =
    let least : min i j ≡ min j i = omega arith in
    let most : max i j ≡ max j i = omega arith in
    cc

-- a pair with a place that is neither of two isn't the pair of these
pub pair_apart : (i j a b : ℕ) → i ≢ a → i ≢ b → pair_of i j ≢ pair_of a b
pair_apart i j a b apart apart_too same =
    let least : min i j ≡ min a b = ap (λ (pair : ℕ × ℕ). pair.0) same in
    let most : max i j ≡ max a b = ap (λ (pair : ℕ × ℕ). pair.1) same in
    omega (arith, least, most, apart, apart_too)

pub pair_apart_too : (i j a b : ℕ) → j ≢ a → j ≢ b → pair_of i j ≢ pair_of a b
pair_apart_too i j a b apart apart_too same = pair_apart j i a b apart apart_too (pair_turned j i ∙ same)

-- the pair of two edges that cross, the lesser place first
module _ (edges : List Edge) (done : List Event) (one other : ActiveEdge) (begun : IsBegun edges done one) (begun_too : IsBegun edges done other) (cross : Cross one.edge other.edge) where
  pub IsPairOfCrossing-pair : one.place ≢ other.place → IsPairOfCrossing edges done (pair_of one.place other.place)
  IsPairOfCrossing-pair apart = ⊎_elim
      (λ less.
      record {
        one = one;
        other = other;
        begun = begun;
        other_begun = begun_too;
        first = omega (arith, less);
        second = omega (arith, less);
        rising = omega (arith, less);
        cross = cross;
      })
      (λ from.
      record {
        one = other;
        other = one;
        begun = begun_too;
        other_begun = begun;
        first = omega (arith, from);
        second = omega (arith, from);
        rising = omega (arith, from, apart);
        cross = cross-sym one.edge other.edge cross;
      })
      (cases_lt one.place other.place)

-- one more event is done
pub IsPairOfCrossing-more : (edges : List Edge) (done : List Event) (event : Event) (pair : ℕ × ℕ) → IsPairOfCrossing edges done pair → IsPairOfCrossing edges (done ++ event ∷ []) pair
IsPairOfCrossing-more edges done event pair is = record {
  one = is.one;
  other = is.other;
  begun = IsBegun-more edges done event is.one is.begun;
  other_begun = IsBegun-more edges done event is.other is.other_begun;
  first = is.first;
  second = is.second;
  rising = is.rising;
  cross = is.cross;
}

-- ---- no neighbours any more

module _ (edges : List Edge) (done : List Event) (line : Line) (exchange : Exchange) (exchanges : List Exchange) (told : List (ℕ × ℕ))
    (swept : IsSwept edges done exchange.moment line (exchange ∷ exchanges) told) where
  abbrev now : ℤ
  now = exchange.moment

  -- of two at other places another exchange is put down
  awaited_else : (p q : ActiveEdge) → ¬ ((exchange.below ≡ p.place) × (exchange.above ≡ q.place)) → IsAwaited (exchange ∷ exchanges) now p q → IsAwaited exchanges now p q
  awaited_else p q else awaited later behind common above =
      let (other, has, below, over, upto) = awaited later behind common above in
      elim (Contains-cons_cases exchange exchanges other has) [
        | inl this ↦ absurd (else (ap (λ (e : Exchange). e.below) this ∙ below, ap (λ (e : Exchange). e.above) this ∙ over))
        | inr there ↦ (other, there, below, over, upto)
      ]
    where
      Contains-cons_cases : (x : Exchange) (xs : List Exchange) (y : Exchange) → Contains (x ∷ xs) y → (x ≡ y) ⊎ Contains xs y
      Contains-cons_cases x xs y (zero, within, is) = inl is
      Contains-cons_cases x xs y (suc k, within, is) = inr (k, omega (arith, within), is)

  pub IsSwept-stale : ¬ (AreNext exchange.below exchange.above line.edges) → IsSwept edges done now line exchanges told
  IsSwept-stale stale = record {
    room = swept.room;
    of = swept.of;
    each = swept.each;
    order = swept.order;
    next = Adjacent-placed (IsAwaited (exchange ∷ exchanges) now) (IsAwaited exchanges now) line.edges
        (λ front p q back is awaited. awaited_else p q (λ same. stale (record {
          front = front;
          lower = p;
          upper = q;
          back = back;
          is = is;
          lower_is = sym same.0;
          upper_is = sym same.1;
        })) awaited)
        swept.next;
    due = All-tail (IsDue edges now) exchange exchanges swept.due;
    crossing = swept.crossing;
    once = swept.once;
    ended = swept.ended;
  }

  -- ---- two neighbours are exchanged

  module _ (after : Line) (around : Exchanged) (exchanged : ExchangesNext exchange.below exchange.above line.edges after.edges around) where
    abbrev a : ActiveEdge
    a = around.lower

    abbrev b : ActiveEdge
    b = around.upper

    abbrev front : List ActiveEdge
    front = exchanged.front

    abbrev back : List ActiveEdge
    back = exchanged.back

    of_parts : All (IsActiveAt edges done now) (front ++ a ∷ b ∷ back)
    of_parts = subst (All (IsActiveAt edges done now)) exchanged.was swept.of

    order_parts : AllPairs (StandsBefore told now) (front ++ a ∷ b ∷ back)
    order_parts = subst (AllPairs (StandsBefore told now)) exchanged.was swept.order

    next_parts : Adjacent (IsAwaited (exchange ∷ exchanges) now) (front ++ a ∷ b ∷ back)
    next_parts = subst (Adjacent (IsAwaited (exchange ∷ exchanges) now)) exchanged.was swept.next

    active_a : IsActiveAt edges done now a
    active_a = All-at (IsActiveAt edges done now) front a (b ∷ back) of_parts

    of_rest : All (IsActiveAt edges done now) (front ++ b ∷ back)
    of_rest = All-left_out (IsActiveAt edges done now) front a (b ∷ back) of_parts

    active_b : IsActiveAt edges done now b
    active_b = All-at (IsActiveAt edges done now) front b back of_rest

    active_front : All (IsActiveAt edges done now) front
    active_front = All-front (IsActiveAt edges done now) front (b ∷ back) of_rest

    active_back : All (IsActiveAt edges done now) back
    active_back = All-tail (IsActiveAt edges done now) b back (All-behind (IsActiveAt edges done now) front (b ∷ back) of_rest)

    a_one : IsOneOf edges a
    a_one = let begun = active_a.0 in begun.one

    b_one : IsOneOf edges b
    b_one = let begun = active_b.0 in begun.one

    order_rest : AllPairs (StandsBefore told now) (front ++ b ∷ back)
    order_rest = AllPairs-left_out (StandsBefore told now) front a (b ∷ back) order_parts

    front_a : All (λ p. StandsBefore told now p a) front
    front_a = AllPairs-before (StandsBefore told now) front a (b ∷ back) order_parts

    front_b : All (λ p. StandsBefore told now p b) front
    front_b = AllPairs-before (StandsBefore told now) front b back order_rest

    a_behind : All (StandsBefore told now a) (b ∷ back)
    a_behind = AllPairs-after (StandsBefore told now) front a (b ∷ back) order_parts

    a_back : All (StandsBefore told now a) back
    a_back = All-tail (StandsBefore told now a) b back a_behind

    b_back : All (StandsBefore told now b) back
    b_back = AllPairs-after (StandsBefore told now) front b back order_rest

    a_b : StandsBefore told now a b
    a_b = All-head (StandsBefore told now a) b back a_behind

    -- ---- what is looked at

    pub can_look_under : CanLookAt around.under (Some b) now
    can_look_under =
        can_look_below now around.under b
        (of_last (λ p. CanLookAt (Some p) (Some b) now) front around.under exchanged.under
        (λ k d inside. CanLookAt-line edges done now told (get_or front k d) b (active_front k d inside) active_b (front_b k d inside)))

    pub can_look_over : CanLookAt (Some a) around.over now
    can_look_over =
        can_look_above now a around.over
        (of_first (λ q. CanLookAt (Some a) (Some q) now) back around.over exchanged.over
        (λ k d inside. CanLookAt-line edges done now told a (get_or back k d) active_a (active_back k d inside) (a_back k d inside)))

    -- ---- the two cross

    due : IsDue edges now exchange
    due = All-head (IsDue edges now) exchange exchanges swept.due

    above_now : IsAbove a.edge b.edge now
    above_now =
        let lower_is : due.lower ≡ a = same_active edges due.lower a due.lower_one a_one (sym due.below ∙ sym exchanged.lower_is) in
        let upper_is : due.upper ≡ b = same_active edges due.upper b due.upper_one b_one (sym due.above ∙ sym exchanged.upper_is) in
        subst (λ (p : ActiveEdge). IsAbove p.edge b.edge now) lower_is
        (subst (λ (q : ActiveEdge). IsAbove (due.lower).edge q.edge now) upper_is due.is_above)

    first_a_b : (¬ (IsAbove a.edge b.edge (first_common a.edge b.edge))) × (¬ (AreTold told a b))
    first_a_b = elim a_b.1 [
      | inl first ↦ first
      | inr again ↦ absurd (above-asym b.edge a.edge now again.1 above_now)
    ]

    cross : Cross a.edge b.edge
    cross =
        cross-from a.edge b.edge a_one.onwards b_one.onwards now first_a_b.0 (first_of_two edges done now told a b active_a active_b) (last_of_two edges done now told a b active_a active_b) above_now

    abbrev told_now : List (ℕ × ℕ)
    told_now = told ++ pair_of exchange.below exchange.above ∷ []

    pair_is : pair_of a.place b.place ≡ pair_of exchange.below exchange.above
    pair_is = ap (λ (i : ℕ). pair_of i b.place) exchanged.lower_is ∙ ap (λ (j : ℕ). pair_of exchange.below j) exchanged.upper_is

    are_told : AreTold told_now a b
    are_told = subst (Contains told_now) (sym pair_is) (Contains-push told (pair_of exchange.below exchange.above))

    -- ---- the order

    told_before : (p q : ActiveEdge) → pair_of p.place q.place ≢ pair_of a.place b.place → AreTold told_now p q → AreTold told p q
    told_before p q apart are =
        ⊎_elim (λ before. before) (λ this. absurd (apart (sym this ∙ sym pair_is))) (Contains-push_cases told (pair_of exchange.below exchange.above) (pair_of p.place q.place) are)

    order_else : (p q : ActiveEdge) → pair_of p.place q.place ≢ pair_of a.place b.place → StandsBefore told now p q → StandsBefore told_now now p q
    order_else p q apart (places, inl (first, untold)) = (places, inl (first, λ are. untold (told_before p q apart are)))
    order_else p q apart (places, inr (first, above, are)) = (places, inr (first, above, Contains-append_left told (pair_of exchange.below exchange.above ∷ []) (pair_of p.place q.place) are))

    order_b_a : StandsBefore told_now now b a
    order_b_a = (λ same. a_b.0 (sym same), inr (first_a_b.0, above_now, subst (Contains told_now) (pair_turned a.place b.place) are_told))

    order_now : AllPairs (StandsBefore told_now now) (front ++ b ∷ a ∷ back)
    order_now =
        AllPairs-exchanged (λ p. (p.place ≢ a.place) × (p.place ≢ b.place)) (StandsBefore told now) (StandsBefore told_now now)
        (λ p q away stands. order_else p q (pair_apart p.place q.place a.place b.place away.0 away.1) stands)
        (λ p q away stands. order_else p q (pair_apart_too p.place q.place a.place b.place away.0 away.1) stands)
        front a b back
        (λ p to_a to_b. (to_a.0, to_b.0))
        (λ p from_a from_b. (λ same. from_a.0 (sym same), λ same. from_b.0 (sym same)))
        order_b_a order_parts

    -- ---- neighbours

    module _ (mid later : List Exchange) (looks : LooksAtBoth around.under (Some b) now exchanges mid) (looks_too : LooksAtBoth (Some a) around.over now mid later) where
      keeps_later : Keeps mid later
      keeps_later = keeps_both now mid later (Some a) around.over looks_too

      keeps : Keeps exchanges later
      keeps other has = keeps_later other (keeps_both now exchanges mid around.under (Some b) looks other has)

      next_now : Adjacent (IsAwaited later now) (front ++ b ∷ a ∷ back)
      next_now =
          Adjacent-exchanged (λ p. p.place ≢ a.place) (IsAwaited (exchange ∷ exchanges) now) (IsAwaited later now)
          (λ p q away awaited. awaited_more now p q exchanges later keeps (awaited_else p q (λ same. away (sym same.0 ∙ sym exchanged.lower_is)) awaited))
          front a b back
          (λ k d inside. (front_a k d inside).0)
          (λ k d inside same. (a_back k d inside).0 (sym same))
          next_parts
          (λ then behind common above.
          absurd (above-asym a.edge b.edge then (above-stays a.edge b.edge (first_common a.edge b.edge) now then first_a_b.0 (first_of_two edges done now told a b active_a active_b) above_now behind) above))
          (at_end (λ p. IsAwaited later now p b) front around.under exchanged.under
          (below_weaker around.under (below_looked now exchanges mid around.under b looks)))
          (at_start (IsAwaited later now a) back around.over exchanged.over (above_looked now mid later a around.over looks_too))
        where
          below_weaker : (told : Option ActiveEdge) → IfSome told (λ p. IsAwaited mid now p b) → IfSome told (λ p. IsAwaited later now p b)
          below_weaker None awaited = tt
          below_weaker (Some p) awaited = awaited_more now p b mid later keeps_later awaited

      pub IsSwept-exchanged : after.places ≡ line.places → IsSwept edges done now after later told_now
      IsSwept-exchanged places = record {
        room = places ∙ swept.room;
        of = subst (All (IsActiveAt edges done now)) (sym exchanged.is) (All-permutation (IsActiveAt edges done now) (front ++ a ∷ b ∷ back) (front ++ b ∷ a ∷ back) moved of_parts);
        each = λ active begun. ⊎_elim (λ has. inl has)
            (λ in_line. inr (subst (λ (all : List ActiveEdge). Contains all active) (sym exchanged.is)
            (Contains-permutation (front ++ a ∷ b ∷ back) (front ++ b ∷ a ∷ back) active moved (subst (λ (all : List ActiveEdge). Contains all active) exchanged.was in_line))))
            (swept.each active begun);
        order = subst (AllPairs (StandsBefore told_now now)) (sym exchanged.is) order_now;
        next = subst (Adjacent (IsAwaited later now)) (sym exchanged.is) next_now;
        due = due_both now mid later edges (Some a) around.over a_one
            (of_first (IsOneOf edges) back around.over exchanged.over (λ k d inside. let begun = (active_back k d inside).0 in begun.one)) looks_too
            (due_both now exchanges mid edges around.under (Some b)
            (of_last (IsOneOf edges) front around.under exchanged.under (λ k d inside. let begun = (active_front k d inside).0 in begun.one)) b_one looks
            (All-tail (IsDue edges now) exchange exchanges swept.due));
        crossing = All-push (IsPairOfCrossing edges done) told (pair_of exchange.below exchange.above) swept.crossing
            (subst (IsPairOfCrossing edges done) pair_is (IsPairOfCrossing-pair edges done a b active_a.0 active_b.0 cross a_b.0));
        once = all_pairs_push (λ pair other. pair ≢ other) told (pair_of exchange.below exchange.above) swept.once
            (λ k d inside same. first_a_b.1 (subst (Contains told) (same ∙ sym pair_is) (Contains-get_or told k d inside)));
        ended = λ one other begun begun_too has crosses. Contains-append_left told (pair_of exchange.below exchange.above ∷ []) (pair_of one.place other.place) (swept.ended one other begun begun_too has crosses);
      }
        where
          moved : IsPermutation (front ++ a ∷ b ∷ back) (front ++ b ∷ a ∷ back)
          moved = IsPermutation-exchanged front a b back

      pub GoesOn-exchanged : GoesOn told told_now exchanges later
      GoesOn-exchanged =
          let first = length_both now exchanges mid around.under (Some b) looks in
          let second = length_both now mid later (Some a) around.over looks_too in
          inr (omega (arith, length-append told (pair_of exchange.below exchange.above ∷ [])), omega (arith, first, second))
