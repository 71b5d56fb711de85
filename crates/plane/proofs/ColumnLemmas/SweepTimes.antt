-- The sweep at a later moment; and the line once no exchange is due.
use Rattle.std.proofs.Common.{inl, inr, ℕ, ◌<◌, ◌+◌, ◌-◌, ◌*◌, ◌^◌, ℤ, ◌≤ℤ◌, ◌<ℤ◌, List, ◌∷◌, Some, get_or, length, arith, ap, ⊎_elim}
use Rattle.std.specs.Bool.{⊤}
use Rattle.std.specs.List.{All, AllPairs}
use Rattle.std.specs.List.Sorted.{IsPermutation}
use Rattle.std.proofs.lemmas.Int.{ints, clamps}
use Rattle.std.proofs.lemmas.List.Elements.{All-contains}
use Rattle.std.proofs.lemmas.List.Sorted.{All-permutation, Contains-permutation, IsPermutation-sym, length_permutation}
use Rattle.i_tree.proofs.RootLemmas.Lists.{Contains-here}
use Rattle.event_queue.specs.declared.Event.{Event}
use Rattle.plane.specs.declared.edge.Edge.{Edge}
use Rattle.plane.specs.declared.sweep_line.active.ActiveEdge.{ActiveEdge}
use Rattle.plane.specs.declared.columns.exchanges.Exchange.{Exchange}
use Rattle.plane.specs.Columns.Moments.{at_column, behind_column, first_common, last_common}
use Rattle.plane.specs.Columns.Status.{Line}
use Rattle.plane.specs.Columns.Sweep.{CanLookAt, GoesOn, IsActiveAt, IsAwaited, IsDue, IsSorted, IsSwept, IsSweptUpto, StandsBefore, TakesEarliest}
use Rattle.plane.proofs.ColumnLemmas.Lines.{GoesRight, InOrderAt, adjacent-all}
use Rattle.plane.proofs.ColumnLemmas.Moments.{above-asym, above-stays, above-steeper}
use Rattle.plane.proofs.ColumnLemmas.SweepLooks.{awaited_more}
use Rattle.plane.proofs.SweepLineLemmas.Adjacent.{Adjacent-weaker}

-- ---- two that live

pub first_upto : (p q : Edge) (moment : ℤ) → behind_column p.x0 ≤ℤ moment → behind_column q.x0 ≤ℤ moment → first_common p q ≤ℤ moment
first_upto p q moment from from_too = omega (arith, ints, clamps, from, from_too)

pub upto_last : (p q : Edge) (moment : ℤ) → moment ≤ℤ at_column p.x1 → moment ≤ℤ at_column q.x1 → moment ≤ℤ last_common p q
upto_last p q moment upto upto_too = omega (arith, ints, clamps, upto, upto_too)

module _ (edges : List Edge) (done : List Event) (moment : ℤ) (told : List (ℕ × ℕ)) (p q : ActiveEdge) (active : IsActiveAt edges done moment p) (active_too : IsActiveAt edges done moment q) where
  pub first_of_two : first_common p.edge q.edge ≤ℤ moment
  first_of_two = first_upto p.edge q.edge moment active.2 active_too.2

  pub last_of_two : moment ≤ℤ last_common p.edge q.edge
  last_of_two = upto_last p.edge q.edge moment active.3 active_too.3

  pub first_of_two_turned : first_common q.edge p.edge ≤ℤ moment
  first_of_two_turned = first_upto q.edge p.edge moment active_too.2 active.2

  -- two that stand in their order can be looked at
  pub CanLookAt-line : StandsBefore told moment p q → CanLookAt (Some p) (Some q) moment
  CanLookAt-line stands =
      let one = active.0 in
      let one_too = active_too.0 in (
        (one.one).onwards,
        (one_too.one).onwards,
        first_of_two,
        last_of_two,
        λ above. elim stands.1 [
          | inl first ↦ above-steeper p.edge q.edge (first_common p.edge q.edge) moment first.0 first_of_two above
          | inr exchanged ↦ absurd (above-asym q.edge p.edge moment exchanged.1 above)
        ],
      )

-- ---- later

module _ (edges : List Edge) (done : List Event) (from : ℤ) (line : Line) (exchanges : List Exchange) (told : List (ℕ × ℕ)) (swept : IsSwept edges done from line exchanges told)
    (later : ℤ) (upto : from ≤ℤ later) (alive : All (λ active. later ≤ℤ at_column active.edge.x1) line.edges) where
  order_later : (p q : ActiveEdge) → IsActiveAt edges done from p → IsActiveAt edges done from q → StandsBefore told from p q → StandsBefore told later p q
  order_later p q active active_too (apart, inl first) = (apart, inl first)
  order_later p q active active_too (apart, inr (first, above, are)) =
      (apart, inr (first, above-stays q.edge p.edge (first_common q.edge p.edge) from later first (first_of_two_turned edges done from told p q active active_too) above upto, are))

  awaited_later : (p q : ActiveEdge) → IsAwaited exchanges from p q → IsAwaited exchanges later p q
  awaited_later p q awaited moment behind common above = awaited moment (omega (arith, ints, upto, behind)) common above

  due_later : (exchange : Exchange) → IsDue edges from exchange → later ≤ℤ exchange.moment → IsDue edges later exchange
  due_later exchange due behind = record {
    lower = due.lower;
    upper = due.upper;
    lower_one = due.lower_one;
    upper_one = due.upper_one;
    below = due.below;
    above = due.above;
    behind = behind;
    common = due.common;
    is_above = due.is_above;
  }

  -- where none of the exchanges is before it
  pub IsSwept-later : All (λ exchange. later ≤ℤ exchange.moment) exchanges → IsSwept edges done later line exchanges told
  IsSwept-later behind = record {
    room = swept.room;
    of = λ k d inside. let (begun, ended, first, last) = swept.of k d inside in (begun, ended, omega (arith, ints, first, upto), alive k d inside);
    each = swept.each;
    order = λ i j d below within. order_later (get_or line.edges i d) (get_or line.edges j d) (swept.of i d (omega (arith, below, within))) (swept.of j d within) (swept.order i j d below within);
    next = Adjacent-weaker (λ p. ⊤) (λ p q. ⊤) (IsAwaited exchanges from) (IsAwaited exchanges later) (λ p q _ _ _ awaited. awaited_later p q awaited) line.edges (λ k d inside. tt) (λ i j d below within. tt) swept.next;
    due = λ k d inside. due_later (get_or exchanges k d) (swept.due k d inside) (behind k d inside);
    crossing = swept.crossing;
    once = swept.once;
    ended = swept.ended;
  }

-- ---- in order

module _ (edges : List Edge) (done : List Event) (moment : ℤ) (line : Line) (exchanges : List Exchange) (told : List (ℕ × ℕ)) where
  pub all_right : IsSwept edges done moment line exchanges told → All GoesRight line.edges
  all_right swept k d inside = let begun = (swept.of k d inside).0 in (begun.one).onwards

  pub in_order_at : IsSorted edges done moment line exchanges told → AllPairs (InOrderAt moment) line.edges
  in_order_at sorted =
      adjacent-all moment line.edges (all_right sorted.swept)
      (Adjacent-weaker (IsActiveAt edges done moment) (λ p q. ⊤) (IsAwaited exchanges moment) (InOrderAt moment)
      (λ p q active active_too _ awaited above.
      let (exchange, has, below, over, upto) = awaited moment (omega (arith, ints)) (last_of_two edges done moment told p q active active_too) above in
      All-contains (λ (exchange : Exchange). ¬ (exchange.moment ≤ℤ moment)) exchanges exchange sorted.none has upto)
      line.edges (sorted.swept).of (λ i j d below within. tt) (sorted.swept).next)

-- ---- upto a moment

-- the order in which exchanges are put down is open
IsSwept-reordered : (edges : List Edge) (done : List Event) (moment : ℤ) (line : Line) (before after : List Exchange) (told : List (ℕ × ℕ)) → IsPermutation before after → IsSwept edges done moment line before told → IsSwept edges done moment line after told
IsSwept-reordered edges done moment line before after told moved swept = record {
  room = swept.room;
  of = swept.of;
  each = swept.each;
  order = swept.order;
  next = Adjacent-weaker (λ p. ⊤) (λ p q. ⊤) (IsAwaited before moment) (IsAwaited after moment)
      (λ p q _ _ _ awaited. awaited_more moment p q before after (λ exchange has. Contains-permutation before after exchange moved has) awaited) line.edges (λ k d inside. tt) (λ i j d below within. tt) swept.next;
  due = All-permutation (IsDue edges moment) before after moved swept.due;
  crossing = swept.crossing;
  once = swept.once;
  ended = swept.ended;
}

module _ (edges : List Edge) (done : List Event) (moment : ℤ) (line : Line) (told : List (ℕ × ℕ)) where
  -- the earliest exchange that is due
  pub IsSwept-earliest : (exchange : Exchange) (exchanges rest : List Exchange) → IsSweptUpto edges done moment line exchanges told → TakesEarliest exchange exchanges rest → exchange.moment ≤ℤ moment
      → IsSwept edges done exchange.moment line (exchange ∷ rest) told
  IsSwept-earliest exchange exchanges rest upto takes within =
      let swept = upto.swept in
      let has = Contains-permutation (exchange ∷ rest) exchanges exchange (IsPermutation-sym exchanges (exchange ∷ rest) takes.left) (Contains-here exchange rest) in
      let due = All-contains (IsDue edges upto.from) exchanges exchange swept.due has in
      IsSwept-reordered edges done exchange.moment line exchanges (exchange ∷ rest) told takes.left
      (IsSwept-later edges done upto.from line exchanges told swept exchange.moment due.behind (λ k d inside. let lives = upto.alive k d inside in omega (arith, ints, lives, within)) takes.earliest)

  -- where none is due any more
  pub IsSorted-upto : (exchanges : List Exchange) → IsSweptUpto edges done moment line exchanges told → All (λ exchange. moment <ℤ exchange.moment) exchanges → IsSorted edges done moment line exchanges told
  IsSorted-upto exchanges upto none = record {
    swept = IsSwept-later edges done upto.from line exchanges told upto.swept moment upto.upto upto.alive (λ k d inside. let later = none k d inside in omega (arith, ints, later));
    none = λ k d inside within. let later = none k d inside in omega (arith, ints, later, within);
  }

-- after an exchange up to the moment
pub IsSweptUpto-next : (edges : List Edge) (done : List Event) (moment here : ℤ) (line after : Line) (exchanges later : List Exchange) (told told_now : List (ℕ × ℕ))
    → IsSweptUpto edges done moment line exchanges told → here ≤ℤ moment → IsSwept edges done here after later told_now → IsSweptUpto edges done moment after later told_now
IsSweptUpto-next edges done moment here line after exchanges later told told_now upto within swept = record {
  from = here;
  upto = within;
  alive = λ k d inside.
      let (begun, ended, _, _) = swept.of k d inside in
      let before = upto.swept in
      ⊎_elim (λ has. absurd (ended has))
      (λ there. All-contains (λ (active : ActiveEdge). moment ≤ℤ at_column active.edge.x1) line.edges (get_or after.edges k d) upto.alive there)
      (before.each (get_or after.edges k d) begun);
  swept = swept;
}

-- the measure: an exchange is used up, and where two more are put down a pair is told
pub measure_falls : (told told_now : List (ℕ × ℕ)) (exchange : Exchange) (before rest after : List Exchange) → TakesEarliest exchange before rest → GoesOn told told_now rest after → length told_now < 2 ^ 64
    → (2 * (2 ^ 64 - length told_now) + length after) < (2 * (2 ^ 64 - length told) + length before)
measure_falls told told_now exchange before rest after takes (inl (same, left)) small =
    let long = length_permutation before (exchange ∷ rest) takes.left in
    omega (arith, long, ap (λ (all : List (ℕ × ℕ)). length all) same, ap (λ (all : List Exchange). length all) left)
measure_falls told told_now exchange before rest after takes (inr (more, most)) small =
    let long = length_permutation before (exchange ∷ rest) takes.left in
    omega (arith, long, more, most, small)
