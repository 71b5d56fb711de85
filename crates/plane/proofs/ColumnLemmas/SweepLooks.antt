-- Two neighbours that are looked at: their exchange is put down, if there is one.
use Rattle.std.proofs.Common.{inl, inr, ◌≤◌, ◌+◌, ℤ, List, ◌∷◌, Option, Some, None, IfSome, length, arith, sym, ap, subst}
use Rattle.std.specs.List.{All, Contains}
use Rattle.std.proofs.lemmas.Int.{by_lt_z}
use Rattle.std.proofs.lemmas.List.Elements.{All-cons}
use Rattle.std.proofs.lemmas.List.Sorted.{All-permutation, Contains-permutation, length_permutation}
use Rattle.i_tree.proofs.RootLemmas.Lists.{Contains-here, Contains-there}
use Rattle.plane.specs.declared.edge.Edge.{Edge}
use Rattle.plane.specs.declared.sweep_line.active.ActiveEdge.{ActiveEdge}
use Rattle.plane.specs.declared.columns.exchanges.Exchange.{Exchange}
use Rattle.plane.specs.Columns.Sweep.{CanLookAt, IsAwaited, IsDue, LooksAt, LooksAtBoth}
use Rattle.plane.specs.SweepLine.Begun.{IsOneOf}

-- each exchange of the one list is of the other
abbrev pub Keeps : List Exchange → List Exchange → Type 0
Keeps before after = (exchange : Exchange) → Contains before exchange → Contains after exchange

pub awaited_more : (from : ℤ) (lower upper : ActiveEdge) (before after : List Exchange) → Keeps before after → IsAwaited before from lower upper → IsAwaited after from lower upper
awaited_more from lower upper before after keeps awaited later behind common above =
    let (exchange, has, below, over, upto) = awaited later behind common above in
    (exchange, keeps exchange has, below, over, upto)

module _ (from : ℤ) (before after : List Exchange) where
  pub keeps_looked : (lower upper : ActiveEdge) → LooksAt lower upper from before after → Keeps before after
  keeps_looked lower upper (inl (same, never)) exchange has = subst (λ (all : List Exchange). Contains all exchange) (sym same) has
  keeps_looked lower upper (inr (put, moved, below, over, first)) exchange has = Contains-permutation (put ∷ before) after exchange moved (Contains-there put before exchange has)

  pub awaited_looked : (lower upper : ActiveEdge) → LooksAt lower upper from before after → IsAwaited after from lower upper
  awaited_looked lower upper (inl (same, never)) later behind common above = absurd (never later behind common above)
  awaited_looked lower upper (inr (put, moved, below, over, first)) later behind common above = (
    put,
    Contains-permutation (put ∷ before) after put moved (Contains-here put before),
    below,
    over,
    by_lt_z later put.moment (λ earlier. absurd (first.not_before later behind earlier above)) (λ upto. upto),
  )

  due_looked : (edges : List Edge) (lower upper : ActiveEdge) → IsOneOf edges lower → IsOneOf edges upper → LooksAt lower upper from before after → All (IsDue edges from) before → All (IsDue edges from) after
  due_looked edges lower upper one one_too (inl (same, never)) due = subst (All (IsDue edges from)) (sym same) due
  due_looked edges lower upper one one_too (inr (put, moved, below, over, first)) due =
      All-permutation (IsDue edges from) (put ∷ before) after moved
      (All-cons (IsDue edges from) put before
      (record {
        lower = lower;
        upper = upper;
        lower_one = one;
        upper_one = one_too;
        below = below;
        above = over;
        behind = first.behind;
        common = first.common;
        is_above = first.above;
      })
      due)

  length_looked : (lower upper : ActiveEdge) → LooksAt lower upper from before after → length after ≤ (length before + 1)
  length_looked lower upper (inl (same, never)) = omega (arith, ap (λ (all : List Exchange). length all) same)
  length_looked lower upper (inr (put, moved, below, over, first)) = omega (arith, length_permutation (put ∷ before) after moved)

  -- where one of them may not be there
  pub keeps_both : (lower upper : Option ActiveEdge) → LooksAtBoth lower upper from before after → Keeps before after
  keeps_both (Some lower) (Some upper) looks exchange has = keeps_looked lower upper looks exchange has
  keeps_both (Some lower) None looks exchange has = subst (λ (all : List Exchange). Contains all exchange) (sym looks) has
  keeps_both None upper looks exchange has = subst (λ (all : List Exchange). Contains all exchange) (sym looks) has

  pub due_both : (edges : List Edge) (lower upper : Option ActiveEdge) → IfSome lower (IsOneOf edges) → IfSome upper (IsOneOf edges) → LooksAtBoth lower upper from before after
      → All (IsDue edges from) before → All (IsDue edges from) after
  due_both edges (Some lower) (Some upper) one one_too looks due = due_looked edges lower upper one one_too looks due
  due_both edges (Some lower) None one one_too looks due = subst (All (IsDue edges from)) (sym looks) due
  due_both edges None upper one one_too looks due = subst (All (IsDue edges from)) (sym looks) due

  pub length_both : (lower upper : Option ActiveEdge) → LooksAtBoth lower upper from before after → length after ≤ (length before + 1)
  length_both (Some lower) (Some upper) looks = length_looked lower upper looks
  length_both (Some lower) None looks = omega (arith, ap (λ (all : List Exchange). length all) looks)
  length_both None upper looks = omega (arith, ap (λ (all : List Exchange). length all) looks)

  -- the one that is there, and the other
  pub below_looked : (told : Option ActiveEdge) (upper : ActiveEdge) → LooksAtBoth told (Some upper) from before after → IfSome told (λ lower. IsAwaited after from lower upper)
  below_looked None upper looks = tt
  below_looked (Some lower) upper looks = awaited_looked lower upper looks

  pub above_looked : (lower : ActiveEdge) (told : Option ActiveEdge) → LooksAtBoth (Some lower) told from before after → IfSome told (λ upper. IsAwaited after from lower upper)
  above_looked lower None looks = tt
  above_looked lower (Some upper) looks = awaited_looked lower upper looks

pub can_look_below : (from : ℤ) (told : Option ActiveEdge) (upper : ActiveEdge) → IfSome told (λ lower. CanLookAt (Some lower) (Some upper) from) → CanLookAt told (Some upper) from
can_look_below from None upper can = tt
can_look_below from (Some lower) upper can = can

pub can_look_above : (from : ℤ) (lower : ActiveEdge) (told : Option ActiveEdge) → IfSome told (λ upper. CanLookAt (Some lower) (Some upper) from) → CanLookAt (Some lower) told from
can_look_above from lower None can = tt
can_look_above from lower (Some upper) can = can
