-- How many edges begin before an edge: fewer than before one that begins later. And what is below an edge where it begins begins
-- before it.
use Rattle.std.proofs.Common.{◌≡◌, ◌≢◌, inl, inr, ℕ, zero, suc, ◌+◌, ◌<◌, ◌≤◌, ◌<ℤ◌, Bool, true, false, cond, List, [], ◌∷◌, Some, refl, ap, sym, ◌∙◌, arith}
use Rattle.std.specs.List.{Contains, count_by}
use Rattle.std.proofs.lemmas.Int.{ints}
use Rattle.std.proofs.lemmas.List.Sums.{sum_by-cons}
use Rattle.i_tree.proofs.RootLemmas.Lists.{Contains-here, Contains-there}
use Rattle.plane.specs.declared.edge.Edge.{Edge}
use Rattle.plane.specs.SweepLine.Heights.{rightwards}
use Rattle.overlay.specs.Fill.Counts.{is_lower_on, is_over}
use Rattle.overlay.specs.Polygons.{begins_before}
use Rattle.overlay.proofs.FillLemmas.Level.{MeetOnly}
use Rattle.overlay.proofs.FillLemmas.Order.{lower-asym, lower-irrefl}
use Rattle.overlay.proofs.FillLemmas.Tests.{over_is}
use Rattle.overlay.proofs.GroupingLemmas.Begins.{Upto, as_piece}
use Rattle.overlay.proofs.PieceLemmas.Begins.{BeginsUpto-trans, not_before, weak_order}
use Rattle.overlay.proofs.PieceLemmas.Made.{begins-lower}

never : true ≡ false → ⊥
never h = cc

-- ---- counts

module _ (one other : Edge → Bool) where
  -- what passes the one test passes the other
  counts-upto : (edges : List Edge) → ((edge : Edge) → Contains edges edge → one edge ≡ true → other edge ≡ true) → count_by one edges ≤ count_by other edges
  counts-upto [] more = omega arith
  counts-upto (edge ∷ edges) more =
      by (one edge) (other edge) (more edge (Contains-here edge edges)) (counts-upto edges (λ e held. more e (Contains-there edge edges e held))) (sum_by-cons (λ e. cond (one e) 1 0) edge edges) (sum_by-cons (λ e. cond (other e) 1 0) edge edges)
    where
      by : (s t : Bool) → (s ≡ true → t ≡ true) → count_by one edges ≤ count_by other edges → count_by one (edge ∷ edges) ≡ cond s 1 0 + count_by one edges → count_by other (edge ∷ edges) ≡ cond t 1 0 + count_by other edges
          → count_by one (edge ∷ edges) ≤ count_by other (edge ∷ edges)
      by true true imply upto first second = omega (arith, upto, first, second)
      by false t imply upto first second = omega (arith, upto, first, second)
      by true false imply upto first second = absurd (never (sym (imply refl)))

  -- and an edge that passes the other alone makes a difference
  counts-less : (edges : List Edge) → ((edge : Edge) → Contains edges edge → one edge ≡ true → other edge ≡ true) → (at : Edge) → Contains edges at → one at ≡ false → other at ≡ true → count_by one edges < count_by other edges
  counts-less [] more at (k, within, is) fails passes = absurd (omega (arith, within))
  counts-less (edge ∷ edges) more at (zero, within, is) fails passes =
      by (one edge) (other edge) (ap one is ∙ fails) (ap other is ∙ passes) (counts-upto edges (λ e held. more e (Contains-there edge edges e held))) (sum_by-cons (λ e. cond (one e) 1 0) edge edges) (sum_by-cons (λ e. cond (other e) 1 0) edge edges)
    where
      by : (s t : Bool) → s ≡ false → t ≡ true → count_by one edges ≤ count_by other edges → count_by one (edge ∷ edges) ≡ cond s 1 0 + count_by one edges → count_by other (edge ∷ edges) ≡ cond t 1 0 + count_by other edges
          → count_by one (edge ∷ edges) < count_by other (edge ∷ edges)
      by false true isnt is upto first second = omega (arith, upto, first, second)
      by true t isnt is upto first second = absurd (never isnt)
      by false false isnt is upto first second = absurd (never (sym is))
  counts-less (edge ∷ edges) more at (suc k, within, is) fails passes =
      by (one edge) (other edge) (more edge (Contains-here edge edges)) (counts-less edges (λ e held. more e (Contains-there edge edges e held)) at (k, omega (arith, within), is) fails passes)
      (sum_by-cons (λ e. cond (one e) 1 0) edge edges) (sum_by-cons (λ e. cond (other e) 1 0) edge edges)
    where
      by : (s t : Bool) → (s ≡ true → t ≡ true) → count_by one edges < count_by other edges → count_by one (edge ∷ edges) ≡ cond s 1 0 + count_by one edges → count_by other (edge ∷ edges) ≡ cond t 1 0 + count_by other edges
          → count_by one (edge ∷ edges) < count_by other (edge ∷ edges)
      by true true imply less first second = omega (arith, less, first, second)
      by false t imply less first second = omega (arith, less, first, second)
      by true false imply less first second = absurd (never (sym (imply refl)))

-- ---- edges that begin before one

-- the one begins before the other or as it does, or the other begins before it
before-or : (one other : Edge) → ¬ (Upto one other) → begins_before other (Some one) ≡ true
before-or one other isnt = by (begins_before other (Some one)) refl
  where
    by : (t : Bool) → begins_before other (Some one) ≡ t → t ≡ true
    by true told = refl
    by false told = absurd (isnt (not_before (as_piece other) (as_piece one) told))

-- and what begins before another one begins no later
before-upto : (one other : Edge) → begins_before one (Some other) ≡ true → Upto one other
before-upto one other told = not_before (as_piece other) (as_piece one) (weak_order.one_way (as_piece one) (as_piece other) told)

-- no edge begins before itself
not-itself : (edge : Edge) → begins_before edge (Some edge) ≡ false
not-itself edge = by (begins_before edge (Some edge)) refl
  where
    by : (t : Bool) → begins_before edge (Some edge) ≡ t → begins_before edge (Some edge) ≡ false
    by true told = weak_order.one_way (as_piece edge) (as_piece edge) told
    by false told = told

-- How many of the edges begin before this one.
pub begun : List Edge → Edge → ℕ
begun edges edge = count_by (λ other. begins_before other (Some edge)) edges

-- They are fewer than before another one that begins later.
pub fewer-begun : (edges : List Edge) (one other : Edge) → Contains edges one → ¬ (Upto other one) → begun edges one < begun edges other
unfolding begun
fewer-begun edges one other among later =
    counts-less (λ edge. begins_before edge (Some one)) (λ edge. begins_before edge (Some other)) edges
    (λ edge held first. before-or other edge (λ upto. later (BeginsUpto-trans (rightwards other) (rightwards edge) (rightwards one) upto (before-upto edge one first))))
    one among (not-itself one) (before-or other one later)

-- What is below an edge where it begins begins before it.
module _ (edge below : Edge) (meet : MeetOnly (rightwards edge) (rightwards below)) (onwards : (rightwards edge).x0 <ℤ (rightwards edge).x1) (over : is_over (rightwards edge).x0 (rightwards below) ≡ true)
    (less : is_lower_on (rightwards edge).x0 (rightwards below) (rightwards edge) ≡ true) where
  abbrev r : Edge
  r = rightwards edge

  abbrev s : Edge
  s = rightwards below

  apart : r ≢ s
  apart same = never (sym less ∙ ap (λ (e : Edge). is_lower_on r.x0 e r) (sym same) ∙ lower-irrefl r.x0 r)

  pub below-begins : ¬ (Upto edge below)
  below-begins (inl further) = let (start, end) = over_is r.x0 s over in omega (arith, ints, start, further)
  below-begins (inr (level, rest)) =
      let (start, end) = over_is r.x0 s over in
      never (sym (begins-lower r s meet apart onwards (omega (arith, ints, start, end)) level (inr (level, rest))) ∙ lower-asym r.x0 s r less)
