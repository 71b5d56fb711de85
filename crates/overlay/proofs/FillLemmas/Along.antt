-- What is below an edge weighs the same on each stretch of it.
use Rattle.std.proofs.Common.{◌≡◌, ℕ, zero, suc, ℤ, pos, ◌+ℤ◌, ◌-ℤ◌, ◌<ℤ◌, ◌≤ℤ◌, Bool, true, false, cond, ◌&&◌, List, refl, ap, arith, sym, subst, ◌∙◌}
use Rattle.std.specs.List.{All}
use Rattle.std.proofs.lemmas.Int.{ints, by_lt_z}
use Rattle.std.proofs.lemmas.List.Elements.{All-weaker}
use borrow.Author.Differences.{up}
use Rattle.plane.specs.declared.edge.Edge.{Edge}
use Rattle.plane.specs.SweepLine.Heights.{rightwards}
use Rattle.plane.proofs.SweepLineLemmas.Rightwards.{rightwards-left, rightwards-right}
use Rattle.overlay.specs.Fill.Counts.{is_over, is_lower_on, below_on}
use Rattle.overlay.specs.Fill.Pieces.{total, weight}
use Rattle.plane.specs.Ends.{start_of, end_of}
use Rattle.overlay.proofs.FillLemmas.Aside.{is_beneath, IsOff, IsAside}
use Rattle.overlay.proofs.FillLemmas.Balance.{AreBalanced}
use Rattle.overlay.proofs.FillLemmas.Columns.{moves, moves-weighed}
use Rattle.overlay.proofs.FillLemmas.Tests.{lt_true, lt_false}
use Rattle.overlay.proofs.FillLemmas.Totals.{total-difference, total-moved}
use Rattle.overlay.proofs.FillLemmas.Uncrossed.{uncrossed_from}
use Rattle.overlay.proofs.FillLemmas.Weights.{ending, starting, in_column, weight-none, column-weights}
use Rattle.noding.proofs.SnapLemmas.Numbers.{up_is}

-- an edge turned rightwards, whose ends aren't inside g
record Right (g r : Edge) : Type 0 where
  onwards : r.x0 <ℤ r.x1
  from : IsOff g r.x0 r.y0
  to : IsOff g r.x1 r.y1

-- what ends in the column x + 1 below g, and what begins there
abbrev column_below : Edge → ℤ → Edge → ℤ
column_below g x edge =
    ending (in_column (x +ℤ pos 1) (is_beneath g (x +ℤ pos 1))) edge -ℤ starting (in_column (x +ℤ pos 1) (is_beneath g (x +ℤ pos 1))) edge

-- what has no weight moves none
no_weight : (a b e s : Bool) → (cond a (pos 0) (pos 0) -ℤ cond b (pos 0) (pos 0)) ≡ (cond e (pos 0) (pos 0) -ℤ cond s (pos 0) (pos 0))
no_weight a b e s = rw (none a, none b, none e, none s) refl
  where
    none : (t : Bool) → cond t (pos 0) (pos 0) ≡ pos 0
    none true = refl
    none false = refl

module _ (g : Edge) (x : ℤ) (from : g.x0 ≤ℤ x) (upto : (x +ℤ pos 1) <ℤ g.x1) where
  -- from one stretch to the next, an edge that is turned rightwards moves what ends and what starts below g in between
  right_moved : (edge : Edge) → IsAside g edge → Right g (rightwards edge) → (below_on x g edge -ℤ below_on (x +ℤ pos 1) g edge) ≡ column_below g x edge
  right_moved edge noded right =
      let r = rightwards edge in
      let column = in_column (x +ℤ pos 1) (is_beneath g (x +ℤ pos 1)) in
      moves-weighed (is_over x r && is_lower_on x r g) (is_over (x +ℤ pos 1) r && is_lower_on (x +ℤ pos 1) r g) (column (end_of r)) (column (start_of r)) (weight edge)
      (moves r g x right.onwards from upto (uncrossed_from edge g (omega (arith, ints)) noded.uncrossed) right.from right.to)

  -- and so does each edge: a vertical one weighs nothing
  moved : (edge : Edge) → IsAside g edge → (below_on x g edge -ℤ below_on (x +ℤ pos 1) g edge) ≡ column_below g x edge
  moved edge noded =
      by_lt_z edge.x0 edge.x1
      (λ onwards. right_moved edge noded (subst (Right g) (sym (rightwards-right edge (lt_false edge.x1 edge.x0 (omega (arith, ints))))) (record {
        onwards = onwards;
        from = noded.from;
        to = noded.to;
      })))
      (λ back. by_lt_z edge.x1 edge.x0
      (λ less. right_moved edge noded (subst (Right g) (sym (rightwards-left edge (lt_true edge.x1 edge.x0 less))) (record {
        onwards = less;
        from = noded.to;
        to = noded.from;
      })))
      (λ onwards.
      let r = rightwards edge in
      let column = in_column (x +ℤ pos 1) (is_beneath g (x +ℤ pos 1)) in
      subst (λ (w : ℤ). (cond (is_over x r && is_lower_on x r g) w (pos 0) -ℤ cond (is_over (x +ℤ pos 1) r && is_lower_on (x +ℤ pos 1) r g) w (pos 0)) ≡ (cond (column (end_of r)) w (pos 0) -ℤ cond (column (start_of r)) w (pos 0)))
      (sym (weight-none edge (omega (arith, ints))))
      (no_weight (is_over x r && is_lower_on x r g) (is_over (x +ℤ pos 1) r && is_lower_on (x +ℤ pos 1) r g) (column (end_of r)) (column (start_of r)))))

  -- a vertical edge in the column has both ends below g, or none
  level : (edge : Edge) → IsAside g edge → edge.x0 ≡ (x +ℤ pos 1) → edge.x1 ≡ (x +ℤ pos 1) → is_beneath g (x +ℤ pos 1) edge.y0 ≡ is_beneath g (x +ℤ pos 1) edge.y1
  level edge noded first second =
      subst (λ (z : ℤ). is_beneath g z edge.y0 ≡ is_beneath g z edge.y1) first (noded.upright (first ∙ sym second) (omega (arith, ints, first)) (omega (arith, ints, first)))

  none : (a b : ℤ) → a ≡ b → (a -ℤ b) ≡ pos 0
  none a b same = omega (arith, ints, same)

  -- from one stretch to the next
  constancy : (edges : List Edge) → AreBalanced edges → All (IsAside g) edges → total (below_on x g) edges ≡ total (below_on (x +ℤ pos 1) g) edges
  constancy edges closed noded =
      let column = in_column (x +ℤ pos 1) (is_beneath g (x +ℤ pos 1)) in
      let same = column-weights (x +ℤ pos 1) (is_beneath g (x +ℤ pos 1)) edges closed (All-weaker (IsAside g) (λ edge. edge.x0 ≡ (x +ℤ pos 1) → edge.x1 ≡ (x +ℤ pos 1) → is_beneath g (x +ℤ pos 1) edge.y0 ≡ is_beneath g (x +ℤ pos 1) edge.y1) level edges noded) in
      total-moved (below_on x g) (below_on (x +ℤ pos 1) g) (column_below g x) edges
      (total-difference (ending column) (starting column) edges ∙ none (total (ending column) edges) (total (starting column) edges) same)
      (All-weaker (IsAside g) (λ edge. (below_on x g edge -ℤ below_on (x +ℤ pos 1) g edge) ≡ column_below g x edge) moved edges noded)

-- all along g
stretches : (g : Edge) (edges : List Edge) → AreBalanced edges → All (IsAside g) edges → (n : ℕ) (x : ℤ) → x ≡ (g.x0 +ℤ pos n) → x <ℤ g.x1
    → total (below_on x g) edges ≡ total (below_on g.x0 g) edges
stretches g edges closed noded zero x is upto = ap (λ z. total (below_on z g) edges) (start x g.x0 is)
  where
    start : (a b : ℤ) → a ≡ (b +ℤ pos zero) → a ≡ b
    start a b is = omega (arith, ints, is)
stretches g edges closed noded (suc n) x is upto =
    let before = g.x0 +ℤ pos n in
    let next : x ≡ (before +ℤ pos 1) = omega (arith, ints, is) in
    let further = constancy g before (omega (arith, ints)) (omega (arith, ints, next, upto)) edges closed noded in
    ap (λ z. total (below_on z g) edges) next ∙ sym further ∙ stretches g edges closed noded n before refl (omega (arith, ints, next, upto))

-- What is below g on any stretch of it weighs as much as what is below g where it begins.
pub count-along : (g : Edge) (x : ℤ) (edges : List Edge) → AreBalanced edges → All (IsAside g) edges → g.x0 ≤ℤ x → x <ℤ g.x1
    → total (below_on x g) edges ≡ total (below_on g.x0 g) edges
count-along g x edges closed noded from upto =
    let is = up_is (x -ℤ g.x0) (omega (arith, ints)) in
    stretches g edges closed noded (up (x -ℤ g.x0)) x (omega (arith, ints, is)) upto
