-- What ends in a set of points weighs as much as what starts there, each edge turned rightwards.
use Rattle.std.proofs.Common.{◌≡◌, ℤ, pos, negsuc, ◌-ℤ◌, ◌<ℤ◌, Bool, true, false, cond, ◌&&◌, List, refl, ap, arith, sym, ◌∙◌}
use Rattle.std.specs.List.{All}
use Rattle.std.specs.Ordering.{int_eq}
use Rattle.std.proofs.lemmas.Bool.Decides.{Decides-int_eq}
use Rattle.std.proofs.lemmas.Int.{ints, by_lt_z}
use Rattle.std.proofs.lemmas.List.Elements.{All-weaker}
use Rattle.plane.specs.declared.edge.Edge.{Edge}
use Rattle.plane.specs.declared.point.Point.{Point}
use Rattle.plane.specs.SweepLine.Heights.{rightwards}
use Rattle.plane.proofs.SweepLineLemmas.Rightwards.{rightwards-left, rightwards-right}
use Rattle.overlay.specs.Fill.Pieces.{total, weight}
use Rattle.plane.specs.Ends.{reversed, start_of, end_of}
use Rattle.noding.specs.Windings.{count}
use Rattle.overlay.proofs.FillLemmas.Balance.{carried, AreBalanced}
use Rattle.overlay.proofs.FillLemmas.Tests.{lt_true, lt_false}
use Rattle.overlay.proofs.FillLemmas.Totals.{total-moved}

-- The weight of an edge whose right end passes the test, and of one whose left end does.
abbrev pub ending : (Point → Bool) → Edge → ℤ
ending test edge = cond (test (end_of (rightwards edge))) (weight edge) (pos 0)

abbrev pub starting : (Point → Bool) → Edge → ℤ
starting test edge = cond (test (start_of (rightwards edge))) (weight edge) (pos 0)

-- The points of the column x whose y passes the test.
abbrev pub in_column : ℤ → (ℤ → Bool) → Point → Bool
in_column x test point = int_eq point.x x && test point.y

-- ---- weights

-- the weight of an edge by the way that it goes
pub weight-right : (edge : Edge) → edge.x0 <ℤ edge.x1 → weight edge ≡ pos 1
weight-right edge onwards = rw (lt_true edge.x0 edge.x1 onwards) refl

pub weight-left : (edge : Edge) → edge.x1 <ℤ edge.x0 → weight edge ≡ negsuc 0
weight-left edge back = rw (lt_false edge.x0 edge.x1 (omega (arith, ints)), lt_true edge.x1 edge.x0 back) refl

pub weight-none : (edge : Edge) → edge.x0 ≡ edge.x1 → weight edge ≡ pos 0
weight-none edge level = rw (lt_false edge.x0 edge.x1 (omega (arith, ints)), lt_false edge.x1 edge.x0 (omega (arith, ints))) refl

-- a weight of -1 at its right and left end, and none
left_counts : (a b : Bool) → (cond a (negsuc 0) (pos 0) -ℤ cond b (negsuc 0) (pos 0)) ≡ (count b -ℤ count a)
left_counts true true = refl
left_counts true false = refl
left_counts false true = refl
left_counts false false = refl

none_counts : (a b : Bool) → b ≡ a → (cond a (pos 0) (pos 0) -ℤ cond b (pos 0) (pos 0)) ≡ (count a -ℤ count b)
none_counts true true same = refl
none_counts true false same = cc
none_counts false true same = cc
none_counts false false same = refl

-- ---- an edge's two ends

-- with an edge's right and left end_of, and its weight
abbrev weighed : (Point → Bool) → Edge → ℤ → ℤ
weighed test edge w = cond (test (end_of edge)) w (pos 0) -ℤ cond (test (start_of edge)) w (pos 0)

-- so an edge's weight at its right end less that at its left end is what it carries
ending-carried : (test : Point → Bool) (edge : Edge) → (edge.x0 ≡ edge.x1 → test (start_of edge) ≡ test (end_of edge))
    → (ending test edge -ℤ starting test edge) ≡ carried test edge
ending-carried test edge level =
    by_lt_z edge.x0 edge.x1
    (λ onwards.
    ap (λ r. weighed test r (weight edge)) (rightwards-right edge (lt_false edge.x1 edge.x0 (omega (arith, ints))))
    ∙ ap (weighed test edge) (weight-right edge onwards))
    (λ back. by_lt_z edge.x1 edge.x0
    (λ less.
    ap (λ r. weighed test r (weight edge)) (rightwards-left edge (lt_true edge.x1 edge.x0 less))
    ∙ ap (weighed test (reversed edge)) (weight-left edge less)
    ∙ left_counts (test (start_of edge)) (test (end_of edge)))
    (λ onwards.
    let same : edge.x0 ≡ edge.x1 = omega (arith, ints) in
    ap (λ r. weighed test r (weight edge)) (rightwards-right edge (lt_false edge.x1 edge.x0 onwards))
    ∙ ap (weighed test edge) (weight-none edge same)
    ∙ none_counts (test (end_of edge)) (test (start_of edge)) (level same)))

-- Where a vertical edge has both of its ends in the set or neither, what ends there weighs as much as what begins.
pub weights : (test : Point → Bool) (edges : List Edge) → AreBalanced edges
    → All (λ edge. edge.x0 ≡ edge.x1 → test (start_of edge) ≡ test (end_of edge)) edges
    → total (ending test) edges ≡ total (starting test) edges
weights test edges closed levels =
    total-moved (ending test) (starting test) (carried test) edges (closed test)
    (All-weaker (λ edge. edge.x0 ≡ edge.x1 → test (start_of edge) ≡ test (end_of edge)) (λ edge. (ending test edge -ℤ starting test edge) ≡ carried test edge) (ending-carried test) edges levels)

-- ---- in a column

-- a vertical edge has both ends in the column's part or none, where that is so of their y's
column_level : (x : ℤ) (test : ℤ → Bool) (edge : Edge) → (edge.x0 ≡ x → edge.x1 ≡ x → test edge.y0 ≡ test edge.y1)
    → edge.x0 ≡ edge.x1 → in_column x test (start_of edge) ≡ in_column x test (end_of edge)
column_level x test edge both level = by (int_eq edge.x0 x) refl
  where
    by : (t : Bool) → int_eq edge.x0 x ≡ t → in_column x test (start_of edge) ≡ in_column x test (end_of edge)
    by true e =
        let at : edge.x0 ≡ x = (Decides-int_eq edge.x0 x).0 e in
        ap (λ z. int_eq z x && test edge.y0) level ∙ ap (λ t. int_eq edge.x1 x && t) (both at (sym level ∙ at))
    by false e =
        let other : int_eq edge.x1 x ≡ false = ap (λ z. int_eq z x) (sym level) ∙ e in
        ap (λ t. t && test edge.y0) e ∙ sym (ap (λ t. t && test edge.y1) other)

-- So what ends in a column's part weighs as much as what starts there.
pub column-weights : (x : ℤ) (test : ℤ → Bool) (edges : List Edge) → AreBalanced edges
    → All (λ edge. edge.x0 ≡ x → edge.x1 ≡ x → test edge.y0 ≡ test edge.y1) edges
    → total (ending (in_column x test)) edges ≡ total (starting (in_column x test)) edges
column-weights x test edges closed levels =
    weights (in_column x test) edges closed
    (All-weaker (λ edge. edge.x0 ≡ x → edge.x1 ≡ x → test edge.y0 ≡ test edge.y1) (λ edge. edge.x0 ≡ edge.x1 → in_column x test (start_of edge) ≡ in_column x test (end_of edge)) (column_level x test) edges levels)
