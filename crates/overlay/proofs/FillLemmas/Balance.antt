-- Of closed edges as many end in a set of points as start there.
use Rattle.std.proofs.Common.{◌≡◌, ℕ, ◌+◌, ℤ, pos, ◌+ℤ◌, ◌-ℤ◌, Bool, true, false, cond, List, [], ◌∷◌, refl, ap, ap₂, arith, sym, ◌∙◌}
use Rattle.std.specs.List.{count_by}
use Rattle.std.proofs.lemmas.Int.{ints}
use Rattle.std.proofs.lemmas.List.Sums.{sum_by-cons}
use Rattle.plane.specs.declared.edge.Edge.{Edge}
use Rattle.plane.specs.declared.point.Point.{Point}
use Rattle.overlay.specs.Fill.Pieces.{total}
use Rattle.plane.specs.Ends.{start_of, end_of}
use Rattle.noding.specs.Windings.{IsClosed, count}
use Rattle.overlay.proofs.FillLemmas.Totals.{total-difference}

-- What an edge carries into a set of points: 1 where it ends there, less 1 where it starts there.
abbrev pub carried : (Point → Bool) → Edge → ℤ
carried test edge = count (test (end_of edge)) -ℤ count (test (start_of edge))

-- Edges that carry nothing into any set.
abbrev pub AreBalanced : List Edge → Type 0
AreBalanced edges = (test : Point → Bool) → total (carried test) edges ≡ pos 0

-- how many pass a test, as a sum
count_more : (test : Bool) (n : ℕ) (sum : ℤ) → pos n ≡ sum → pos (cond test 1 0 + n) ≡ (count test +ℤ sum)
count_more true n sum is = omega (arith, ints, is)
count_more false n sum is = omega (arith, ints, is)

count-total : {X : Type 0} (test : X → Bool) (xs : List X) → pos (count_by test xs) ≡ total (λ x. count (test x)) xs
count-total test [] = refl
count-total test (x ∷ xs) =
    ap pos (sum_by-cons (λ y. cond (test y) 1 0) x xs)
    ∙ count_more (test x) (count_by test xs) (total (λ x. count (test x)) xs) (count-total test xs)

-- what edges carry into a set is how many end there less how many start there
pub carried-counts : (test : Point → Bool) (edges : List Edge) → total (carried test) edges ≡ (pos (count_by (λ edge. test (end_of edge)) edges) -ℤ pos (count_by (λ edge. test (start_of edge)) edges))
carried-counts test edges =
    total-difference (λ edge. count (test (end_of edge))) (λ edge. count (test (start_of edge))) edges
    ∙ sym (ap₂ (λ a b. a -ℤ b) (count-total (λ (edge : Edge). test (end_of edge)) edges) (count-total (λ (edge : Edge). test (start_of edge)) edges))

-- closed edges carry nothing into any set
pub balanced : (edges : List Edge) → IsClosed edges → AreBalanced edges
balanced edges closed test = carried-counts test edges ∙ none (count_by (λ (edge : Edge). test (end_of edge)) edges) (count_by (λ (edge : Edge). test (start_of edge)) edges) (closed test)
  where
    none : (m n : ℕ) → n ≡ m → (pos m -ℤ pos n) ≡ pos 0
    none m n same = omega (arith, ints, same)
