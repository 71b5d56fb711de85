-- How often edges wind around a point, as sums over edges and over pieces.
use Rattle.std.proofs.Common.{◌≡◌, ℤ, pos, negsuc, ◌+ℤ◌, ◌-ℤ◌, ◌<ℤ◌, Bool, true, false, cond, List, [], ◌∷◌, refl, ap, ap₂, arith, sym, ◌∙◌}
use Rattle.std.specs.List.{All}
use Rattle.std.proofs.lemmas.Int.{ints, by_lt_z}
use Rattle.std.proofs.lemmas.List.Elements.{All-head, All-tail}
use Rattle.plane.specs.declared.edge.Edge.{Edge}
use Rattle.plane.specs.Meet.Edges.{RationalPoint}
use Rattle.plane.specs.SweepLine.Heights.{rightwards}
use Rattle.plane.proofs.SweepLineLemmas.Rightwards.{rightwards-left, rightwards-right, rightwards-same}
use Rattle.overlay.specs.declared.fill.pieces.Piece.{Piece}
use Rattle.overlay.specs.Fill.Counts.{Counts, counts_below, counts_above, kept_edge, kept_edges}
use Rattle.overlay.specs.Fill.Pieces.{total, weight}
use Rattle.plane.specs.Ends.{reversed}
use Rattle.noding.specs.Windings.{winding, count}
use Rattle.overlay.proofs.FillLemmas.Tests.{lt_true, lt_false}
use Rattle.overlay.proofs.FillLemmas.Weights.{weight-right, weight-left, weight-none}
use Rattle.noding.proofs.SnapLemmas.Numbers.{both}
use Rattle.noding.proofs.SnapLemmas.Counted.{added, is_counted, under}
use Rattle.noding.proofs.SnapLemmas.Windings.{back, under-right, under-left, winding-added}

-- what an edge counts that goes rightwards, and what the reversed one does
less_count : (z : ℤ) (t : Bool) → z ≡ (pos 0 -ℤ count t) → z ≡ cond t (negsuc 0) (pos 0)
less_count z true is = is
less_count z false is = is

right-counts : (edge : Edge) (point : RationalPoint) → edge.x0 <ℤ edge.x1 → under edge point ≡ cond (is_counted edge point) (pos 1) (pos 0)
right-counts edge point onwards = under-right edge point (omega (arith, ints, onwards))

left-counts : (edge : Edge) (point : RationalPoint) → edge.x0 <ℤ edge.x1 → under (reversed edge) point ≡ cond (is_counted edge point) (negsuc 0) (pos 0)
left-counts edge point onwards = less_count (under (reversed edge) point) (is_counted edge point) (under-left (reversed edge) point (omega (arith, ints, onwards)))

-- ---- edges

-- an edge counts its weight where it is under the point, turned rightwards
abbrev part : RationalPoint → Edge → ℤ
part point edge = cond (is_counted (rightwards edge) point) (weight edge) (pos 0)

-- what counts nothing is no part
no_part : (z : ℤ) (t : Bool) → z ≡ pos 0 → z ≡ cond t (pos 0) (pos 0)
no_part z true none = none
no_part z false none = none

-- each edge does
under-part : (edge : Edge) (point : RationalPoint) → under edge point ≡ part point edge
under-part edge point =
    by_lt_z edge.x0 edge.x1
    (λ onwards.
    right-counts edge point onwards
    ∙ sym (ap₂ (λ (r : Edge) w. cond (is_counted r point) w (pos 0)) (rightwards-right edge (lt_false edge.x1 edge.x0 (omega (arith, ints, onwards)))) (weight-right edge onwards)))
    (λ upto. by_lt_z edge.x1 edge.x0
    (λ leftwards.
    left-counts (reversed edge) point leftwards
    ∙ sym (ap₂ (λ (r : Edge) w. cond (is_counted r point) w (pos 0)) (rightwards-left edge (lt_true edge.x1 edge.x0 leftwards)) (weight-left edge leftwards)))
    (λ from.
    no_part (under edge point) (is_counted (rightwards edge) point) (under-right edge point from ∙ back edge point upto)
    ∙ sym (ap (λ w. cond (is_counted (rightwards edge) point) w (pos 0)) (weight-none edge (omega (arith, ints, upto, from))))))

-- so winding numbers are sums of weights
added-total : (edges : List Edge) (point : RationalPoint) → added edges point ≡ total (part point) edges
added-total [] point = refl
added-total (edge ∷ edges) point =
    both (under edge point) (part point edge) (added edges point) (total (part point) edges) (under-part edge point) (added-total edges point)

pub winding-total : (edges : List Edge) (point : RationalPoint) → winding edges point ≡ total (λ edge. cond (is_counted (rightwards edge) point) (weight edge) (pos 0)) edges
winding-total edges point = winding-added edges point ∙ added-total edges point

-- ---- kept edges

-- A kept piece counts 1 with the inside above it, -1 with the inside below it.
abbrev pub kept : (Counts → Bool) → List Edge → List Edge → Piece → ℤ
kept inside subject clip piece = count (inside (counts_above subject clip piece)) -ℤ count (inside (counts_below subject clip piece))

-- nothing is kept of a piece
nothing : (u : Bool) (rest sum : ℤ) → rest ≡ sum → rest ≡ (cond u (pos 0) (pos 0) +ℤ sum)
nothing true rest sum is = omega (arith, ints, is)
nothing false rest sum is = omega (arith, ints, is)

-- whichever edges are asked for, kept edges weigh what the pieces of them count
module _ (test : Edge → Bool) where
  abbrev asked : Edge → ℤ
  asked edge = cond (test (rightwards edge)) (weight edge) (pos 0)

  asked-right : (edge : Edge) → edge.x0 <ℤ edge.x1 → asked edge ≡ cond (test edge) (pos 1) (pos 0)
  asked-right edge onwards = ap₂ (λ (r : Edge) w. cond (test r) w (pos 0)) (rightwards-same edge onwards) (weight-right edge onwards)

  asked-left : (edge : Edge) → edge.x0 <ℤ edge.x1 → asked (reversed edge) ≡ cond (test edge) (negsuc 0) (pos 0)
  asked-left edge onwards = ap₂ (λ (r : Edge) w. cond (test r) w (pos 0)) (rightwards-left (reversed edge) (lt_true edge.x0 edge.x1 onwards)) (weight-left (reversed edge) onwards)

  one_kept : (edge : Edge) (rest : List Edge) (sum : ℤ) → edge.x0 <ℤ edge.x1 → total asked rest ≡ sum → (below above : Bool)
      → total asked (kept_edge below above edge rest) ≡ (cond (test edge) (count above -ℤ count below) (pos 0) +ℤ sum)
  one_kept edge rest sum onwards is true true = nothing (test edge) (total asked rest) sum is
  one_kept edge rest sum onwards is false true = ap₂ (λ c d. c +ℤ d) (asked-right edge onwards) is
  one_kept edge rest sum onwards is true false = ap₂ (λ c d. c +ℤ d) (asked-left edge onwards) is
  one_kept edge rest sum onwards is false false = nothing (test edge) (total asked rest) sum is

  pub total-kept : (inside : Counts → Bool) (subject clip : List Edge) (pieces : List Piece) → All (λ piece. piece.edge.x0 <ℤ piece.edge.x1) pieces
      → total (λ edge. cond (test (rightwards edge)) (weight edge) (pos 0)) (kept_edges inside subject clip pieces) ≡ total (λ piece. cond (test piece.edge) (kept inside subject clip piece) (pos 0)) pieces
  total-kept inside subject clip [] all = refl
  total-kept inside subject clip (piece ∷ pieces) all =
      one_kept piece.edge (kept_edges inside subject clip pieces) (total (λ (p : Piece). cond (test p.edge) (kept inside subject clip p) (pos 0)) pieces)
      (All-head (λ (p : Piece). p.edge.x0 <ℤ p.edge.x1) piece pieces all) (total-kept inside subject clip pieces (All-tail (λ (p : Piece). p.edge.x0 <ℤ p.edge.x1) piece pieces all))
      (inside (counts_below subject clip piece)) (inside (counts_above subject clip piece))

-- so they wind around a point as the pieces under it count
pub winding-kept : (inside : Counts → Bool) (subject clip : List Edge) (point : RationalPoint) (pieces : List Piece) → All (λ piece. piece.edge.x0 <ℤ piece.edge.x1) pieces
    → winding (kept_edges inside subject clip pieces) point ≡ total (λ piece. cond (is_counted piece.edge point) (kept inside subject clip piece) (pos 0)) pieces
winding-kept inside subject clip point pieces all =
    winding-total (kept_edges inside subject clip pieces) point ∙ total-kept (λ edge. is_counted edge point) inside subject clip pieces all
