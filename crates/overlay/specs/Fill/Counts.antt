-- The winding numbers just below and just above a piece, and which pieces are kept.
use Rattle.std.specs.Prelude.{Bool, cond, not, ◌&&◌, List, [], ◌∷◌, ℤ, pos, ◌+ℤ◌}
use Rattle.std.specs.Int.Signed.{lt_z}
use Rattle.plane.specs.declared.edge.Edge.{Edge}
use Rattle.plane.specs.SweepLine.Heights.{rightwards, height_by_runs}
pub use Rattle.overlay.specs.declared.fill.counts.Counts.{Counts}
use Rattle.overlay.specs.declared.fill.pieces.Piece.{Piece}
use Rattle.overlay.specs.Fill.Pieces.{total, weight}
use Rattle.plane.specs.Ends.{reversed}

-- The edge covers the stretch from x to x + 1.
abbrev pub is_over : ℤ → Edge → Bool
is_over x edge = not (lt_z x edge.x0) && lt_z x edge.x1

-- In the middle of the stretch from x to x + 1 the one is below the other.
abbrev pub is_lower_on : ℤ → Edge → Edge → Bool
is_lower_on x one other =
    lt_z (height_by_runs one other x +ℤ height_by_runs one other (x +ℤ pos 1)) (height_by_runs other one x +ℤ height_by_runs other one (x +ℤ pos 1))

-- The weight of an edge, if it covers the stretch from x on and is below g there.
abbrev pub below_on : ℤ → Edge → Edge → ℤ
below_on x g edge = cond (is_over x (rightwards edge) && is_lower_on x (rightwards edge) g) (weight edge) (pos 0)

-- What is just below a piece where it begins, and just above it.
abbrev pub counts_below : List Edge → List Edge → Piece → Counts
counts_below subject clip piece = record {
  subject = total (below_on piece.edge.x0 piece.edge) subject;
  clip = total (below_on piece.edge.x0 piece.edge) clip;
}

abbrev pub counts_above : List Edge → List Edge → Piece → Counts
counts_above subject clip piece = record {
  subject = total (below_on piece.edge.x0 piece.edge) subject +ℤ piece.subject;
  clip = total (below_on piece.edge.x0 piece.edge) clip +ℤ piece.clip;
}

-- Of a piece with the inside above it alone the edge is kept, of one with the inside below it alone the reversed edge: the
-- inside is on its left. Of a piece with the inside on both sides, or on none, nothing is kept.
abbrev pub kept_edge : Bool → Bool → Edge → List Edge → List Edge
kept_edge below above edge others = cond above (cond below others (edge ∷ others)) (cond below (reversed edge ∷ others) others)

-- The edges kept of pieces.
abbrev pub kept_edges : (Counts → Bool) → List Edge → List Edge → List Piece → List Edge
kept_edges inside subject clip [] = []
kept_edges inside subject clip (piece ∷ pieces) =
    kept_edge (inside (counts_below subject clip piece)) (inside (counts_above subject clip piece)) piece.edge (kept_edges inside subject clip pieces)
