-- The sweep of a fill: the counts below and above pieces that begin in turn, and which are kept.
use Rattle.std.specs.Prelude.{◌++◌, ◌^◌, ◌<◌, ℕ, Bool, ◌&&◌, ℤ, pos, ◌+ℤ◌, ◌-ℤ◌, ◌≤ℤ◌, ◌<ℤ◌, List, [], ◌∷◌, Option, Some, None, get_or}
use Rattle.plane.specs.declared.edge.Edge.{Edge}
use Rattle.plane.specs.Meet.Crosses.{IsWithin}
use Rattle.plane.specs.SweepLine.Active.{Entry}
use Rattle.overlay.specs.declared.fill.counts.Counts.{Counts}
use Rattle.overlay.specs.declared.fill.pieces.Piece.{Piece}
use Rattle.overlay.specs.Fill.Begins.{BeginInOrder}
use Rattle.overlay.specs.Fill.Counts.{is_over, is_lower_on, kept_edge}
use Rattle.overlay.specs.Fill.Filled.{AreNoded}
use Rattle.overlay.specs.Fill.Pieces.{ArePieces, total}
use Rattle.overlay.specs.Fill.Turned.{asked}
use Rattle.noding.specs.Windings.{IsClosed}

-- The edge covers the stretch from x on and is below g there.
abbrev pub is_below_on : ℤ → Edge → Edge → Bool
is_below_on x g edge = is_over x edge && is_lower_on x edge g

-- What is just below a piece where it begins, of all pieces, and what is just above it.
abbrev pub below_of : List Piece → Piece → Counts
below_of pieces piece = record {
  subject = total (asked (is_below_on piece.edge.x0 piece.edge) (λ p. p.subject)) pieces;
  clip = total (asked (is_below_on piece.edge.x0 piece.edge) (λ p. p.clip)) pieces;
}

-- the sums are numbers of 64 bits
pub record Fits (counts : Counts) (piece : Piece) : Type 0 where
  pub from : (pos 0 -ℤ pos (2 ^ 63)) ≤ℤ (counts.subject +ℤ piece.subject)
  pub below : (counts.subject +ℤ piece.subject) <ℤ pos (2 ^ 63)
  pub clip_from : (pos 0 -ℤ pos (2 ^ 63)) ≤ℤ (counts.clip +ℤ piece.clip)
  pub clip_below : (counts.clip +ℤ piece.clip) <ℤ pos (2 ^ 63)

abbrev pub plus : Counts → Piece → Counts
plus counts piece = record { subject = counts.subject +ℤ piece.subject; clip = counts.clip +ℤ piece.clip }

-- The edges kept of some of the pieces.
abbrev pub kept_of : (Counts → Bool) → List Piece → List Piece → List Edge
kept_of inside all [] = []
kept_of inside all (piece ∷ pieces) = kept_edge (inside (below_of all piece)) (inside (plus (below_of all piece) piece)) piece.edge (kept_of inside all pieces)

-- Whichever of the pieces are asked for, they weigh at most so much, either way.
abbrev pub WeighUpto : ℕ → List Piece → Type 0
WeighUpto most pieces =
    (test : Edge → Bool) → IsWithin most (total (asked test (λ piece. piece.subject)) pieces) × IsWithin most (total (asked test (λ piece. piece.clip)) pieces)

-- The pieces of closed and noded edges, in the order in which they begin.
pub record AreFillPieces (pieces : List Piece) : Type 0 where
  pub subject : List Edge
  pub clip : List Edge
  pub closed : IsClosed subject
  pub clip_closed : IsClosed clip
  pub noded : AreNoded (subject ++ clip)
  pub are : ArePieces subject clip pieces
  pub order : BeginInOrder pieces
  pub most : ℕ
  pub weigh : WeighUpto most pieces
  pub countable : most < 2 ^ 63

abbrev pub nothing : Counts
nothing = record { subject = pos 0; clip = pos 0 }

-- a piece in place of none
abbrev pub no_piece : Piece
no_piece = record { edge = record { x0 = pos 0; y0 = pos 0; x1 = pos 0; y1 = pos 0 }; subject = pos 0; clip = pos 0 }

-- What is above the entry that was found, by the counts above each piece that has begun, or nothing.
abbrev pub above_or : List Counts → Option Entry → Counts
above_or above None = nothing
above_or above (Some entry) = get_or above entry.0.place nothing
