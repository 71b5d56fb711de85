-- What is below a point, counted over few pieces.
use Rattle.std.specs.Prelude.{◌≡◌, ◌<◌, ◌-◌, Bool, not, ◌&&◌, ℤ, List, get_or, length, ◌*ℤ◌, ◌≤ℤ◌}
use Rattle.std.specs.List.{filter}
use Rattle.std.specs.Int.Signed.{lt_z}
use Rattle.plane.specs.declared.edge.Edge.{Edge}
use Rattle.plane.specs.declared.point.Point.{Point}
use Rattle.plane.specs.Ends.{start_of}
use Rattle.plane.specs.SweepLine.Heights.{run, height_by_run}
use Rattle.overlay.specs.declared.fill.counts.Counts.{Counts}
use Rattle.overlay.specs.declared.fill.pieces.Piece.{Piece}
use Rattle.overlay.specs.Fill.Pieces.{total}
use Rattle.overlay.specs.Fill.Sweep.{no_piece}
use Rattle.overlay.specs.Fill.Turned.{asked}

-- The edge goes on behind the point's x, and at this x it isn't above the point.
abbrev pub is_upto : Point → Edge → Bool
is_upto point edge = lt_z point.x edge.x1 && not (lt_z (point.y *ℤ run edge) (height_by_run edge point.x))

-- What those of the pieces weigh.
abbrev pub counts_upto : Point → List Piece → Counts
counts_upto point pieces = record {
  subject = total (asked (is_upto point) (λ p. p.subject)) pieces;
  clip = total (asked (is_upto point) (λ p. p.clip)) pieces;
}

-- the piece goes on behind x
abbrev pub goes_on : ℤ → Piece → Bool
goes_on x piece = lt_z x piece.edge.x1

-- Of these pieces those that go on behind some x, which isn't greater than this one.
abbrev pub AreActive : ℤ → List Piece → List Piece → Type 0
AreActive x pieces active = (from : ℤ) × (from ≤ℤ x) × (active ≡ filter (goes_on from) pieces)

-- The last of the pieces begins at the point.
abbrev pub LastBeginsAt : Point → List Piece → Type 0
LastBeginsAt point pieces = (0 < length pieces) × (start_of (get_or pieces (length pieces - 1) no_piece).edge ≡ point)
