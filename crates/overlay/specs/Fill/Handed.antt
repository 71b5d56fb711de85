-- Where pieces end, and what those that end hand on to those that begin there. For private contracts.
use Rattle.std.specs.Prelude.{◌≡◌, ◌⊎◌, ◌<◌, ◌≤◌, ◌-◌, ℕ, Bool, ◌&&◌, ℤ, ◌+ℤ◌, ◌-ℤ◌, ◌*ℤ◌, ◌≤ℤ◌, ◌<ℤ◌, List, All, AllPairs, Contains, get_or, length, take}
use Rattle.std.specs.Int.Signed.{lt_z}
use Rattle.std.specs.Ordering.{int_cmp, int_eq}
use Rattle.std.specs.declared.cmp.Ordering.{Ordering}
use Rattle.plane.specs.declared.edge.Edge.{Edge}
use Rattle.plane.specs.declared.point.Point.{Point}
use Rattle.plane.specs.declared.sweep_line.active.ActiveEdge.{ActiveEdge}
use Rattle.plane.specs.Ends.{end_of, start_of}
use Rattle.plane.specs.SweepLine.Active.{then_cmp}
use Rattle.plane.specs.SweepLine.Heights.{rise}
use Rattle.overlay.specs.declared.fill.counts.Counts.{Counts}
use Rattle.overlay.specs.declared.fill.pieces.Piece.{Piece}
use Rattle.overlay.specs.Fill.Begins.{steps}
use Rattle.overlay.specs.Fill.Few.{AreActive}
use Rattle.overlay.specs.Fill.Sweep.{no_piece}

-- The order in which edges end that go rightwards: by the x of their ends, then by y, and of those that end at one point the
-- steeper one first, which is lower just left of it.
abbrev pub cmp_ends : Edge → Edge → Ordering
cmp_ends one other = then_cmp (int_cmp one.x1 other.x1) (then_cmp (int_cmp one.y1 other.y1) (int_cmp (rise other *ℤ steps one) (rise one *ℤ steps other)))

-- The one ends before the other, or as it does.
abbrev pub EndsUpto : Edge → Edge → Type 0
EndsUpto one other =
    (one.x1 <ℤ other.x1)
    ⊎ (one.x1 ≡ other.x1) × ((one.y1 <ℤ other.y1) ⊎ (one.y1 ≡ other.y1) × ((rise other *ℤ steps one) ≤ℤ (rise one *ℤ steps other)))

-- the edge of the piece at this place, with the place
abbrev pub active_at : List Piece → ℕ → ActiveEdge
active_at pieces place = record { edge = (get_or pieces place no_piece).edge; place = place }

-- The edges of all pieces with their places, in the order in which they end.
pub record AreEnds (pieces : List Piece) (ends : List ActiveEdge) : Type 0 where
  pub of : All (λ end. (end.place < length pieces) × (end ≡ active_at pieces end.place)) ends
  pub each : (place : ℕ) → place < length pieces → Contains ends (active_at pieces place)
  pub order : AllPairs (λ one other. EndsUpto one.edge other.edge) ends

-- an edge in place of none
abbrev pub no_end : ActiveEdge
no_end = record { edge = no_piece.edge; place = 0 }

-- The next of the ends is at the point, of the piece at this place, and is the first one in the point's column. None of the pieces
-- that have begun, by the last of them, begins in that column.
pub record IsHandedBy (begun : List Piece) (ends : List ActiveEdge) (next : ℕ) (point : Point) (place : ℕ) : Type 0 where
  pub within : next < length ends
  pub is : (get_or ends next no_end).place ≡ place
  pub at : end_of (get_or ends next no_end).edge ≡ point
  pub first : 0 < next → (get_or ends (next - 1) no_end).edge.x1 <ℤ point.x
  pub earlier : 0 < length begun → (get_or begun (length begun - 1) no_piece).edge.x0 <ℤ point.x

-- The next of the ends is at the point, of the piece at this place. The end before it, of the other piece, and the beginning of the
-- last piece that has begun are at one point below, in the same column.
pub record IsCarriedBy (begun : List Piece) (ends : List ActiveEdge) (next : ℕ) (point : Point) (place other : ℕ) : Type 0 where
  pub within : next < length ends
  pub some : 0 < length begun
  pub is : (get_or ends next no_end).place ≡ place
  pub other_is : (get_or ends (next - 1) no_end).place ≡ other
  pub at : end_of (get_or ends next no_end).edge ≡ point
  pub column : (get_or begun (length begun - 1) no_piece).edge.x0 ≡ point.x
  pub lower : (get_or begun (length begun - 1) no_piece).edge.y0 <ℤ point.y
  pub meets : end_of (get_or ends (next - 1) no_end).edge ≡ start_of (get_or begun (length begun - 1) no_piece).edge

-- What is below the one, with what is above the last piece at the point below, less what is above the piece that ended there.
abbrev pub carried : Counts → Counts → Counts → Piece → Counts
carried below above other ended = record {
  subject = (below.subject +ℤ above.subject) -ℤ (other.subject +ℤ ended.subject);
  clip = (below.clip +ℤ above.clip) -ℤ (other.clip +ℤ ended.clip);
}

-- The edge ends, or begins, in the point's column, below the point.
abbrev pub ends_below : Point → Edge → Bool
ends_below point edge = int_eq edge.x1 point.x && lt_z edge.y1 point.y

abbrev pub begins_below : Point → Edge → Bool
begins_below point edge = int_eq edge.x0 point.x && lt_z edge.y0 point.y

-- Of the first so many pieces these are the ones that go on behind some x, which isn't greater than this one.
abbrev pub HasLooked : ℤ → List Piece → ℕ → List Piece → Type 0
HasLooked x pieces count live =
    (count ≤ length pieces) × AreActive x (take count pieces) live
