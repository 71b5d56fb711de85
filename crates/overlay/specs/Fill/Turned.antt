-- Edges as pieces of their own, and pieces of one edge joined.
use Rattle.std.specs.Prelude.{◌≡◌, ◌≢◌, ◌⊎◌, ◌++◌, ◌≤◌, ℕ, Bool, cond, List, [], ◌∷◌, All, AllPairs, Contains, length, get_or, slice_set, ◌-◌, ◌<◌, ℤ, pos, ◌+ℤ◌, ◌-ℤ◌, ◌≤ℤ◌, ◌<ℤ◌, ◌*◌, ◌^◌}
use Rattle.std.specs.Ordering.{int_eq}
use Rattle.std.specs.List.Sorted.{IsPermutation}
use Rattle.plane.specs.declared.edge.Edge.{Edge}
use Rattle.plane.specs.SweepLine.Heights.{rightwards}
use Rattle.overlay.specs.declared.fill.pieces.Piece.{Piece}
use Rattle.overlay.specs.declared.fill.pieces.Operand.{Operand}
use Rattle.overlay.specs.declared.fill.pieces.Operand.TheVariants.{Subject, Clip}
use Rattle.overlay.specs.Fill.Begins.{BeginsUpto}
use Rattle.overlay.specs.Fill.Filled.{AreNoded}
use Rattle.overlay.specs.Fill.Pieces.{AreJoined, total, weight}
use Rattle.noding.specs.Windings.{IsClosed}

-- The edge alone as a piece.
abbrev pub piece_of : Operand → Edge → Piece
piece_of Subject edge = record { edge = rightwards edge; subject = weight edge; clip = pos 0 }
piece_of Clip edge = record { edge = rightwards edge; subject = pos 0; clip = weight edge }

-- Those of the edges that aren't vertical.
abbrev pub turned : Operand → List Edge → List Piece
turned operand [] = []
turned operand (edge ∷ edges) = cond (int_eq edge.x0 edge.x1) (turned operand edges) (piece_of operand edge ∷ turned operand edges)

-- The pieces of both, in some order.
abbrev pub AreTurned : List Edge → List Edge → List Piece → Type 0
AreTurned subject clip pieces = IsPermutation (turned Subject subject ++ turned Clip clip) pieces

-- The piece weighs at most so much, either way.
pub record IsSmall (most : ℕ) (piece : Piece) : Type 0 where
  pub from : (pos 0 -ℤ pos most) ≤ℤ piece.subject
  pub upto : piece.subject ≤ℤ pos most
  pub clip_from : (pos 0 -ℤ pos most) ≤ℤ piece.clip
  pub clip_upto : piece.clip ≤ℤ pos most

-- None of the edges is vertical.
abbrev pub AreSloped : List Edge → Type 0
AreSloped edges = All (λ edge. edge.x1 ≢ edge.x0) edges

-- The pieces stand for the edges of both that aren't vertical: each goes rightwards and is one of these edges, one way or the
-- other, and together they weigh the same, whichever edges are asked for. They are so small and so few that sums of them are
-- numbers of 64 bits. Several may be of one edge.
pub record StandFor (subject clip : List Edge) (pieces : List Piece) : Type 0 where
  pub onwards : All (λ piece. piece.edge.x0 <ℤ piece.edge.x1) pieces
  pub of : All (λ piece. (edge : Edge) × Contains (subject ++ clip) edge × (rightwards edge ≡ piece.edge)) pieces
  pub joined : AreJoined subject (λ piece. piece.subject) pieces
  pub clip_joined : AreJoined clip (λ piece. piece.clip) pieces
  pub most : ℕ
  pub small : All (IsSmall most) pieces
  pub countable : most * length pieces < 2 ^ 63

-- The pieces of closed and noded edges before they are sorted and joined.
pub record AreUnjoined (subject clip : List Edge) (pieces : List Piece) : Type 0 where
  pub closed : IsClosed subject
  pub clip_closed : IsClosed clip
  pub noded : AreNoded (subject ++ clip)
  pub stand : StandFor subject clip pieces

-- Two pieces of one edge as one.
abbrev pub sum_of : Piece → Piece → Piece
sum_of one other = record { edge = one.edge; subject = one.subject +ℤ other.subject; clip = one.clip +ℤ other.clip }

-- the sums are numbers of 64 bits
pub record Fit (one other : Piece) : Type 0 where
  pub from : (pos 0 -ℤ pos (2 ^ 63)) ≤ℤ (one.subject +ℤ other.subject)
  pub below : (one.subject +ℤ other.subject) <ℤ pos (2 ^ 63)
  pub clip_from : (pos 0 -ℤ pos (2 ^ 63)) ≤ℤ (one.clip +ℤ other.clip)
  pub clip_below : (one.clip +ℤ other.clip) <ℤ pos (2 ^ 63)

-- The last of the pieces is of the edge.
abbrev pub EndIn : List Piece → Edge → Type 0
EndIn pieces edge = (0 < length pieces) × ((d : Piece) → (get_or pieces (length pieces - 1) d).edge ≡ edge)

-- The piece has been added: to the last one, where that is of the same edge, or else behind it.
abbrev pub Adds : Piece → List Piece → List Piece → Type 0
Adds piece before after =
    let last = length before - 1 in
    (EndIn before piece.edge × (after ≡ slice_set before last (sum_of (get_or before last piece) piece)))
    ⊎ (¬ (EndIn before piece.edge) × (after ≡ before ++ piece ∷ []))

-- Of two pieces that begin alike both are of one edge.
abbrev pub BeginApart : List Piece → Type 0
BeginApart pieces = (one other : Piece) → Contains pieces one → Contains pieces other → BeginsUpto one.edge other.edge → BeginsUpto other.edge one.edge → one.edge ≡ other.edge

-- what a piece weighs, if it is asked for
abbrev pub asked : (Edge → Bool) → (Piece → ℤ) → Piece → ℤ
asked test weigh piece = cond (test piece.edge) (weigh piece) (pos 0)

-- Pieces of one edge are joined: in order, each edge once, and they weigh the same.
pub record AreJoinOf (pieces joined : List Piece) : Type 0 where
  pub subject : (test : Edge → Bool) → total (asked test (λ piece. piece.subject)) pieces ≡ total (asked test (λ piece. piece.subject)) joined
  pub clip : (test : Edge → Bool) → total (asked test (λ piece. piece.clip)) pieces ≡ total (asked test (λ piece. piece.clip)) joined
  pub of : All (λ piece. (other : Piece) × Contains pieces other × (other.edge ≡ piece.edge)) joined
  pub order : AllPairs (λ one other. BeginsUpto one.edge other.edge) joined
  pub distinct : AllPairs (λ one other. one.edge ≢ other.edge) joined
  pub few : length joined ≤ length pieces
  pub small : (most : ℕ) → All (IsSmall most) pieces → All (IsSmall (most * length pieces)) joined
