-- Pieces: the edges of the subject and of the clip, turned rightwards and joined.
use Rattle.std.specs.Prelude.{◌≡◌, ◌≢◌, ◌++◌, Bool, cond, List, [], ◌∷◌, All, AllPairs, Contains, ℤ, pos, negsuc, ◌+ℤ◌, ◌<ℤ◌}
use Rattle.std.specs.Int.Signed.{lt_z}
use Rattle.plane.specs.declared.edge.Edge.{Edge}
use Rattle.plane.specs.SweepLine.Heights.{rightwards}
use Rattle.overlay.specs.declared.fill.pieces.Piece.{Piece}

-- The sum of what each gives.
abbrev pub total : {X : Type 0} → (X → ℤ) → List X → ℤ
total weight [] = pos 0
total weight (x ∷ xs) = weight x +ℤ total weight xs

-- 1 for an edge that goes rightwards, -1 for one that goes leftwards, 0 for a vertical one or a point.
abbrev pub weight : Edge → ℤ
weight edge = cond (lt_z edge.x0 edge.x1) (pos 1) (cond (lt_z edge.x1 edge.x0) (negsuc 0) (pos 0))

-- Whichever edges are asked for, the pieces weigh what the edges weigh.
abbrev pub AreJoined : List Edge → (Piece → ℤ) → List Piece → Type 0
AreJoined edges weigh pieces =
    (test : Edge → Bool) → total (λ edge. cond (test (rightwards edge)) (weight edge) (pos 0)) edges ≡ total (λ piece. cond (test piece.edge) (weigh piece) (pos 0)) pieces

-- The pieces of the subject and of the clip.
pub record ArePieces (subject clip : List Edge) (pieces : List Piece) : Type 0 where
  pub onwards : All (λ piece. piece.edge.x0 <ℤ piece.edge.x1) pieces
  pub of : All (λ piece. (edge : Edge) × Contains (subject ++ clip) edge × (rightwards edge ≡ piece.edge)) pieces
  pub distinct : AllPairs (λ one other. one.edge ≢ other.edge) pieces
  pub joined : AreJoined subject (λ piece. piece.subject) pieces
  pub clip_joined : AreJoined clip (λ piece. piece.clip) pieces
