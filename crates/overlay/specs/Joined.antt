-- Edges of subject and clip joined: equal ones to one, and those that overlap along one line along an axis to the stretches
-- between their ends. Each has the weights of all that it is a part of.
use Rattle.std.specs.Prelude.{◌≡◌, ◌&&◌, ◌||◌, ◌++◌, Bool, true, cond, List, [], ◌∷◌, All, Contains, pos, filter, map, int_le}
use Rattle.std.specs.Int.Signed.{lt_z}
use Rattle.std.specs.Ordering.{int_eq}
use Rattle.plane.specs.declared.edge.Edge.{Edge}
use Rattle.plane.specs.declared.point.Point.{Point}
use Rattle.plane.specs.Ends.{end_of, reversed, start_of}
use Rattle.plane.specs.SweepLine.Heights.{rightwards}
use Rattle.noding.specs.Chains.{IsEnd}
use Rattle.overlay.specs.declared.fill.pieces.Piece.{Piece}
use Rattle.overlay.specs.declared.fill.pieces.Operand.TheVariants.{Subject}
use Rattle.overlay.specs.Fill.Pieces.{total, weight}
use Rattle.overlay.specs.Fill.Turned.{turned}
use Rattle.noding.specs.Windings.{pieces}

-- The edge from its lesser end along x to its greater one; a vertical one from its lower end upwards.
abbrev pub onwards : Edge → Edge
onwards edge = cond (int_eq edge.x0 edge.x1) (cond (lt_z edge.y1 edge.y0) (reversed edge) edge) (rightwards edge)

-- they are one edge
abbrev pub is_same : Edge → Edge → Bool
is_same one other = (int_eq one.x0 other.x0 && int_eq one.y0 other.y0) && (int_eq one.x1 other.x1 && int_eq one.y1 other.y1)

-- both are level, along one line, and the second is of the first; both go onwards and are no points
abbrev pub is_level_part : Edge → Edge → Bool
is_level_part edge part =
    (lt_z edge.x0 edge.x1 && lt_z part.x0 part.x1)
    && ((int_eq edge.y0 edge.y1 && int_eq part.y0 part.y1) && (int_eq edge.y0 part.y0 && (int_le edge.x0 part.x0 && int_le part.x1 edge.x1)))

-- both are upright, along one line, and the second is of the first
abbrev pub is_upright_part : Edge → Edge → Bool
is_upright_part edge part =
    (lt_z edge.y0 edge.y1 && lt_z part.y0 part.y1)
    && ((int_eq edge.x0 edge.x1 && int_eq part.x0 part.x1) && (int_eq edge.x0 part.x0 && (int_le edge.y0 part.y0 && int_le part.y1 edge.y1)))

-- the stretch is the edge, or a part of it along an axis, whichever way the edge goes
abbrev pub has_part : Edge → Edge → Bool
has_part edge stretch = is_same (onwards edge) stretch || (is_level_part (onwards edge) stretch || is_upright_part (onwards edge) stretch)

-- Edges that lead from the one point to the other: each starts where the one before ends. There is one, at least.
abbrev pub Lead : Point → Point → List Edge → Type 0
Lead from to [] = ⊥
Lead from to (edge ∷ []) = (start_of edge ≡ from) × (end_of edge ≡ to)
Lead from to (edge ∷ next ∷ edges) = (start_of edge ≡ from) × Lead (end_of edge) to (next ∷ edges)

-- An edge is made up of its parts among the stretches, in their order.
abbrev pub IsMadeUp : List Piece → Edge → Type 0
IsMadeUp stretches edge =
    Lead (start_of (onwards edge)) (end_of (onwards edge)) (filter (has_part edge) (map (λ stretch. stretch.edge) stretches))

-- The edges of subject and clip, joined.
pub record AreJoinedEdges (subject clip : List Edge) (stretches : List Piece) : Type 0 where
  pub made : All (IsMadeUp stretches) (subject ++ clip)
  pub of : All (λ stretch. (edge : Edge) × Contains (subject ++ clip) edge × (has_part edge stretch.edge ≡ true)) stretches
  pub ends : All (λ stretch. ((edge : Edge) × Contains (subject ++ clip) edge × IsEnd edge stretch.edge.x0 stretch.edge.y0)
      × ((edge : Edge) × Contains (subject ++ clip) edge × IsEnd edge stretch.edge.x1 stretch.edge.y1)) stretches
  pub weighs : All (λ stretch. stretch.subject ≡ total (λ edge. cond (has_part edge stretch.edge) (weight edge) (pos 0)) subject) stretches
  pub clip_weighs : All (λ stretch. stretch.clip ≡ total (λ edge. cond (has_part edge stretch.edge) (weight edge) (pos 0)) clip) stretches

-- ---- for private contracts

-- A piece of a stretch's chain, with the weights of the stretch.
abbrev pub weighed : Piece → Piece → Piece
weighed stretch piece = record { edge = piece.edge; subject = stretch.subject; clip = stretch.clip }

-- The pieces of the chains of stretches that aren't vertical, turned rightwards, each with the weights of its stretch.
abbrev pub weighed_pieces : List Piece → List (List Point) → List Piece
weighed_pieces [] chains = []
weighed_pieces (stretch ∷ stretches) [] = []
weighed_pieces (stretch ∷ stretches) (chain ∷ chains) = map (weighed stretch) (turned Subject (pieces chain)) ++ weighed_pieces stretches chains
