-- The boundary of what an operation makes of two sets of closed edges, on the grid again.
use Rattle.std.specs.List.{AllZip, flat_map}
use Rattle.std.specs.Prelude.{◌≡◌, ◌≢◌, ◌⊎◌, ◌++◌, ◌<◌, ◌≤◌, List, [], ◌∷◌, All, Contains, ℕ, ℤ, drop, length, take}
use Rattle.plane.specs.declared.edge.Edge.{Edge}
use Rattle.plane.specs.declared.point.Point.{Point}
use Rattle.plane.specs.Meet.Edges.{RationalPoint}
use Rattle.overlay.specs.declared.fill.pieces.Piece.{Piece}
use Rattle.overlay.specs.declared.fill.pieces.Operand.{Operand}
use Rattle.overlay.specs.declared.fill.pieces.Operand.TheVariants.{Subject, Clip}
use Rattle.overlay.specs.declared.fill.rules.FillRule.{FillRule}
use Rattle.overlay.specs.declared.fill.rules.Operation.{Operation}
use Rattle.overlay.specs.Contours.Rings.{IsRing, ring_edges}
use Rattle.overlay.specs.Fill.Filled.{AreDistinct, AreNoded}
use Rattle.overlay.specs.Fill.Turned.{turned}
use Rattle.overlay.specs.Fill.Rules.{is_result}
use Rattle.overlay.specs.Nesting.{NestOnce}
use Rattle.overlay.specs.Polygons.{HasSloped}
use Rattle.noding.specs.Chains.{IsHot}
use Rattle.noding.specs.Local.{IsNodeChain}
use Rattle.plane.specs.Ends.{edge_between, end_of, reversed, start_of}
use Rattle.noding.specs.Offsets.{offsets}
use Rattle.noding.specs.Windings.{pieces, winding, count}

-- 1 around a point of the result, else 0, by the winding numbers of the subject and of the clip there.
abbrev pub result_at : FillRule → Operation → List Edge → List Edge → RationalPoint → ℤ
result_at rule operation subject clip point = count (is_result rule operation (winding subject point) (winding clip point))

-- The pieces of the subject's edges and of the clip's, which are broken together, and moved only where they must be.
pub record AreBroken (subject clip broken broken_clip : List Edge) : Type 0 where
  pub chains : List (List Point)
  pub clip_chains : List (List Point)
  pub are : AllZip (IsNodeChain (subject ++ clip)) subject chains
  pub clip_are : AllZip (IsNodeChain (subject ++ clip)) clip clip_chains
  pub is : broken ≡ flat_map pieces chains
  pub clip_is : broken_clip ≡ flat_map pieces clip_chains

-- At every point the edges wind as the result of the pieces that the edges of subject and clip are broken into.
abbrev pub WindsAsBroken : FillRule → Operation → List Edge → List Edge → List Edge → Type 0
WindsAsBroken rule operation subject clip edges =
    (broken : List Edge) × (broken_clip : List Edge) × AreBroken subject clip broken broken_clip
    × ((point : RationalPoint) → winding edges point ≡ result_at rule operation broken broken_clip point)

-- The edge is a piece of the chain of one of the edges, or such a piece from its end to its start.
abbrev pub IsPiece : List Edge → Edge → Type 0
IsPiece edges edge = (one : Edge) × (chain : List Point) × Contains edges one × IsNodeChain edges one chain × (Contains (pieces chain) edge ⊎ Contains (pieces chain) (reversed edge))

-- Edges that bound the result: they meet only at common ends, no two have the same ends, and everywhere they wind as the result of
-- what subject and clip are broken into. So they wind once around a point or not at all, and as the result of subject and clip if
-- each edge of these isn't moved among all, or runs along an axis, or isn't near the point. Each begins at an end of an edge of
-- subject or clip, or at what two of these cross at, rounded.
pub record BoundsResult (rule : FillRule) (operation : Operation) (subject clip edges : List Edge) : Type 0 where
  pub noded : AreNoded edges
  pub distinct : AreDistinct edges
  -- none is a point
  pub two_ends : All (λ edge. start_of edge ≢ end_of edge) edges
  pub everywhere : WindsAsBroken rule operation subject clip edges
  pub corners : All (λ edge. IsHot (subject ++ clip) edge.x0 edge.y0) edges
  -- each that isn't vertical is a piece of an edge of subject or clip, one way or the other
  pub made : All (λ edge. edge.x0 ≢ edge.x1 → IsPiece (subject ++ clip) edge) edges

-- Rings whose edges do.
pub record IsBoundary (rule : FillRule) (operation : Operation) (subject clip : List Edge) (rings : List (List Point)) : Type 0 where
  pub each : All IsRing rings
  pub bounds : BoundsResult rule operation subject clip (flat_map ring_edges rings)

-- Rings that bound the result stand behind the points and behind where rings stopped among these, and if there are any, some edge
-- of theirs isn't vertical. Polygons of them wind once each, and their rings share points along no circle, where holes are of the
-- polygon just below them.
abbrev pub AppendsBoundary : FillRule → Operation → List Edge → List Edge → List Point → List Point → List ℕ → List ℕ → Type 0
AppendsBoundary rule operation subject clip points points' ends ends' =
    (rings : List (List Point)) × IsBoundary rule operation subject clip rings × HasSloped (flat_map ring_edges rings) × NestOnce rings
    × (points' ≡ points ++ flat_map (λ ring. ring) rings) × (ends' ≡ ends ++ offsets (length points) rings)

-- Lists of which none is empty.
abbrev pub AllSome : {X : Type 0} → List (List X) → Type 0
AllSome lists = All (λ list. 0 < length list) lists

-- Where so many lists and more stop, of which none is empty.
abbrev pub StopSome : List ℕ → ℕ → Type 0
StopSome ends count = (lists : List (List Point)) × (ends ≡ offsets 0 lists) × AllSome lists × (count ≤ length lists)

-- The pieces of chains that aren't vertical, turned rightwards: those of the first so many chains, the subject's, and then those of
-- the others, the clip's.
abbrev pub chain_pieces : ℕ → List (List Point) → List Piece
chain_pieces count chains = turned Subject (flat_map pieces (take count chains)) ++ turned Clip (flat_map pieces (drop count chains))

-- The piece from this point to the edge's end stands behind the others, unless the edge is a point.
abbrev pub GoesOnToEnd : Operand → Edge → Point → List Piece → List Piece → Type 0
GoesOnToEnd operand edge from before after =
    (start_of edge ≡ end_of edge) × (after ≡ before) ⊎ (start_of edge ≢ end_of edge) × (after ≡ before ++ turned operand (edge_between from (end_of edge) ∷ []))
