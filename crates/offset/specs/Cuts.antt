-- Raw curves that are cut: where edges turn right, the curve may go straight from where the one ends, moved, to where the next one
-- begins, moved, in place of the ways to the point between them and on. What it leaves out is a triangle. Where the corner is safe,
-- each point of the triangle lies in the band of an edge before the corner, and in that of one behind it; so it is wound around
-- still.
use Rattle.std.specs.List.{AllZip, flat_map}
use Rattle.std.specs.Prelude.{ℕ, ◌+◌, ◌<◌, ◌≤◌, ◌≡◌, Bool, true, cond, pos, ◌≤ℤ◌, ◌<ℤ◌, List, [], ◌∷◌, All, get_or, length, map}
use Rattle.plane.specs.declared.edge.Edge.{Edge}
use Rattle.plane.specs.declared.point.Point.{Point}
use Rattle.plane.specs.Ends.{edge_between, end_of, start_of}
use Rattle.plane.specs.Lines.{height_over}
use Rattle.overlay.specs.Contours.Rings.{ring_edges}
use Rattle.offset.specs.declared.cuts.Tips.{Tips}
use Rattle.offset.specs.Raw.{furthest, moved, moved_edge, nowhere, raw_of_two}
use Rattle.offset.specs.Shape.{neighbours, turn}

-- ---- the curve

-- From where the edge ends, moved by its furthest corner, to where the next one begins, moved by its own.
abbrev pub cut : List Point → Edge × Edge → Edge
cut corners two = edge_between (moved (furthest corners two.0) (end_of two.0)) (moved (furthest corners two.1) (end_of two.0))

-- The curve of an edge and the next one: the edge moved and the cut, or as it is.
abbrev pub curve_of_two : List Point → (Edge × Edge) × Bool → List Edge
curve_of_two corners joint =
    cond joint.1 (moved_edge (furthest corners joint.0.0) joint.0.0 ∷ cut corners joint.0 ∷ []) (raw_of_two corners joint.0)

-- Edges, each moved by its furthest corner.
abbrev pub moved_by_furthest : List Point → Edge → Edge
moved_by_furthest corners edge = moved_edge (furthest corners edge) edge

abbrev pub moved_edges : List Point → List Edge → List Edge
moved_edges corners edges = map (moved_by_furthest corners) edges

-- ---- which corners are safe

-- The edge at this place.
abbrev pub edge_at : List Edge → ℕ → Edge
edge_at edges place = get_or edges place nowhere

-- From the start of an edge to where its furthest corner moves that, and from its end.
abbrev pub start_spoke : List Point → Edge → Edge
start_spoke corners edge = edge_between (start_of edge) (moved (furthest corners edge) (start_of edge))

abbrev pub end_spoke : List Point → Edge → Edge
end_spoke corners edge = edge_between (end_of edge) (moved (furthest corners edge) (end_of edge))

-- What is cut off between an edge and the next one has these corners: their common end, and where it is moved.
abbrev pub tips : List Point → Edge → Edge → List Point
tips corners edge next = end_of edge ∷ moved (furthest corners edge) (end_of edge) ∷ moved (furthest corners next) (end_of edge) ∷ []

abbrev pub tips_of : Tips → List Point
tips_of tips = tips.at ∷ tips.from ∷ tips.to ∷ []

-- The furthest corner of the next edge doesn't lie left of that of the edge, and each lies to the right of both edges, or along
-- them.
pub record IsGentle (corners : List Point) (edge next : Edge) : Type 0 where
  pub corner : turn (end_spoke corners edge) (start_spoke corners next) ≤ℤ pos 0
  pub before : pos 0 ≤ℤ turn (start_spoke corners next) edge
  pub after : pos 0 ≤ℤ turn (end_spoke corners edge) next

-- None of the points lies left of the line.
abbrev pub LieRight : Edge → List Point → Type 0
LieRight line points = All (λ point. height_over line point ≤ℤ pos 0) points

-- None lies right of it.
abbrev pub LieLeft : Edge → List Point → Type 0
LieLeft line points = All (λ point. pos 0 ≤ℤ height_over line point) points

-- Back from the corner behind the edge at this place, over gentle corners, along edges that the points don't lie left of, one comes
-- to an edge whose start all of them lie ahead of.
pub record IsSafeBack (corners : List Point) (edges : List Edge) (index : ℕ) (points : List Point) : Type 0 where
  pub first : ℕ
  pub upto : first ≤ index
  pub right : (place : ℕ) → first ≤ place → place ≤ index → LieRight (edge_at edges place) points
  pub gentle : (place : ℕ) → first ≤ place → place < index → IsGentle corners (edge_at edges place) (edge_at edges (place + 1))
  pub ahead : LieLeft (start_spoke corners (edge_at edges first)) points

-- And on from it, to an edge whose end none of them lies ahead of.
pub record IsSafeOn (corners : List Point) (edges : List Edge) (index : ℕ) (points : List Point) : Type 0 where
  pub last : ℕ
  pub from : index < last
  pub inside : last < length edges
  pub right : (place : ℕ) → index < place → place ≤ last → LieRight (edge_at edges place) points
  pub gentle : (place : ℕ) → index < place → place < last → IsGentle corners (edge_at edges place) (edge_at edges (place + 1))
  pub behind : LieRight (end_spoke corners (edge_at edges last)) points

-- The corner behind the edge at this place, which isn't the last one, may be cut off.
pub record IsSafe (corners : List Point) (edges : List Edge) (index : ℕ) : Type 0 where
  pub inside : index + 1 < length edges
  pub right : turn (edge_at edges index) (edge_at edges (index + 1)) ≤ℤ pos 0
  pub apart : turn (end_spoke corners (edge_at edges index)) (start_spoke corners (edge_at edges (index + 1))) <ℤ pos 0
  pub gentle : IsGentle corners (edge_at edges index) (edge_at edges (index + 1))
  pub back : IsSafeBack corners edges index (tips corners (edge_at edges index) (edge_at edges (index + 1)))
  pub on : IsSafeOn corners edges index (tips corners (edge_at edges index) (edge_at edges (index + 1)))

-- ---- of rings

-- The curve of a ring, of which some safe corners are cut.
pub record IsCurveOfRing (corners ring : List Point) (curve : List Edge) : Type 0 where
  -- each edge with the next one, and whether the corner between them is cut
  pub joints : List ((Edge × Edge) × Bool)
  pub pairs : map (λ joint. joint.0) joints ≡ neighbours (ring_edges ring)
  pub safe : (index : ℕ) (d : (Edge × Edge) × Bool) → index < length joints → (get_or joints index d).1 ≡ true → IsSafe corners (ring_edges ring) index
  pub edges : curve ≡ flat_map (curve_of_two corners) joints

-- That of rings, one ring after another.
pub record IsCurve (corners : List Point) (rings : List (List Point)) (raw : List Edge) : Type 0 where
  pub curves : List (List Edge)
  pub each : AllZip (IsCurveOfRing corners) rings curves
  pub edges : raw ≡ flat_map (λ curve. curve) curves
