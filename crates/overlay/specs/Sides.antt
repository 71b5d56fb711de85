-- The winding numbers of edges just below an edge, where it begins from the left, and just to the left of one of them; and rings
-- whose edges have as much on their left.
use Rattle.std.specs.Prelude.{◌≡◌, ◌≢◌, ◌⊎◌, ◌+◌, ◌<◌, ℕ, Bool, ℤ, pos, ◌+ℤ◌, ◌*ℤ◌, cond, ◌&&◌, not, List, All, Contains, map}
use Rattle.std.specs.Int.Signed.{lt_z}
use Rattle.std.specs.Ordering.{int_eq}
use Rattle.noding.specs.Windings.{IsClosed, winding}
use Rattle.plane.specs.Ends.{edge_between, end_of, start_of}
use Rattle.plane.specs.Meet.Crosses.{IsWithin}
use Rattle.plane.specs.Meet.Edges.{RationalPoint}
use Rattle.plane.specs.declared.point.Point.{Point}
use Rattle.overlay.specs.Contours.Rings.{ring_edges}
use Rattle.plane.specs.declared.edge.Edge.{Edge}
use Rattle.plane.specs.SweepLine.Heights.{rightwards}
use Rattle.overlay.specs.Fill.Counts.{below_on, is_lower_on, is_over}
use Rattle.overlay.specs.Fill.Filled.{AreDistinct, AreNoded}
use Rattle.overlay.specs.Fill.Pieces.{total, weight}

-- The winding number of edges just below an edge, where it begins from the left.
abbrev pub just_below : List Edge → Edge → ℤ
just_below edges edge = total (below_on (rightwards edge).x0 (rightwards edge)) edges

-- The winding number of edges just to the left of one of them.
abbrev pub on_left : List Edge → Edge → ℤ
on_left edges edge = cond (lt_z edge.x0 edge.x1) (just_below edges edge +ℤ pos 1) (just_below edges edge)

-- ---- beside an edge that need not be one of them

-- The weight of an edge, if it covers the stretch from x on and isn't above g there.
abbrev pub upto_on : ℤ → Edge → Edge → ℤ
upto_on x g edge = cond (is_over x (rightwards edge) && not (is_lower_on x g (rightwards edge))) (weight edge) (pos 0)

-- The two are one edge.
abbrev pub is_edge : Edge → Edge → Bool
is_edge one other = int_eq one.x0 other.x0 && (int_eq one.y0 other.y0 && (int_eq one.x1 other.x1 && int_eq one.y1 other.y1))

-- The weight of an edge, if it is g once it is turned rightwards.
abbrev pub along : Edge → Edge → ℤ
along g edge = cond (is_edge (rightwards edge) g) (weight edge) (pos 0)

-- The winding number of edges just above an edge.
abbrev pub just_above : List Edge → Edge → ℤ
just_above edges edge = just_below edges edge +ℤ total (along (rightwards edge)) edges

-- The winding numbers of edges just to the left of an edge, and just to its right.
abbrev pub left_of : List Edge → Edge → ℤ
left_of edges edge = cond (lt_z edge.x0 edge.x1) (just_above edges edge) (just_below edges edge)

abbrev pub right_of : List Edge → Edge → ℤ
right_of edges edge = cond (lt_z edge.x0 edge.x1) (just_below edges edge) (just_above edges edge)

-- Closed edges that meet only at common ends, no two with the same and none vertical, which all have the same number on their left.
pub record HaveOnLeft (number : ℤ) (edges : List Edge) : Type 0 where
  pub closed : IsClosed edges
  pub noded : AreNoded edges
  pub distinct : AreDistinct edges
  pub sloped : All (λ edge. edge.x0 ≢ edge.x1) edges
  pub left : All (λ edge. on_left edges edge ≡ number) edges

-- ---- sheared edges

-- The point further along x by its y, where x is stretched n times.
abbrev pub sheared : ℕ → Point → Point
sheared n at = record { x = (pos n *ℤ at.x) +ℤ at.y; y = at.y }

-- The edge between its sheared ends.
abbrev pub sheared_edge : ℕ → Edge → Edge
sheared_edge n edge = edge_between (sheared n (start_of edge)) (sheared n (end_of edge))

-- Both ends of the edge are at most b above or below 0.
pub record IsLow (b : ℕ) (edge : Edge) : Type 0 where
  pub start : IsWithin b edge.y0
  pub end : IsWithin b edge.y1

-- ---- rings with as much on their left

-- Edges that meet only at common ends, of which no two have the same and none is a point, and which wind once around a point or not
-- at all.
pub record AreBorders (edges : List Edge) : Type 0 where
  pub noded : AreNoded edges
  pub distinct : AreDistinct edges
  pub two_ends : All (λ edge. start_of edge ≢ end_of edge) edges
  pub once : (point : RationalPoint) → (winding edges point ≡ pos 0) ⊎ (winding edges point ≡ pos 1)

-- Each closed list of some of the edges winds as often on the left of each edge of the ring, once all are sheared n times.
abbrev pub HaveOneLeft : ℕ → List Edge → List Edge → Type 0
HaveOneLeft n edges ring =
    (mine : List Edge) → IsClosed mine → ((edge : Edge) → Contains mine edge → Contains edges edge) → (one other : Edge) → Contains ring one → Contains ring other
    → left_of (map (sheared_edge n) mine) (sheared_edge n one) ≡ left_of (map (sheared_edge n) mine) (sheared_edge n other)

-- So it is for each ring, where they are sheared by more than they go up.
abbrev pub KeepSides : List Edge → List (List Point) → Type 0
KeepSides edges rings = (n b : ℕ) → (b + b) < n → All (IsLow b) edges → All (λ ring. HaveOneLeft n edges (ring_edges ring)) rings
