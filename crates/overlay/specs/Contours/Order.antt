-- Edges in the order of their starts. For private contracts.
use Rattle.std.specs.Prelude.{◌≡◌, ◌≢◌, ◌⊎◌, ℕ, ◌<◌, ◌≤◌, pos, ◌≤ℤ◌, ◌<ℤ◌, List, get_or, length}
use Rattle.plane.specs.declared.edge.Edge.{Edge}
use Rattle.plane.specs.declared.point.Point.{Point}
use Rattle.plane.specs.Ends.{start_of}

-- The edge at a place.
abbrev pub edge_at : List Edge → ℕ → Edge
edge_at edges place = get_or edges place (record { x0 = pos 0; y0 = pos 0; x1 = pos 0; y1 = pos 0 })

-- The point at which it starts.
abbrev pub point_at : List Edge → ℕ → Point
point_at edges place = start_of (edge_at edges place)

-- By x, and then by y, the other point is this one or behind it.
abbrev pub IsBehind : Point → Point → Type 0
IsBehind point other = (point.x <ℤ other.x) ⊎ ((point.x ≡ other.x) × (point.y ≤ℤ other.y))

-- None starts before one that stands before it.
abbrev pub AreInOrder : List Edge → Type 0
AreInOrder sorted = (i j : ℕ) → i ≤ j → j < length sorted → IsBehind (point_at sorted i) (point_at sorted j)

-- So many of the edges start before the point, and the others at it or behind it.
pub record IsFirstFrom (sorted : List Edge) (point : Point) (first : ℕ) : Type 0 where
  pub inside : first ≤ length sorted
  pub before : (k : ℕ) → k < first → ¬ (IsBehind point (point_at sorted k))
  pub behind : (k : ℕ) → first ≤ k → k < length sorted → IsBehind point (point_at sorted k)

-- The first place of an edge that starts at its point: it stands for the point.
pub record IsCorner (sorted : List Edge) (place : ℕ) : Type 0 where
  pub inside : place < length sorted
  pub first : (k : ℕ) → k < place → point_at sorted k ≢ point_at sorted place
