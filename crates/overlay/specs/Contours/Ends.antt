-- The ends of edges that are in the order of their starts. For private contracts.
use Rattle.std.specs.Prelude.{◌≡◌, ℕ, ◌<◌, List, get_or, length}
use Rattle.plane.specs.declared.edge.Edge.{Edge}
use Rattle.plane.specs.declared.point.Point.{Point}
use Rattle.overlay.specs.Contours.Order.{IsBehind, IsFirstFrom, edge_at, point_at}
use Rattle.plane.specs.Ends.{end_of}

-- So many of the edges, at least, start before the point.
abbrev pub StartBefore : List Edge → Point → ℕ → Type 0
StartBefore sorted point count = (k : ℕ) → k < count → ¬ (IsBehind point (point_at sorted k))

-- For each of the edges, how many of them start before its end.
pub record AreCornersOfEnds (sorted : List Edge) (corners : List ℕ) : Type 0 where
  pub size : length corners ≡ length sorted
  pub each : (place : ℕ) → place < length sorted → IsFirstFrom sorted (end_of (edge_at sorted place)) (get_or corners place 0)
