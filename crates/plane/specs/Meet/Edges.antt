-- When two edges meet: some point is of both.
use Rattle.std.specs.Prelude.{◌≡◌, ℕ, ◌<◌, ◌≤◌, ℤ, pos, ◌+ℤ◌, ◌-ℤ◌, ◌*ℤ◌}
use Rattle.plane.specs.declared.edge.Edge.{Edge}

-- A point with rational coordinates: x / n and y / n, where n is not 0.
pub record RationalPoint : Type 0 where
  pub n : ℕ
  pub x : ℤ
  pub y : ℤ
  pub positive : 0 < n

-- The point lies a of n parts of the way from the edge's one end to the other.
pub record IsAtShare (edge : Edge) (point : RationalPoint) (a : ℕ) : Type 0 where
  pub share : a ≤ point.n
  pub x : point.x ≡ (pos point.n *ℤ edge.x0) +ℤ (pos a *ℤ (edge.x1 -ℤ edge.x0))
  pub y : point.y ≡ (pos point.n *ℤ edge.y0) +ℤ (pos a *ℤ (edge.y1 -ℤ edge.y0))

-- The point is of the edge, which both its ends are.
abbrev pub IsOf : Edge → RationalPoint → Type 0
IsOf edge point = (a : ℕ) × IsAtShare edge point a

-- Two edges meet where some point is of both. Edges with whole ends that share a point share one with rational
-- coordinates.
abbrev pub Meet : Edge → Edge → Type 0
Meet one other = (point : RationalPoint) × IsOf one point × IsOf other point
