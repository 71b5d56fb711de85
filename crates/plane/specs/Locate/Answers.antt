-- What is answered for a point: which edge lies straight below it.
use Rattle.std.specs.Prelude.{◌≡◌, ℕ, pos, ◌+ℤ◌, List, All, Option, Some, None, slice_get}
use Rattle.plane.specs.declared.edge.Edge.{Edge}
use Rattle.plane.specs.declared.point.Point.{Point}
use Rattle.plane.specs.SweepLine.Heights.{IsUnder, IsLowerAt}

-- The edge at this place of the list is under the point, and below no other edge that is: neither at the point's x, nor just
-- right of it, at the next whole x, which all edges under the point span. So of edges that part at a corner it is the upper
-- one. Only between edges along one line is it open which: two that are as high at both x's lie along one.
pub record IsHighestUnder (edges : List Edge) (point : Point) (i : ℕ) : Type 0 where
  pub edge : Edge
  pub stands : slice_get edges i ≡ Some edge
  pub under : IsUnder point edge
  pub highest : All (λ other. IsUnder point other → ¬ (IsLowerAt point.x edge other)) edges
  pub steepest : All (λ other. IsUnder point other → ¬ (IsLowerAt (point.x +ℤ pos 1) edge other)) edges

-- the place of the edge straight below the point, or none where no edge is under it
abbrev pub IsPlaceBelow : List Edge → Point → Option ℕ → Type 0
IsPlaceBelow edges point (Some i) = IsHighestUnder edges point i
IsPlaceBelow edges point None = All (λ edge. ¬ (IsUnder point edge)) edges
