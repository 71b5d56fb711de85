-- What crossings round to, as a list of points. For private contracts.
use Rattle.std.specs.Prelude.{◌≡◌, ◌↔◌, ◌⊎◌, ℕ, ℤ, List, All, Contains, Some, slice_get}
use Rattle.plane.specs.declared.edge.Edge.{Edge}
use Rattle.plane.specs.Meet.Edges.{IsOf, RationalPoint}
use Rattle.plane.specs.Meet.Kinds.{IsEnd as IsEndPoint}
use Rattle.noding.specs.Chains.{AreNotParallel, CrossAt, IsEnd, IsHot}
use Rattle.plane.specs.Gains.{IsOfSome}
use Rattle.noding.specs.Rounding.{RoundsTo}
use Rattle.plane.specs.declared.point.Point.{Point}
use Rattle.noding.specs.declared.crossings.Crossing.{Crossing}

-- The edges cross at a point that rounds to this one, which is an end of neither.
abbrev pub CrossInside : Edge → Edge → Point → Type 0
CrossInside one other point = CrossAt one other point.x point.y × (¬ (IsEnd one point.x point.y ⊎ IsEnd other point.x point.y))

-- The edges at this pair of places do.
pub record IsCrossingOf (edges : List Edge) (pair : ℕ × ℕ) (point : Point) : Type 0 where
  pub one : Edge
  pub other : Edge
  pub first : slice_get edges pair.0 ≡ Some one
  pub second : slice_get edges pair.1 ≡ Some other
  pub cross : CrossInside one other point

-- The points are those at which the edges at one of the pairs cross so.
abbrev pub AreCrossings : List Edge → List (ℕ × ℕ) → List Point → Type 0
AreCrossings edges pairs points = (point : Point) → Contains points point ↔ IsOfSome (IsCrossingOf edges) pairs point

-- ---- crossings with the places of their edges

-- The edges at the crossing's places cross at its point.
pub record IsCrossed (edges : List Edge) (crossing : Crossing) : Type 0 where
  pub one : Edge
  pub other : Edge
  pub first : slice_get edges crossing.one ≡ Some one
  pub second : slice_get edges crossing.other ≡ Some other
  pub cross : CrossAt one other crossing.point.x crossing.point.y

-- It is the crossing of the edges at this pair of places.
abbrev pub IsCrossedAt : List Edge → ℕ × ℕ → Crossing → Type 0
IsCrossedAt edges pair crossing = (pair ≡ (crossing.one, crossing.other)) × IsCrossed edges crossing

-- The crossings are those of the edges at the pairs.
abbrev pub AreCrossed : List Edge → List (ℕ × ℕ) → List Crossing → Type 0
AreCrossed edges pairs crossings = (crossing : Crossing) → Contains crossings crossing ↔ IsOfSome (IsCrossedAt edges) pairs crossing

-- The point is the crossing's, and an end of neither edge.
pub record IsPointInside (edges : List Edge) (crossing : Crossing) (point : Point) : Type 0 where
  pub one : Edge
  pub other : Edge
  pub first : slice_get edges crossing.one ≡ Some one
  pub second : slice_get edges crossing.other ≡ Some other
  pub none : ¬ (IsEnd one crossing.point.x crossing.point.y ⊎ IsEnd other crossing.point.x crossing.point.y)
  pub is : point ≡ crossing.point

-- The points are those of the crossings that are so.
abbrev pub ArePointsInside : List Edge → List Crossing → List Point → Type 0
ArePointsInside edges crossings points = (point : Point) → Contains points point ↔ IsOfSome (IsPointInside edges) crossings point

-- ---- all crossings between ends

-- The edges aren't parallel, and their common point, which is an end of neither, rounds to the whole point (x, y).
abbrev pub CrossBetweenEnds : Edge → Edge → ℤ → ℤ → Type 0
CrossBetweenEnds one other x y =
    AreNotParallel one other
    × ((point : RationalPoint) × IsOf one point × IsOf other point × RoundsTo point x y × (¬ (IsEndPoint one point ⊎ IsEndPoint other point)))

-- Each two edges that cross between their ends are at one of the pairs of places, in one order or the other.
abbrev pub HaveAllCrossed : List Edge → List (ℕ × ℕ) → Type 0
HaveAllCrossed edges pairs =
    (i j : ℕ) (one other : Edge) (x y : ℤ) → slice_get edges i ≡ Some one → slice_get edges j ≡ Some other → CrossBetweenEnds one other x y
    → Contains pairs (i, j) ⊎ Contains pairs (j, i)

-- Crossings of the edges, among them that of each two that cross between their ends, in one order or the other.
pub record AreAllCrossed (edges : List Edge) (crossings : List Crossing) : Type 0 where
  pub each : All (IsCrossed edges) crossings
  pub all : (i j : ℕ) (one other : Edge) (point : Point) → slice_get edges i ≡ Some one → slice_get edges j ≡ Some other → CrossBetweenEnds one other point.x point.y → Contains crossings (record { one = i; other = j; point = point }) ⊎ Contains crossings (record { one = j; other = i; point = point })

-- ---- hot points

-- The point is an end of the edge.
abbrev pub IsEndOf : Edge → Point → Type 0
IsEndOf edge point = IsEnd edge point.x point.y

-- It is the crossing's.
abbrev pub IsPointOf : Crossing → Point → Type 0
IsPointOf crossing point = point ≡ crossing.point

-- The points are the hot points of the edges.
abbrev pub AreHot : List Edge → List Point → Type 0
AreHot edges points = (point : Point) → Contains points point ↔ IsHot edges point.x point.y
