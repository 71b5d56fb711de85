-- What a sweep by columns is asked about ends of edges, and which of them lie on other edges. For private contracts.
use Rattle.std.specs.Prelude.{◌≡◌, ◌≢◌, ◌⊎◌, ◌↔◌, ◌<◌, ◌≤◌, ◌+◌, ◌-◌, ◌++◌, ◌∷◌, [], ℕ, List, Contains, Some, cond, slice_get}
use Rattle.std.specs.Ordering.{int_eq}
use Rattle.plane.specs.declared.columns.Asked.{Asked}
use Rattle.plane.specs.declared.edge.Edge.{Edge}
use Rattle.plane.specs.declared.point.Point.{Point}
use Rattle.plane.specs.Gains.{IsOfSome}
use Rattle.plane.specs.Meet.Kinds.{HasPoint}
use Rattle.noding.specs.Chains.{IsEnd}
use Rattle.noding.specs.Columns.Passing.{nowhere}
use Rattle.noding.specs.Crossings.{IsEndOf}
use Rattle.noding.specs.Stops.{stop_of}
use Rattle.noding.specs.declared.crossings.Crossing.{Crossing}
use Rattle.noding.specs.declared.stops.Stop.{Stop}

-- Asked of a point: which edges have its height there.
abbrev pub asked_at : Point → Asked
asked_at point = record { x = point.x; low = point.y; high = point.y }

-- The pairs of an edge and of what is asked are dealt out: those of the first so many that are asked, and those of the ones behind
-- them, which are counted from there on.
pub record AreDealt (count : ℕ) (met about on : List (ℕ × ℕ)) : Type 0 where
  pub about_is : (i k : ℕ) → Contains about (i, k) ↔ (Contains met (i, k) × (k < count))
  pub on_is : (i j : ℕ) → Contains on (i, j) ↔ Contains met (i, count + j)

-- One pair is.
abbrev pub Deals : ℕ → ℕ × ℕ → List (ℕ × ℕ) → List (ℕ × ℕ) → List (ℕ × ℕ) → List (ℕ × ℕ) → Type 0
Deals count pair about on new_about new_on =
    (pair.1 < count) × (new_about ≡ about ++ pair ∷ []) × (new_on ≡ on)
    ⊎ (count ≤ pair.1) × (new_about ≡ about) × (new_on ≡ on ++ (pair.0, pair.1 - count) ∷ [])

-- The points are the ends of the edges.
abbrev pub AreEnds : List Edge → List Point → Type 0
AreEnds edges points = (point : Point) → Contains points point ↔ IsOfSome IsEndOf edges point

-- The point lies on the edge, and is no end of it.
abbrev pub LiesInside : Edge → Point → Type 0
LiesInside edge point = HasPoint edge point.x point.y × (¬ (IsEnd edge point.x point.y))

-- The list has all pairs of an edge that isn't upright and of a point that lies so on it, and all of one that is.
abbrev pub HaveAllOn : List Edge → List Point → List (ℕ × ℕ) → Type 0
HaveAllOn edges points pairs =
    (i j : ℕ) (edge : Edge) (point : Point) → slice_get edges i ≡ Some edge → slice_get points j ≡ Some point → edge.x0 ≢ edge.x1 → LiesInside edge point
    → Contains pairs (i, j)

abbrev pub HaveAllOnUprights : List Edge → List Point → List (ℕ × ℕ) → Type 0
HaveAllOnUprights edges points pairs =
    (i j : ℕ) (edge : Edge) (point : Point) → slice_get edges i ≡ Some edge → slice_get points j ≡ Some point → edge.x0 ≡ edge.x1 → LiesInside edge point
    → Contains pairs (i, j)

-- The edge, if that is upright, and a point else.
abbrev pub upright_alone : Edge → Edge
upright_alone edge = cond (int_eq edge.x0 edge.x1) edge nowhere

-- The crossing's point is an end of one of its edges, and lies on both.
pub record LiesAtEnd (edges : List Edge) (crossing : Crossing) : Type 0 where
  pub one : Edge
  pub other : Edge
  pub first : slice_get edges crossing.one ≡ Some one
  pub second : slice_get edges crossing.other ≡ Some other
  pub end : IsEnd one crossing.point.x crossing.point.y ⊎ IsEnd other crossing.point.x crossing.point.y
  pub on : HasPoint one crossing.point.x crossing.point.y × HasPoint other crossing.point.x crossing.point.y

-- The stop is that of the edge, which is at this place, at the point, which lies on it between its ends.
abbrev pub IsStopHeld : ℕ → Edge → Point → Stop → Type 0
IsStopHeld place edge point stop = LiesInside edge point × (stop ≡ stop_of place edge point.x point.y)

-- So it is of the edge at the first place of the pair, and the point at its second place.
pub record IsStopHeldAt (edges : List Edge) (points : List Point) (pair : ℕ × ℕ) (stop : Stop) : Type 0 where
  pub edge : Edge
  pub point : Point
  pub first : slice_get edges pair.0 ≡ Some edge
  pub second : slice_get points pair.1 ≡ Some point
  pub held : IsStopHeld pair.0 edge point stop
