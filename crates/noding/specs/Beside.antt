-- Stops of edges at crossings of two others. For private contracts.
use Rattle.std.specs.Prelude.{◌≡◌, ◌⊎◌, ℕ, ◌<◌, ◌≤◌, pos, ◌-ℤ◌, ◌*ℤ◌, ◌≤ℤ◌, ◌<ℤ◌, List, All, AllPairs, Contains, Some, get_or, slice_get}
use Rattle.plane.specs.declared.edge.Edge.{Edge}
use Rattle.plane.specs.declared.point.Point.{Point}
use Rattle.plane.specs.Ends.{edge_between, end_of, start_of}
use Rattle.plane.specs.Lines.{height_over, margin_of}
use Rattle.noding.specs.Chains.{IsEnd, Passes, Upto}
use Rattle.noding.specs.Close.{PassesPoint}
use Rattle.noding.specs.Stops.{IsStopAlong, point_of}
use Rattle.noding.specs.declared.crossings.Crossing.{Crossing}
use Rattle.noding.specs.declared.stops.Stop.{Stop}

-- The edge from the one point to an end of the edge passes the other point between its ends.
abbrev pub IsFrom : Point → Edge → Point → Type 0
IsFrom from edge point = PassesPoint (edge_between from (start_of edge)) point ⊎ PassesPoint (edge_between from (end_of edge)) point

-- Some edge from an end of the one edge to an end of the other does, and the point is an end of neither of the two.
abbrev pub ClosesAt : Edge → Edge → Point → Type 0
ClosesAt one other point =
    (IsFrom (start_of one) other point ⊎ IsFrom (end_of one) other point) × (¬ (IsEnd one point.x point.y ⊎ IsEnd other point.x point.y))

-- None does at the crossing of the edges at its places.
abbrev pub IsUnclosed : List Edge → Crossing → Type 0
IsUnclosed edges crossing = (one other : Edge) → slice_get edges crossing.one ≡ Some one → slice_get edges crossing.other ≡ Some other → ¬ (ClosesAt one other crossing.point)

-- Nor at any of them.
abbrev pub NoneCloses : List Edge → List Crossing → Type 0
NoneCloses edges crossings = All (IsUnclosed edges) crossings

-- The edge doesn't come down over the line: its end lies as far to the line's left as its start, or further.
abbrev pub RisesOver : Edge → Edge → Type 0
RisesOver line edge = height_over line (start_of edge) ≤ℤ height_over line (end_of edge)

-- The point lies below the line, or above it, beyond twice its margin.
abbrev pub LiesFarBelow : Edge → Point → Type 0
LiesFarBelow line point = height_over line point <ℤ (pos 0 -ℤ (pos 2 *ℤ margin_of line))

abbrev pub LiesFarAbove : Edge → Point → Type 0
LiesFarAbove line point = (pos 2 *ℤ margin_of line) <ℤ height_over line point

-- The stops stand in the order along the edge, which passes them.
pub record StandAlong (edge : Edge) (stops : List Stop) : Type 0 where
  pub in_order : AllPairs (λ one other. Upto edge (point_of edge one).x (point_of edge one).y (point_of edge other).x (point_of edge other).y) stops
  pub passed : All (λ stop. Passes edge (point_of edge stop).x (point_of edge stop).y) stops

-- The one edge passes none of the other's stops from the one place on and before the other.
abbrev pub NonePassed : Edge → Edge → ℕ → ℕ → List Stop → Type 0
NonePassed line other start end stops =
    (k : ℕ) (d : Stop) → start ≤ k → k < end → ¬ (Passes line (point_of other (get_or stops k d)).x (point_of other (get_or stops k d)).y)

-- The edge at the stop's place passes it.
abbrev pub PassesItsEdge : List Edge → Stop → Type 0
PassesItsEdge edges stop = (edge : Edge) → slice_get edges stop.place ≡ Some edge → Passes edge (point_of edge stop).x (point_of edge stop).y

-- The stop is that of the edge, which is at this place, at a stop of the other edge, if it passes that between its ends.
abbrev pub IsStopAtOther : ℕ → Edge → Edge → Stop → Stop → Type 0
IsStopAtOther place edge other at stop = IsStopAlong place edge (point_of other at).x (point_of other at).y stop

-- It is one of the edge at the one place at a stop of the edge at the other place, which is among these.
abbrev pub IsStopOver : List Stop → ℕ → Edge → ℕ → Edge → Stop → Type 0
IsStopOver stops place edge i other stop = (at : Stop) × Contains stops at × (at.place ≡ i) × IsStopAtOther place edge other at stop

-- It is so one of the edges at the pair of places at a stop of the other.
pub record IsStopBeside (edges : List Edge) (stops : List Stop) (pair : ℕ × ℕ) (stop : Stop) : Type 0 where
  pub one : Edge
  pub other : Edge
  pub first : slice_get edges pair.0 ≡ Some one
  pub second : slice_get edges pair.1 ≡ Some other
  pub over : IsStopOver stops pair.0 one pair.1 other stop ⊎ IsStopOver stops pair.1 other pair.0 one stop
