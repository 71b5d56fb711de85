-- The stops of edges at hot points. For private contracts.
use Rattle.std.specs.Prelude.{◌≡◌, ◌≢◌, ◌⊎◌, ◌↔◌, Bool, true, false, ℕ, ◌<◌, ◌≤◌, ℤ, pos, ◌-ℤ◌, ◌<ℤ◌, cond, List, [], ◌∷◌, ◌++◌, All, AllPairs, Contains, Some, get_or, length, map, slice_get}
use Rattle.std.specs.List.{AllZip}
use Rattle.std.specs.Int.Signed.{lt_z}
use Rattle.plane.specs.declared.edge.Edge.{Edge}
use Rattle.plane.specs.declared.point.Point.{Point}
use Rattle.plane.specs.Meet.Kinds.{HasPoint}
use Rattle.noding.specs.Chains.{IsEnd, IsHot, Passes}
use Rattle.noding.specs.Close.{PassesInside}
use Rattle.noding.specs.Crossings.{CrossInside, IsCrossingOf, IsPointInside}
use Rattle.plane.specs.Gains.{IsOfSome}
use Rattle.noding.specs.Local.{IsNode}
use Rattle.noding.specs.Offsets.{between}
use Rattle.plane.specs.Ends.{start_of, end_of}
use Rattle.noding.specs.declared.crossings.Crossing.{Crossing}
use Rattle.noding.specs.declared.stops.Stop.{Stop}

-- The number, or where the way from the one number to the other goes down its reflection: so they rise along the way.
abbrev pub reflected : ℤ → ℤ → ℤ → ℤ
reflected from to number = cond (lt_z to from) ((pos 0 -ℤ pos 1) -ℤ number) number

-- The stop of the edge, which is at this place among others, at the whole point (x, y).
abbrev pub stop_of : ℕ → Edge → ℤ → ℤ → Stop
stop_of place edge x y = record {
  place = place;
  along_x = reflected edge.x0 edge.x1 x;
  along_y = reflected edge.y0 edge.y1 y;
}

-- The point of a stop of the edge.
abbrev pub point_of : Edge → Stop → Point
point_of edge stop = record {
  x = reflected edge.x0 edge.x1 stop.along_x;
  y = reflected edge.y0 edge.y1 stop.along_y;
}

-- The stop is that of the edge, which is at this place, at the whole point (x, y), which it passes between its ends.
abbrev pub IsStopAlong : ℕ → Edge → ℤ → ℤ → Stop → Type 0
IsStopAlong place edge x y stop = PassesInside edge x y × (stop ≡ stop_of place edge x y)

-- It is one of the edge, which is at this place, at an end of the other one.
abbrev pub IsStopAtEnd : Edge → ℕ → Edge → Stop → Type 0
IsStopAtEnd other place edge stop = IsStopAlong place edge other.x0 other.y0 stop ⊎ IsStopAlong place edge other.x1 other.y1 stop

-- It is one of the edges at the pair of places, at an end of the other one.
pub record IsStopOfPair (edges : List Edge) (pair : ℕ × ℕ) (stop : Stop) : Type 0 where
  pub one : Edge
  pub other : Edge
  pub first : slice_get edges pair.0 ≡ Some one
  pub second : slice_get edges pair.1 ≡ Some other
  pub at : IsStopAtEnd other pair.0 one stop ⊎ IsStopAtEnd one pair.1 other stop

-- It is that of the edge at the first place of the pair, at the point at its second place.
pub record IsStopAt (edges : List Edge) (points : List Point) (pair : ℕ × ℕ) (stop : Stop) : Type 0 where
  pub edge : Edge
  pub point : Point
  pub first : slice_get edges pair.0 ≡ Some edge
  pub second : slice_get points pair.1 ≡ Some point
  pub is : stop ≡ stop_of pair.0 edge point.x point.y

-- It is one of some edge, where the edges at one of the pairs of places cross.
pub record IsStopCrossed (edges : List Edge) (pairs : List (ℕ × ℕ)) (stop : Stop) : Type 0 where
  pub place : ℕ
  pub edge : Edge
  pub point : Point
  pub stands : slice_get edges place ≡ Some edge
  pub crossed : IsOfSome (IsCrossingOf edges) pairs point
  pub along : IsStopAlong place edge point.x point.y stop

-- It is one of the edges at the pair of places, where the two cross.
pub record IsStopOfCrossing (edges : List Edge) (pair : ℕ × ℕ) (stop : Stop) : Type 0 where
  pub one : Edge
  pub other : Edge
  pub point : Point
  pub first : slice_get edges pair.0 ≡ Some one
  pub second : slice_get edges pair.1 ≡ Some other
  pub cross : CrossInside one other point
  pub is : (stop ≡ stop_of pair.0 one point.x point.y) ⊎ (stop ≡ stop_of pair.1 other point.x point.y)

-- It is one of two edges at the crossing's point, which is an end of neither.
abbrev pub IsStopOfBoth : Crossing → Edge → Edge → Stop → Type 0
IsStopOfBoth crossing one other stop =
    (¬ (IsEnd one crossing.point.x crossing.point.y ⊎ IsEnd other crossing.point.x crossing.point.y))
    × ((stop ≡ stop_of crossing.one one crossing.point.x crossing.point.y) ⊎ (stop ≡ stop_of crossing.other other crossing.point.x crossing.point.y))

-- It is one of the edges at the crossing's places.
pub record IsStopAtCrossing (edges : List Edge) (crossing : Crossing) (stop : Stop) : Type 0 where
  pub one : Edge
  pub other : Edge
  pub first : slice_get edges crossing.one ≡ Some one
  pub second : slice_get edges crossing.other ≡ Some other
  pub at : IsStopOfBoth crossing one other stop

-- It is one of some edge, at one of the points.
pub record IsStopAmong (edges : List Edge) (points : List Point) (stop : Stop) : Type 0 where
  pub place : ℕ
  pub edge : Edge
  pub point : Point
  pub stands : slice_get edges place ≡ Some edge
  pub held : Contains points point
  pub along : IsStopAlong place edge point.x point.y stop

-- It is one of the edge at this place of the list, at the point.
pub record IsStopOn (edges : List Edge) (point : Point) (place : ℕ) (stop : Stop) : Type 0 where
  pub edge : Edge
  pub stands : slice_get edges place ≡ Some edge
  pub along : IsStopAlong place edge point.x point.y stop

-- It is one of so many edges, the first ones of the list.
abbrev pub IsStopUpto : List Edge → Point → ℕ → Stop → Type 0
IsStopUpto edges point count stop = (place : ℕ) × (place < count) × IsStopOn edges point place stop

-- It is one of some edge, at the crossing's point, which is an end of neither of its two edges.
abbrev pub IsStopThere : List Edge → Crossing → Stop → Type 0
IsStopThere edges crossing stop = IsPointInside edges crossing crossing.point × IsStopUpto edges crossing.point (length edges) stop

-- One of the crossing's two edges is at this place.
abbrev pub IsOfCrossing : ℕ → Crossing → Type 0
IsOfCrossing place crossing = (place ≡ crossing.one) ⊎ (place ≡ crossing.other)

-- They pass its point between their ends.
abbrev pub PassedByBoth : List Edge → Crossing → Type 0
PassedByBoth edges crossing =
    (place : ℕ) (edge : Edge) → slice_get edges place ≡ Some edge → IsOfCrossing place crossing → PassesInside edge crossing.point.x crossing.point.y

-- The one stop comes before the other: at an edge before, or before it along the same edge.
abbrev pub IsBefore : Stop → Stop → Type 0
IsBefore one other =
    (one.place < other.place)
    ⊎ ((one.place ≡ other.place) × ((one.along_x <ℤ other.along_x) ⊎ ((one.along_x ≡ other.along_x) × (one.along_y <ℤ other.along_y))))

-- A stop of one of the edges, at a node of it that the edge passes between its ends.
pub record IsStopOf (IsNode : Edge → ℤ → ℤ → Type 0) (edges : List Edge) (stop : Stop) : Type 0 where
  pub edge : Edge
  pub stands : slice_get edges stop.place ≡ Some edge
  pub node : IsNode edge (point_of edge stop).x (point_of edge stop).y
  pub inside : PassesInside edge (point_of edge stop).x (point_of edge stop).y

-- One of some edge, at a hot point that this passes between its ends.
abbrev pub IsStop : List Edge → Stop → Type 0
IsStop edges stop = IsStopOf (λ edge x y. IsHot edges x y × Passes edge x y) edges stop

-- All stops of the edges at their nodes, in order.
pub record AreStopsOf (IsNode : Edge → ℤ → ℤ → Type 0) (edges : List Edge) (stops : List Stop) : Type 0 where
  pub each : (place : ℕ) (edge : Edge) (x y : ℤ) → slice_get edges place ≡ Some edge → IsNode edge x y → PassesInside edge x y → Contains stops (stop_of place edge x y)
  pub of : All (IsStopOf IsNode edges) stops
  pub in_order : AllPairs IsBefore stops

-- Those at the hot points that the edges pass.
abbrev pub AreStops : List Edge → List Stop → Type 0
AreStops edges stops = AreStopsOf (λ edge x y. IsHot edges x y × Passes edge x y) edges stops

-- Those at the nodes of a noding that moves only what it must.
abbrev pub AreNodeStops : List Edge → List Stop → Type 0
AreNodeStops edges stops = AreStopsOf (IsNode edges) edges stops

-- From the one place to the other in the list the stops are those at the edge at this place: they end where the list does, or
-- before a stop at another edge.
pub record AreAt (place : ℕ) (start end : ℕ) (stops : List Stop) : Type 0 where
  pub rising : start ≤ end
  pub inside : end ≤ length stops
  pub at : (k : ℕ) (default : Stop) → start ≤ k → k < end → (get_or stops k default).place ≡ place
  pub last : (default : Stop) → end < length stops → (get_or stops end default).place ≢ place

-- Before this place in the list the stops are at edges before this one, and from it on at this one or later ones.
pub record Split (place next : ℕ) (stops : List Stop) : Type 0 where
  pub inside : next ≤ length stops
  pub before : (k : ℕ) (d : Stop) → k < next → (get_or stops k d).place < place
  pub behind : (k : ℕ) (d : Stop) → next ≤ k → k < length stops → place ≤ (get_or stops k d).place

-- The list goes on to the edge's end, unless that is its start.
abbrev pub GoesToEnd : Edge → List Point → List Point → Type 0
GoesToEnd edge before after =
    (start_of edge ≡ end_of edge) × (after ≡ before) ⊎ (start_of edge ≢ end_of edge) × (after ≡ before ++ end_of edge ∷ [])

-- The chain is made of the edge's stops among these: it has the edge's start, their points, and the edge's end.
pub record IsRun (edges : List Edge) (stops : List Stop) (edge : Edge) (chain : List Point) : Type 0 where
  pub place : ℕ
  pub start : ℕ
  pub end : ℕ
  pub stands : slice_get edges place ≡ Some edge
  pub split : Split place start stops
  pub run : AreAt place start end stops
  pub goes : GoesToEnd edge (start_of edge ∷ map (point_of edge) (between start end stops)) chain

-- Each edge's chain is.
abbrev pub AreRuns : List Edge → List Stop → List (List Point) → Type 0
AreRuns edges stops chains = AllZip (IsRun edges stops) edges chains

-- ---- which stops are nodes

-- The stop's point lies on the edge.
abbrev pub LiesOn : Edge → Stop → Type 0
LiesOn edge stop = HasPoint edge (point_of edge stop).x (point_of edge stop).y

-- It lies on its own edge, of these.
abbrev pub LiesOnItsEdge : List Edge → Stop → Type 0
LiesOnItsEdge edges stop = (edge : Edge) → slice_get edges stop.place ≡ Some edge → LiesOn edge stop

-- It lies on the edge, or this is said to be moved.
abbrev pub IsKept : Edge → Bool → Stop → Type 0
IsKept edge is_moved stop = LiesOn edge stop ⊎ (is_moved ≡ true)

-- So it is of its own edge, of these.
pub record IsKeptAmong (edges : List Edge) (moved : List Bool) (stop : Stop) : Type 0 where
  pub edge : Edge
  pub stands : slice_get edges stop.place ≡ Some edge
  pub kept : IsKept edge (get_or moved stop.place false) stop

-- The list gains the stop where it is kept.
abbrev pub AppendsIfKept : Edge → Bool → Stop → List Stop → List Stop → Type 0
AppendsIfKept edge is_moved stop before after =
    IsKept edge is_moved stop × (after ≡ before ++ stop ∷ []) ⊎ (¬ (IsKept edge is_moved stop)) × (after ≡ before)

-- Those of the stops that are kept, in order.
pub record AreKept (edges : List Edge) (moved : List Bool) (stops nodes : List Stop) : Type 0 where
  pub exact : (stop : Stop) → Contains nodes stop ↔ (Contains stops stop × IsKeptAmong edges moved stop)
  pub in_order : AllPairs IsBefore nodes
