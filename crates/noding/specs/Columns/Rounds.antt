-- Which edges are moved, told in rounds from points to edges and from these to the points that they pass. For private contracts.
use Rattle.std.specs.Prelude.{◌≡◌, ◌≢◌, ◌⊎◌, ◌↔◌, Bool, true, false, ℕ, List, All, Contains, Some, get_or, length, slice_get}
use Rattle.plane.specs.declared.edge.Edge.{Edge}
use Rattle.plane.specs.declared.point.Point.{Point}
use Rattle.plane.specs.declared.pairs.items.Bounds.{Bounds}
use Rattle.plane.specs.Gains.{GainsThese}
use Rattle.plane.specs.Meet.Kinds.{HasPoint}
use Rattle.plane.specs.Pairs.Bounds.{BoundsMeet}
use Rattle.noding.specs.Chains.{IsHot, Passes}
use Rattle.noding.specs.Close.{PassesPoint, at_point}
use Rattle.noding.specs.Columns.Passing.{nowhere}
use Rattle.noding.specs.Crossings.{IsEndOf}
use Rattle.noding.specs.Local.{Moves, MovesInRound}
use Rattle.noding.specs.Moving.{IsMovedPlace}
use Rattle.noding.specs.Stops.{IsStop, LiesOn, point_of, stop_of}
use Rattle.noding.specs.declared.stops.Stop.{Stop}

-- There is a flag for each edge, and those that are flagged are moved.
pub record AreFlaggedMoved (edges : List Edge) (flags : List Bool) : Type 0 where
  pub size : length flags ≡ length edges
  pub moved : (place : ℕ) → get_or flags place false ≡ true → IsMovedPlace edges place

-- The point is that of the stop.
pub record IsPointOfStop (edges : List Edge) (stop : Stop) (point : Point) : Type 0 where
  pub edge : Edge
  pub stands : slice_get edges stop.place ≡ Some edge
  pub is : point ≡ point_of edge stop

-- It is flagged at last, and wasn't before.
abbrev pub IsNewly : List Bool → List Bool → ℕ → Type 0
IsNewly flags new_flags place = (get_or flags place false ≡ false) × (get_or new_flags place false ≡ true)

-- The point lies in the box.
abbrev pub IsWithin : Bounds → Point → Type 0
IsWithin box point = BoundsMeet box (at_point point.x point.y)

-- It is this one, and lies in the box.
abbrev pub IsOneWithin : Bounds → Point → Point → Type 0
IsOneWithin box one point = IsWithin box one × (point ≡ one)

-- ---- one stop

-- The list has the item at the place, and is as it was elsewhere.
abbrev pub IsSetAt : {X : Type 0} → ℕ → X → List X → List X → Type 0
IsSetAt {X} place x before after =
    (length after ≡ length before) × ((d : X) → get_or after place d ≡ x) × ((other : ℕ) (d : X) → other ≢ place → get_or after other d ≡ get_or before other d)

-- Where the stop doesn't lie on its edge, and this isn't flagged, it is flagged, stands at its place among the newly flagged
-- ones, and its ends are told.
abbrev pub FlagsIfBeside : Edge → Stop → List Bool → List Edge → List Point → List Bool → List Edge → List Point → Type 0
FlagsIfBeside edge stop flags alone passed new_flags new_alone new_passed =
    (LiesOn edge stop ⊎ (get_or flags stop.place false ≡ true)) × (new_flags ≡ flags) × (new_alone ≡ alone) × (new_passed ≡ passed)
    ⊎ (¬ (LiesOn edge stop)) × (get_or flags stop.place false ≡ false) × IsSetAt stop.place true flags new_flags × IsSetAt stop.place edge alone new_alone
    × GainsThese (IsEndOf edge) passed new_passed

-- ---- all stops

-- One of the stops is of the edge at this place, and doesn't lie on it.
pub record IsBesideAt (edges : List Edge) (stops : List Stop) (place : ℕ) : Type 0 where
  pub stop : Stop
  pub edge : Edge
  pub held : Contains stops stop
  pub at : stop.place ≡ place
  pub stands : slice_get edges place ≡ Some edge
  pub beside : ¬ (LiesOn edge stop)

-- It is an end of an edge that is newly flagged.
pub record IsNewEnd (edges : List Edge) (flags new_flags : List Bool) (point : Point) : Type 0 where
  pub place : ℕ
  pub edge : Edge
  pub stands : slice_get edges place ≡ Some edge
  pub newly : IsNewly flags new_flags place
  pub end : IsEndOf edge point

-- Those edges are flagged that were, and those of which a stop doesn't lie on them. The newly flagged ones stand at their places
-- alone, and their ends are told.
pub record Flags (edges : List Edge) (stops : List Stop) (flags new_flags : List Bool) (alone : List Edge) (passed : List Point) : Type 0 where
  pub size : length new_flags ≡ length flags
  pub exact : (place : ℕ) → (get_or new_flags place false ≡ true) ↔ ((get_or flags place false ≡ true) ⊎ IsBesideAt edges stops place)
  pub alone_size : length alone ≡ length edges
  pub newly : (place : ℕ) (edge : Edge) → slice_get edges place ≡ Some edge → IsNewly flags new_flags place → slice_get alone place ≡ Some edge
  pub others : (place : ℕ) (edge : Edge) → slice_get alone place ≡ Some edge → (slice_get edges place ≡ Some edge) × IsNewly flags new_flags place ⊎ (edge ≡ nowhere)
  pub ends : (point : Point) → Contains passed point ↔ IsNewEnd edges flags new_flags point

-- ---- one round

-- What fresh points move is flagged. All stops there are told, and of those that are newly flagged all, and all hot points
-- that they pass.
pub record Spreads (edges : List Edge) (fresh : List Point) (flags : List Bool) (stops : List Stop) (new_flags : List Bool) (new_stops : List Stop) (points : List Point) : Type 0 where
  pub found : AreFlaggedMoved edges new_flags
  pub keeps : (place : ℕ) → get_or flags place false ≡ true → get_or new_flags place false ≡ true
  pub keeps_stops : (stop : Stop) → Contains stops stop → Contains new_stops stop
  pub of : (stop : Stop) → Contains new_stops stop → Contains stops stop ⊎ IsStop edges stop
  pub here : (place : ℕ) (edge : Edge) (point : Point) → slice_get edges place ≡ Some edge → Contains fresh point → PassesPoint edge point → Contains new_stops (stop_of place edge point.x point.y)
  pub moved_here : (place : ℕ) (edge : Edge) (point : Point) → slice_get edges place ≡ Some edge → Contains fresh point → Passes edge point.x point.y → ¬ (HasPoint edge point.x point.y) → get_or new_flags place false ≡ true
  pub along : (place : ℕ) (edge : Edge) (point : Point) → slice_get edges place ≡ Some edge → IsNewly flags new_flags place → IsHot edges point.x point.y → PassesPoint edge point → Contains new_stops (stop_of place edge point.x point.y)
  pub passed : (place : ℕ) (edge : Edge) (point : Point) → slice_get edges place ≡ Some edge → IsNewly flags new_flags place → IsHot edges point.x point.y → Passes edge point.x point.y → Contains points point
  pub moving : All (λ point. Moves edges point.x point.y) points

-- ---- all rounds

-- All of these are stops, and of the flagged edges all are there, and of all edges those at points that move edges in the
-- first round.
pub record AreSpreadStops (edges : List Edge) (flags : List Bool) (stops : List Stop) : Type 0 where
  pub of : All (IsStop edges) stops
  pub moved : (place : ℕ) (edge : Edge) (point : Point) → slice_get edges place ≡ Some edge → get_or flags place false ≡ true → IsHot edges point.x point.y → PassesPoint edge point → Contains stops (stop_of place edge point.x point.y)
  pub first : (place : ℕ) (edge : Edge) (point : Point) → slice_get edges place ≡ Some edge → MovesInRound edges 0 point.x point.y → PassesPoint edge point → Contains stops (stop_of place edge point.x point.y)
