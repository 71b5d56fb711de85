-- How the edges that are moved are found. For private contracts.
use Rattle.std.specs.List.Sorted.{IsNonDecreasingBy}
use Rattle.std.specs.List.{count_by}
use Rattle.std.specs.Prelude.{◌≡◌, ◌⊎◌, ◌↔◌, ◌++◌, Bool, true, false, ℕ, pos, ◌+ℤ◌, ◌*ℤ◌, ◌≤ℤ◌, ◌<ℤ◌, List, [], ◌∷◌, All, Contains, Some, get_or, length, slice_get}
use Rattle.plane.specs.declared.edge.Edge.{Edge}
use Rattle.plane.specs.declared.point.Point.{Point}
use Rattle.plane.specs.Meet.Kinds.{HasPoint}
use Rattle.noding.specs.Chains.{IsHot, Passes}
use Rattle.noding.specs.Local.{IsMoved}
use Rattle.noding.specs.Offsets.{between}
use Rattle.noding.specs.Stops.{IsKept, point_of}
use Rattle.noding.specs.declared.moved.Visit.{Visit}
use Rattle.noding.specs.declared.stops.Stop.{Stop}

-- The number of a point: by it points are in order by x, and then by y.
abbrev pub IsNumberOf : Point → ℕ → Type 0
IsNumberOf point number = pos number ≡ (((point.x +ℤ pos 2147483648) *ℤ pos 4294967296) +ℤ (point.y +ℤ pos 2147483648))

-- The point's coordinates fit in 32 bits: so no other such point has its number.
pub record IsInRange (point : Point) : Type 0 where
  pub left : pos 0 ≤ℤ (point.x +ℤ pos 2147483648)
  pub low : pos 0 ≤ℤ (point.y +ℤ pos 2147483648)
  pub high : (point.y +ℤ pos 2147483648) <ℤ pos 4294967296

-- The list at this place of those that are joined, by where each stops.
abbrev pub chain_of : ℕ → List Point → List ℕ → List Point
chain_of place points ends = between (get_or (0 ∷ ends) place 0) (get_or ends place 0) points

-- ---- edges that are found

-- The edge at this place is moved.
pub record IsMovedPlace (edges : List Edge) (place : ℕ) : Type 0 where
  pub edge : Edge
  pub stands : slice_get edges place ≡ Some edge
  pub moved : IsMoved edges edge

-- Those are flagged that the list has, once each.
pub record AreFlagged (flags : List Bool) (order : List ℕ) : Type 0 where
  pub exact : (place : ℕ) → (get_or flags place false ≡ true) ↔ Contains order place
  pub once : length order ≡ count_by (λ flag. flag) flags

-- Of the edges some that are moved are flagged.
pub record AreFound (edges : List Edge) (flags : List Bool) (order : List ℕ) : Type 0 where
  pub size : length flags ≡ length edges
  pub flagged : AreFlagged flags order
  pub moved : (place : ℕ) → Contains order place → IsMovedPlace edges place

-- ---- visits

-- The visit is that of the stop, which is one of the edge.
pub record IsVisitOf (edge : Edge) (stop : Stop) (visit : Visit) : Type 0 where
  pub at : visit.place ≡ stop.place
  pub is : visit.point ≡ point_of edge stop
  pub numbered : IsNumberOf visit.point visit.number
  pub fits : IsInRange visit.point

-- The list gains the visit of the stop, unless this lies on the edge or the edge is flagged.
abbrev pub AppendsUnlessKept : Edge → Bool → Stop → List Visit → List Visit → Type 0
AppendsUnlessKept edge is_flagged stop before after =
    IsKept edge is_flagged stop × (after ≡ before)
    ⊎ (¬ (IsKept edge is_flagged stop)) × ((visit : Visit) × IsVisitOf edge stop visit × (after ≡ before ++ visit ∷ []))

-- The visit is one of some edge, at a point that this passes and that doesn't lie on it.
pub record IsVisit (edges : List Edge) (visit : Visit) : Type 0 where
  pub edge : Edge
  pub stands : slice_get edges visit.place ≡ Some edge
  pub passes : Passes edge visit.point.x visit.point.y
  pub beside : ¬ (HasPoint edge visit.point.x visit.point.y)
  pub numbered : IsNumberOf visit.point visit.number
  pub fits : IsInRange visit.point

-- One of the visits is of the edge at this place, at the point.
abbrev pub HasVisit : List Visit → ℕ → Point → Type 0
HasVisit visits place point = (visit : Visit) × Contains visits visit × (visit.place ≡ place) × (visit.point ≡ point)

-- All visits of edges that aren't flagged.
pub record AreVisits (edges : List Edge) (flags : List Bool) (visits : List Visit) : Type 0 where
  pub each : (place : ℕ) (edge : Edge) (point : Point) → slice_get edges place ≡ Some edge → get_or flags place false ≡ false → IsHot edges point.x point.y → Passes edge point.x point.y → ¬ (HasPoint edge point.x point.y) → HasVisit visits place point
  pub of : All (IsVisit edges) visits

-- They don't fall by their numbers.
abbrev pub AreInOrder : List Visit → Type 0
AreInOrder visits = IsNonDecreasingBy (λ visit. visit.number) visits

-- ---- what points move

-- The visit is of the edge at this place.
abbrev pub IsPlaceOf : Visit → ℕ → Type 0
IsPlaceOf visit place = place ≡ visit.place

-- So is one of these, of this number.
pub record IsMovedFrom (visits : List Visit) (number place : ℕ) : Type 0 where
  pub visit : Visit
  pub held : Contains visits visit
  pub numbered : visit.number ≡ number
  pub at : IsPlaceOf visit place

-- So is one of the point's number, which is in range.
abbrev pub IsMovedAt : List Visit → Point → ℕ → Type 0
IsMovedAt visits point place = (number : ℕ) × IsNumberOf point number × IsInRange point × IsMovedFrom visits number place

-- Where a visit is flagged, the list has all that its number moves.
pub record AreSpread (visits : List Visit) (flags : List Bool) (order : List ℕ) : Type 0 where
  pub size : length flags ≡ length visits
  pub each : (i : ℕ) (d : Visit) → get_or flags i false ≡ true → (place : ℕ) → IsMovedFrom visits (get_or visits i d).number place → Contains order place
