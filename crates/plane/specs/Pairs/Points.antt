-- What is told of items and points, row by row. For private contracts.
use Rattle.std.specs.Prelude.{◌≡◌, ◌≢◌, ◌↔◌, ◌⊎◌, ℕ, ◌<◌, ◌≤◌, ℤ, ◌<ℤ◌, ◌≤ℤ◌, Some, List, ◌++◌, All, AllPairs, Contains, get_or, length, slice_get}
use Rattle.plane.specs.Pairs.Bounds.{IsPoint}
use Rattle.plane.specs.Pairs.Parts.{AreParts}
use Rattle.plane.specs.declared.pairs.items.Bounds.{Bounds}
use Rattle.plane.specs.declared.pairs.parts.Part.{Part}
use Rattle.plane.specs.declared.pairs.strips.Strips.{Strips}

-- these are the pairs of places of which this holds, each once
pub record AreAll (IsPair : ℕ → ℕ → Type 0) (pairs : List (ℕ × ℕ)) : Type 0 where
  pub once : AllPairs (λ pair later. pair ≢ later) pairs
  pub exact : (i j : ℕ) → Contains pairs (i, j) ↔ IsPair i j

-- the list gains these pairs at its end
abbrev pub Gains : (ℕ → ℕ → Type 0) → List (ℕ × ℕ) → List (ℕ × ℕ) → Type 0
Gains IsPair before after = (pairs : List (ℕ × ℕ)) × (after ≡ before ++ pairs) × AreAll IsPair pairs

-- what an item meets stands at this place among the points
pub record MeetsAt {Y : Type 0} (Meeting : Y → Type 0) (points : List Y) (j : ℕ) : Type 0 where
  pub point : Y
  pub stands : slice_get points j ≡ Some point
  pub meet : Meeting point

-- and its part among all parts is one of those that are wanted, by where they stand
pub record MeetsPart {Y : Type 0} (Meeting : Y → Type 0) (points : List Y) (parts : List Part) (Wanted : ℕ → Part → Type 0) (j : ℕ) : Type 0 where
  pub met : MeetsAt Meeting points j
  pub at : ℕ
  pub part : Part
  pub listed : slice_get parts at ≡ Some part
  pub is : part.place ≡ j
  pub wanted : Wanted at part

-- a part in a row from an x on, or in a row above
pub record IsFrom (row : ℕ) (left : ℤ) (part : Part) : Type 0 where
  pub above : row ≤ part.strip
  pub behind : part.strip ≡ row → left ≤ℤ part.left

-- a part in a row before an x, or in a row below
abbrev pub IsShort : ℕ → ℤ → Part → Type 0
IsShort row left part = (part.strip < row) ⊎ ((part.strip ≡ row) × (part.left <ℤ left))

-- the parts from this place on are those in the row from the x on and in the rows above
pub record IsFirstFrom (parts : List Part) (row : ℕ) (left : ℤ) (first : ℕ) : Type 0 where
  pub short : (at : ℕ) (part : Part) → slice_get parts at ≡ Some part → at < first → IsShort row left part
  pub from : (at : ℕ) (part : Part) → slice_get parts at ≡ Some part → first ≤ at → IsFrom row left part

-- the parts from this place on are those in the row and in the rows above
pub record IsStart (parts : List Part) (row start : ℕ) : Type 0 where
  pub within : start ≤ length parts
  pub below : (at : ℕ) (part : Part) → slice_get parts at ≡ Some part → at < start → part.strip < row
  pub above : (at : ℕ) (part : Part) → slice_get parts at ≡ Some part → start ≤ at → row ≤ part.strip

-- these are the starts of rows from the first one on, and the parts before this place stand in these rows
pub record AreStarts (parts : List Part) (place : ℕ) (starts : List ℕ) : Type 0 where
  pub each : (row d : ℕ) → row < length starts → IsStart parts row (get_or starts row d)
  pub all : (at : ℕ) (part : Part) → slice_get parts at ≡ Some part → at < place → part.strip < length starts

-- these are the points of so many parts, in the order of the parts
pub record ArePointsOf {Y : Type 0} (points : List Y) (parts : List Part) (count : ℕ) (ordered : List Y) : Type 0 where
  pub many : length ordered ≡ count
  pub each : (at : ℕ) (part : Part) (point : Y) → slice_get parts at ≡ Some part → slice_get ordered at ≡ Some point → slice_get points part.place ≡ Some point

-- there are as many points as parts, and each part begins where the point in its place stands
pub record BeginAs {Y : Type 0} (bounds : Y → Bounds) (parts : List Part) (ordered : List Y) : Type 0 where
  pub many : length ordered ≡ length parts
  pub each : (at : ℕ) (part : Part) (point : Y) → slice_get parts at ≡ Some part → slice_get ordered at ≡ Some point → (bounds point).left ≡ part.left

-- these are points in rows, by the parts of the points, by where each row begins among these, and by the points in their order
pub record AreRows {Y : Type 0} (bounds : Y → Bounds) (rows : Strips) (points : List Y) (parts : List Part) (starts : List ℕ) (ordered : List Y) : Type 0 where
  pub are_points : All (λ point. IsPoint (bounds point)) points
  pub base : All (λ point. rows.base ≤ℤ (bounds point).low) points
  pub are_parts : AreParts bounds rows points parts
  pub are_starts : AreStarts parts (length parts) starts
  pub are_ordered : ArePointsOf points parts (length parts) ordered
