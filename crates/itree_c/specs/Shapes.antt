-- Shapes in well-known binary behind a handle, which C holds.
use Rattle.std.specs.Prelude.{◌≡◌, ◌⊎◌, ◌↔◌, ◌∷◌, ℕ, ℤ, List, [], Option, Some, None}
use Rattle.grid.specs.declared.units.Grid.{Grid}
use Rattle.grid.specs.Grid.{IsGrid}
use Rattle.grid.specs.declared.position.Position.{Position}
use Rattle.wkb.specs.declared.fault.Fault.{Fault}
use Rattle.wkb.specs.declared.fault.FaultKind.{FaultKind}
use Rattle.wkb.specs.declared.fault.FaultKind.TheVariants.{Short, ByteOrder, Kind, Nested, NotFinite, OffGrid, LeftOver, Offsets}
use Rattle.wkb.specs.Corners.{AreCornersOf}
use Rattle.wkb.specs.Reading.{AreShapes, IsFaulty}
use Rattle.itree_c.specs.declared.shapes.TheConstants.{MOST_NESTED, SHORT, BYTE_ORDER, KIND, NESTED, NOT_FINITE, OFF_GRID, LEFT_OVER, OFFSETS}
use Rattle.itree_c.specs.declared.shapes.ShapePlace.{ShapePlace}
use Rattle.itree_c.specs.declared.polygon_lists.PolygonLists.{PolygonLists}
use Rattle.itree_c.specs.declared.status.TheConstants.{ANSWERED, REFUSED, LENGTHS, CHOICE, FAULTY}

-- the grid that three numbers say
abbrev pub grid_of : ℤ → ℤ → ℤ → Grid
grid_of x y exponent = record { x = x; y = y; exponent = exponent }

-- the number of each kind of fault
abbrev pub number_of_fault : FaultKind → ℕ
number_of_fault Short = SHORT
number_of_fault ByteOrder = BYTE_ORDER
number_of_fault Kind = KIND
number_of_fault Nested = NESTED
number_of_fault NotFinite = NOT_FINITE
number_of_fault OffGrid = OFF_GRID
number_of_fault LeftOver = LEFT_OVER
number_of_fault Offsets = OFFSETS

-- a fault as it is written
abbrev pub place_of_fault : Fault → ShapePlace
place_of_fault fault = record { kind = number_of_fault fault.kind; shape = fault.shape; byte = fault.byte }

-- the points, ring by ring, and the offsets are 0 and where each ring stops among the points, and 0 and where each shape stops
-- among the rings
abbrev pub AreAllShapes : Grid → List ℕ → List ℕ → PolygonLists → Type 0
AreAllShapes grid bytes offsets held =
    (ring_ends : List ℕ) × (shape_ends : List ℕ)
    × AreShapes grid MOST_NESTED bytes offsets held.held_points.items ring_ends shape_ends
    × (held.held_ring_offsets.items ≡ 0 ∷ ring_ends) × (held.held_polygon_offsets.items ≡ 0 ∷ shape_ends)

-- at ANSWERED there are all shapes; at each other status there are none, and at FAULTY something is wrong
abbrev pub HoldsShapes : Grid → List ℕ → List ℕ → ℤ → Option PolygonLists → Type 0
HoldsShapes grid bytes offsets status (Some held) = (status ≡ ANSWERED) × AreAllShapes grid bytes offsets held
HoldsShapes grid bytes offsets status None =
    (status ≡ REFUSED) ⊎ (status ≡ CHOICE) ⊎ ((status ≡ FAULTY) × (fault : Fault) × IsFaulty grid MOST_NESTED bytes offsets fault)

-- a call holds what its status says; that is CHOICE exactly where the grid is none
abbrev pub AnswersShapes : List ℕ → List ℕ → ℤ → ℤ → ℤ → ℤ → Option PolygonLists → Type 0
AnswersShapes bytes offsets x y exponent status made =
    HoldsShapes (grid_of x y exponent) bytes offsets status made × ((status ≡ CHOICE) ↔ ¬ (IsGrid (grid_of x y exponent)))

-- the corners of all positions are written, or there is no position
abbrev pub WritesCorners : List ℕ → List ℕ → ℕ → List Position → List Position → Type 0
WritesCorners bytes offsets found before after =
    ((found ≡ 2) × (low : Position) × (high : Position) × AreCornersOf MOST_NESTED bytes offsets (Some (low, high)) × (after ≡ low ∷ high ∷ []))
    ⊎ ((found ≡ 0) × AreCornersOf MOST_NESTED bytes offsets None × (after ≡ before))

-- one of the four, and no other number
abbrev pub IsFaultStatus : ℤ → Type 0
IsFaultStatus status = (status ≡ ANSWERED) ⊎ (status ≡ REFUSED) ⊎ (status ≡ CHOICE) ⊎ (status ≡ FAULTY)

-- one of the four, and no other number
abbrev pub IsCornersStatus : ℤ → Type 0
IsCornersStatus status = (status ≡ ANSWERED) ⊎ (status ≡ REFUSED) ⊎ (status ≡ LENGTHS) ⊎ (status ≡ FAULTY)
