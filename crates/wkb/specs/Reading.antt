-- Rings as points of a grid.
use Rattle.std.specs.Prelude.{◌≡◌, ℕ, zero, suc, ◌+◌, ◌-◌, ◌*◌, ◌^◌, ◌<◌, min, slice_index, slice_range, Bool, true, false, List, [], ◌∷◌, ◌++◌, ◌⊎◌, Ok, Err, length, slice_index_or, reverse, pos, ◌<ℤ◌}
use Rattle.plane.specs.declared.point.Point.{Point}
use Rattle.grid.specs.declared.position.Position.{Position}
use Rattle.grid.specs.declared.units.Grid.{Grid}
use Rattle.grid.specs.declared.units.CoordinateFault.{CoordinateFault}
use Rattle.grid.specs.declared.units.CoordinateFault.TheVariants as coordinate
use Rattle.grid.specs.Grid.{IsToldAt, IsFaultAt}
use Rattle.grid.specs.Area.{twice_area}
use Rattle.wkb.specs.declared.fault.FaultKind.{FaultKind}
use Rattle.wkb.specs.declared.fault.FaultKind.TheVariants.{NotFinite, OffGrid, Offsets}
use Rattle.wkb.specs.declared.fault.Fault.{Fault}
use Rattle.wkb.specs.declared.fault.ReadFault.{ReadFault}
use Rattle.wkb.specs.declared.fault.ReadFault.TheVariants as read_faults
use Rattle.wkb.specs.declared.fault.Flaw.{Flaw}
use Rattle.wkb.specs.declared.fault.LayoutFault.{LayoutFault}
use Rattle.wkb.specs.declared.fault.LayoutFault.TheVariants.{Refused, Flawed}
use Rattle.wkb.specs.declared.structure.RingAt.{RingAt}
use Rattle.wkb.specs.Coordinates.{positions_of}
use Rattle.wkb.specs.Format.{layout_of}

-- Each position is told by the point of the grid that is nearest.
pub record AreTold (grid : Grid) (positions : List Position) (points : List Point) : Type 0 where
  pub count : length points ≡ length positions
  pub each : (k : ℕ) → k < length positions → IsToldAt grid positions points k

-- An outer ring is turned where it doesn't run counterclockwise, and a hole where it does.
abbrev pub IsTurned : Bool → List Position → List Point → List Point → Type 0
IsTurned true positions told points = (pos 0 <ℤ twice_area positions → points ≡ reverse told) × (¬ (pos 0 <ℤ twice_area positions) → points ≡ told)
IsTurned false positions told points = (pos 0 <ℤ twice_area positions → points ≡ told) × (¬ (pos 0 <ℤ twice_area positions) → points ≡ reverse told)

-- The points of a ring that was read.
pub record IsRing (grid : Grid) (is_hole : Bool) (positions : List Position) (points : List Point) : Type 0 where
  pub told : List Point
  pub each : AreTold grid positions told
  pub turned : IsTurned is_hole positions told points

abbrev pub kind_of_fault : CoordinateFault → FaultKind
kind_of_fault coordinate.NotFinite = NotFinite
kind_of_fault coordinate.OffGrid = OffGrid

-- What is wrong with a ring: a position of it, and the flaw begins where it does.
pub record IsRingFlaw (grid : Grid) (ring : RingAt) (positions : List Position) (flaw : Flaw) : Type 0 where
  pub index : ℕ
  pub fault : CoordinateFault
  pub is : IsFaultAt grid positions index fault
  pub kind : flaw.kind ≡ kind_of_fault fault
  pub byte : flaw.byte ≡ ring.start + index * ring.stride

-- This holds of the flaw, where it is one and no refusal of memory.
abbrev pub IfFlawed : LayoutFault → (Flaw → Type 0) → Type 0
IfFlawed (Refused refusal) P = Unit {0}
IfFlawed (Flawed flaw) P = P flaw

-- Rings put their points behind those before, one after the other, and where each stops behind the ends.
abbrev pub AppendsRings : Grid → List ℕ → List RingAt → List Point → List Point → List ℕ → List ℕ → Type 0
AppendsRings grid bytes [] points new_points ends new_ends = (new_points ≡ points) × (new_ends ≡ ends)
AppendsRings grid bytes (ring ∷ rings) points new_points ends new_ends =
    (here : List Point) × IsRing grid ring.is_hole (positions_of bytes ring) here
    × AppendsRings grid bytes rings (points ++ here) new_points (ends ++ length (points ++ here) ∷ []) new_ends

-- What is wrong with one of the rings.
pub record IsRingsFlaw (grid : Grid) (bytes : List ℕ) (rings : List RingAt) (flaw : Flaw) : Type 0 where
  pub place : ℕ
  pub ring : RingAt
  pub below : place < length rings
  pub stands : ring ≡ slice_index_or rings place ring
  pub is : IsRingFlaw grid ring (positions_of bytes ring) flaw

-- A shape puts its rings behind those before.
pub record AppendsShape (grid : Grid) (most_nested : ℕ) (bytes : List ℕ) (points new_points : List Point) (ends new_ends : List ℕ) : Type 0 where
  pub rings : List RingAt
  pub laid : layout_of most_nested bytes ≡ Ok rings
  pub appended : AppendsRings grid bytes rings points new_points ends new_ends

-- What is wrong with a shape: its layout, or, where it has one, a ring.
abbrev pub IsShapeFlaw : Grid → ℕ → List ℕ → Flaw → Type 0
IsShapeFlaw grid most_nested bytes flaw =
    (layout_of most_nested bytes ≡ Err flaw) ⊎ ((rings : List RingAt) × (layout_of most_nested bytes ≡ Ok rings) × IsRingsFlaw grid bytes rings flaw)

-- ---- shapes

-- The bytes of a shape: from its offset to the next one.
abbrev pub shape_bytes : List ℕ → List ℕ → ℕ → List ℕ
shape_bytes bytes offsets shape = slice_range bytes (slice_index offsets shape) (slice_index offsets (shape + 1))

-- So many shapes from one on put their rings behind those before, one after the other, and where each stops among the rings behind the
-- shapes' ends.
abbrev pub AppendsShapes : Grid → ℕ → List ℕ → List ℕ → ℕ → ℕ → List Point → List Point → List ℕ → List ℕ → List ℕ → List ℕ → Type 0
AppendsShapes grid most_nested bytes offsets zero shape points new_points ends new_ends shape_ends new_shape_ends =
    (new_points ≡ points) × (new_ends ≡ ends) × (new_shape_ends ≡ shape_ends)
AppendsShapes grid most_nested bytes offsets (suc count) shape points new_points ends new_ends shape_ends new_shape_ends =
    (here : List Point) × (here_ends : List ℕ) × AppendsShape grid most_nested (shape_bytes bytes offsets shape) points here ends here_ends
    × AppendsShapes grid most_nested bytes offsets count (shape + 1) here new_points here_ends new_ends (shape_ends ++ length here_ends ∷ []) new_shape_ends

-- All shapes: one fewer than offsets.
abbrev pub AreShapes : Grid → ℕ → List ℕ → List ℕ → List Point → List ℕ → List ℕ → Type 0
AreShapes grid most_nested bytes offsets points ends shape_ends = AppendsShapes grid most_nested bytes offsets (length offsets - 1) 0 [] points [] ends [] shape_ends

-- A shape stops before it starts, or behind the bytes.
abbrev pub IsOffsetFault : List ℕ → List ℕ → ℕ → Type 0
IsOffsetFault bytes offsets shape = (slice_index offsets (shape + 1) < slice_index offsets shape) ⊎ (length bytes < slice_index offsets (shape + 1))

-- What is wrong with the bytes of many shapes.
pub record IsFlawOf (grid : Grid) (most_nested : ℕ) (bytes offsets : List ℕ) (fault : Fault) : Type 0 where
  pub flaw : Flaw
  pub is : IsShapeFlaw grid most_nested (shape_bytes bytes offsets fault.shape) flaw
  pub kind : fault.kind ≡ flaw.kind
  pub byte : fault.byte ≡ min (slice_index offsets fault.shape + flaw.byte) (2 ^ 64 - 1)

pub record IsOffsetsFault (bytes offsets : List ℕ) (fault : Fault) : Type 0 where
  pub is : IsOffsetFault bytes offsets fault.shape
  pub kind : fault.kind ≡ Offsets
  pub byte : fault.byte ≡ slice_index offsets fault.shape

-- One of the shapes is faulty: its offsets, or its bytes.
pub record IsFaulty (grid : Grid) (most_nested : ℕ) (bytes offsets : List ℕ) (fault : Fault) : Type 0 where
  pub within : fault.shape + 1 < length offsets
  pub is : IsOffsetsFault bytes offsets fault ⊎ IsFlawOf grid most_nested bytes offsets fault

-- This holds of the fault, where it is one and no refusal of memory.
abbrev pub IfFaulty : ReadFault → (Fault → Type 0) → Type 0
IfFaulty (read_faults.Refused refusal) P = Unit {0}
IfFaulty (read_faults.Faulty fault) P = P fault

-- The fault of one shape, as one of many.
abbrev pub fault_among : LayoutFault → ℕ → ℕ → ReadFault
fault_among (Refused refusal) shape start = read_faults.Refused refusal
fault_among (Flawed flaw) shape start = read_faults.Faulty (record { kind = flaw.kind; shape = shape; byte = min (start + flaw.byte) (2 ^ 64 - 1) })
