-- The corners of the box round shapes.
use Rattle.std.specs.Prelude.{◌≡◌, ◌⊎◌, ℕ, zero, suc, ◌+◌, ◌-◌, ◌*◌, ◌<◌, ◌^◌, min, List, [], ◌++◌, length, slice_index, slice_index_or, Option, Some, None, Ok, Err}
use Rattle.std.specs.List.{flat_map}
use Rattle.grid.specs.declared.position.Position.{Position}
use Rattle.grid.specs.Fit.{AreCorners, IsFirstInfinite}
use Rattle.wkb.specs.declared.fault.Fault.{Fault}
use Rattle.wkb.specs.declared.fault.FaultKind.TheVariants.{NotFinite}
use Rattle.wkb.specs.declared.fault.Flaw.{Flaw}
use Rattle.wkb.specs.declared.structure.RingAt.{RingAt}
use Rattle.wkb.specs.Coordinates.{positions_of}
use Rattle.wkb.specs.Format.{layout_of}
use Rattle.wkb.specs.Reading.{IsOffsetsFault, shape_bytes}

-- A shape puts the positions of its rings behind those before.
pub record LaysPositions (most_nested : ℕ) (bytes : List ℕ) (positions new_positions : List Position) : Type 0 where
  pub rings : List RingAt
  pub laid : layout_of most_nested bytes ≡ Ok rings
  pub is : new_positions ≡ positions ++ flat_map (positions_of bytes) rings

-- So many shapes from one on do, one after the other.
abbrev pub AppendsPositions : ℕ → List ℕ → List ℕ → ℕ → ℕ → List Position → List Position → Type 0
AppendsPositions most_nested bytes offsets zero shape positions new_positions = new_positions ≡ positions
AppendsPositions most_nested bytes offsets (suc count) shape positions new_positions =
    (here : List Position) × LaysPositions most_nested (shape_bytes bytes offsets shape) positions here
    × AppendsPositions most_nested bytes offsets count (shape + 1) here new_positions

-- The corners of positions, or none of none.
abbrev pub AreCornersAmong : List Position → Option (Position × Position) → Type 0
AreCornersAmong positions (Some both) = AreCorners positions both.0 both.1
AreCornersAmong positions None = length positions ≡ 0

-- The corners of all positions of all shapes: these are one fewer than offsets.
abbrev pub AreCornersOf : ℕ → List ℕ → List ℕ → Option (Position × Position) → Type 0
AreCornersOf most_nested bytes offsets found =
    (positions : List Position) × AppendsPositions most_nested bytes offsets (length offsets - 1) 0 [] positions × AreCornersAmong positions found

-- A position of a ring isn't finite, the first of it, and the flaw begins where it does.
pub record IsInfiniteOf (bytes : List ℕ) (ring : RingAt) (flaw : Flaw) : Type 0 where
  pub index : ℕ
  pub is : IsFirstInfinite (positions_of bytes ring) index
  pub kind : flaw.kind ≡ NotFinite
  pub byte : flaw.byte ≡ ring.start + index * ring.stride

-- That of one of the rings.
pub record IsInfiniteAmong (bytes : List ℕ) (rings : List RingAt) (flaw : Flaw) : Type 0 where
  pub place : ℕ
  pub ring : RingAt
  pub below : place < length rings
  pub stands : ring ≡ slice_index_or rings place ring
  pub is : IsInfiniteOf bytes ring flaw

-- What is wrong with a shape: its layout, or, where it has one, a position.
abbrev pub IsInfiniteFlaw : ℕ → List ℕ → Flaw → Type 0
IsInfiniteFlaw most_nested bytes flaw =
    (layout_of most_nested bytes ≡ Err flaw) ⊎ ((rings : List RingAt) × (layout_of most_nested bytes ≡ Ok rings) × IsInfiniteAmong bytes rings flaw)

-- That of one of many shapes.
pub record IsInfiniteFault (most_nested : ℕ) (bytes offsets : List ℕ) (fault : Fault) : Type 0 where
  pub flaw : Flaw
  pub is : IsInfiniteFlaw most_nested (shape_bytes bytes offsets fault.shape) flaw
  pub kind : fault.kind ≡ flaw.kind
  pub byte : fault.byte ≡ min (slice_index offsets fault.shape + flaw.byte) (2 ^ 64 - 1)

-- One of the shapes is faulty: its offsets, its bytes, or a position.
pub record IsCornersFault (most_nested : ℕ) (bytes offsets : List ℕ) (fault : Fault) : Type 0 where
  pub within : fault.shape + 1 < length offsets
  pub is : IsOffsetsFault bytes offsets fault ⊎ IsInfiniteFault most_nested bytes offsets fault
