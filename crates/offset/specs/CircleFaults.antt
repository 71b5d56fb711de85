-- Why there is no such shape.
use Rattle.std.specs.Prelude.{ℕ, ◌<◌, ◌≤◌, ℤ, pos, ◌≤ℤ◌, ◌<ℤ◌, List, codes}
use Rattle.offset.specs.declared.shape_fault.ShapeFault.{ShapeFault}
use Rattle.offset.specs.declared.shape_fault.ShapeFault.TheVariants.{Radius, Corners, Tolerance, OutOfMemory}

-- why there is no circle of this radius with at most so many corners
abbrev pub IsCircleFault : ℤ → ℕ → ShapeFault → Type 0
IsCircleFault radius most Radius = radius <ℤ pos 1
IsCircleFault radius most Corners = (pos 1 ≤ℤ radius) × (most < 4)
IsCircleFault radius most Tolerance = ⊥
IsCircleFault radius most OutOfMemory = (pos 1 ≤ℤ radius) × (4 ≤ most)

-- why there is none within a tolerance
abbrev pub IsToleranceFault : ℤ → ℤ → ShapeFault → Type 0
IsToleranceFault radius tolerance Radius = radius <ℤ pos 1
IsToleranceFault radius tolerance Corners = ⊥
IsToleranceFault radius tolerance Tolerance = (pos 1 ≤ℤ radius) × (tolerance <ℤ pos 1)
IsToleranceFault radius tolerance OutOfMemory = (pos 1 ≤ℤ radius) × (pos 1 ≤ℤ tolerance)

-- what a fault prints
abbrev pub shape_fault_text : ShapeFault → List ℕ
shape_fault_text Radius = codes "the radius is too small"
shape_fault_text Corners = codes "the shape may have fewer corners than 4"
shape_fault_text Tolerance = codes "the tolerance is below 1"
shape_fault_text OutOfMemory = codes "memory was refused"
