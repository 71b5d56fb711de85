-- Why there is no Minkowski sum.
use Rattle.std.specs.Prelude.{ℕ, ⊤, List, All, codes}
use Rattle.plane.specs.declared.edge.Edge.{Edge}
use Rattle.plane.specs.declared.point.Point.{Point}
use Rattle.offset.specs.Raw.{IsIn32Bits, IsPointIn32Bits}
use Rattle.offset.specs.declared.fault.MinkowskiFault.{MinkowskiFault}
use Rattle.offset.specs.declared.fault.MinkowskiFault.TheVariants.{Lengths, Shape, Range, OutOfMemory}

-- Why these edges weren't made: not all of their ends are points of 32 bits, or memory was refused.
abbrev pub IsRawFault : List Edge → MinkowskiFault → Type 0
IsRawFault raw Lengths = ⊥
IsRawFault raw Shape = ⊥
IsRawFault raw Range = ¬ (All IsIn32Bits raw)
IsRawFault raw OutOfMemory = ⊤

-- Why these points weren't made: not all of them are points of 32 bits, or memory was refused.
abbrev pub IsPointFault : List Point → MinkowskiFault → Type 0
IsPointFault points Lengths = ⊥
IsPointFault points Shape = ⊥
IsPointFault points Range = ¬ (All IsPointIn32Bits points)
IsPointFault points OutOfMemory = ⊤

-- what a fault prints
abbrev pub fault_text : MinkowskiFault → List ℕ
fault_text Lengths = codes "a ring stops before it begins, or behind the points"
fault_text Shape = codes "the shape isn't convex around the origin"
fault_text Range = codes "a corner of the curve around the sum is no point of 32 bits"
fault_text OutOfMemory = codes "memory was refused"
