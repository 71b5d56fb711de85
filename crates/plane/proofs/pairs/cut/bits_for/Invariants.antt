use Rattle.std.proofs.Common.{◌-◌, ◌≤◌, ◌<◌}
use Rattle.plane.specs.Pairs.Strips.{IsWideEnough}
use Rattle.plane.proofs.pairs.cut.bits_for.Given as goal

-- the bits are enough for a layout, few enough for a `u32`, and enough for few strips
abbrev pub invariant-loop-bits : goal.invariant-loop-bits
invariant-loop-bits l = record { wide : 5 ≤ l.bits; fits : l.bits < 32; few : IsWideEnough l.heights.count l.heights.span l.heights.sum l.bits }

abbrev pub decreases-loop-bits : goal.decreases-loop-bits
decreases-loop-bits l = l.bits - 5
