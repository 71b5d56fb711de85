use Rattle.std.proofs.Common.{arith}
use Rattle.grid.proofs.direction.places.is_greater.Goals as goal

pub overflow_add-one_sum : goal.overflow_add-one_sum
overflow_add-one_sum c = omega (arith, c.loop-i.invariant.one, c.requires.one c.loop-i.i)

pub overflow_add-other_sum : goal.overflow_add-other_sum
overflow_add-other_sum c = omega (arith, c.loop-i.invariant.other, c.requires.other c.loop-i.i)
