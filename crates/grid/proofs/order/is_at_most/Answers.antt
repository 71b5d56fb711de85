use Rattle.std.proofs.Common.{arith, rules}
use Rattle.grid.proofs.OrderLemmas.{either_above, either_below}
use Rattle.grid.proofs.order.is_at_most.Goals as goal

pub returns-then-is_negative-2 : goal.returns-then-is_negative-2
returns-then-is_negative-2 c = record { value = either_below c.args.one c.args.other (search rules) (search rules) (search rules) (search rules) }

pub returns : goal.returns
returns c = record { value = either_above c.args.one c.args.other (grind arith) (grind arith) }
