use Rattle.std.proofs.Common.{arith}
use Rattle.wkb.proofs.RingLemmas.{few_positions}
use Rattle.wkb.proofs.ring_points.take_positions.Goals as goal

pub returns-clause-most : goal.returns-clause-most
returns-clause-most g c = rw (c.in_ok-append_positions.ensures, c.clear.ensures.items) (few_positions c.args.bytes.now c.args.ring.now)

pub returns-clause-few : goal.returns-clause-few
returns-clause-few g c = rw (c.in_ok-append_positions.ensures, c.clear.ensures.items) (omega (arith, few_positions c.args.bytes.now c.args.ring.now))
