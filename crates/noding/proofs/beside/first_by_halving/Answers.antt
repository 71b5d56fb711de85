use Rattle.std.proofs.Common.{arith, subst}
use Rattle.noding.specs.Beside.{LiesFarBelow}
use Rattle.noding.proofs.ChainLemmas.Passed.{none-before}
use Rattle.noding.proofs.beside.first_by_halving.Goals as goal

pub loop-low-preserved-then-lies_far_below : goal.loop-low-preserved-then-lies_far_below
loop-low-preserved-then-lies_far_below c =
    let (rising, upto, none) = c.loop-low.invariant in
    let more = c.loop-low-test.true in
    let below = subst (LiesFarBelow c.args.line) c.point_of.ensures (c.lies_far_below.ensures c.if-lies_far_below.true) in (
      omega (arith, rising, more),
      upto,
      none-before c.args.line c.args.other c.args.others.now c.requires.along c.requires.rises _ _ (omega (arith, more, upto)) below,
    )

pub loop-low-preserved : goal.loop-low-preserved
loop-low-preserved c =
    let (rising, upto, none) = c.loop-low.invariant in
    let more = c.loop-low-test.true in
    (omega (arith, rising, more), omega (arith, more, upto), none)
