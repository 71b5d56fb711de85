use Rattle.std.proofs.Common.{arith, below_more, ◌<◌}
use Rattle.grid.proofs.FitLemmas.{first_is_finest}
use Rattle.grid.proofs.fit.finest.Goals as goal

pub returns-in-Some-clause-finest : goal.returns-in-Some-clause-finest
returns-in-Some-clause-finest c =
    let from = c.least_scale-scale.ensures in
    first_is_finest c.args.low c.args.high c.loop-scale.scale c.in-Some.grid c.in-Some.ensures.some
    (omega (arith, from.normal)) (omega (arith, from.low_x)) (omega (arith, from.low_y)) (omega (arith, from.high_x)) (omega (arith, from.high_y)) c.loop-scale.invariant

pub loop-scale-preserved : goal.loop-scale-preserved
loop-scale-preserved c = below_more _ _ c.loop-scale.invariant c.in_default.ensures.none

pub returns-clause-none : goal.returns-clause-none
returns-clause-none c = λ scale upto is.
    let under : scale < c.loop-scale.scale = omega arith in
    c.loop-scale.invariant scale under is
