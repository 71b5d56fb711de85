use Rattle.std.proofs.Common.{◌+◌, ◌<ℤ◌, arith}
use Rattle.std.proofs.lemmas.Int.{ints}
use Rattle.overlay.specs.Contours.Outlines.{ring_point}
use Rattle.monotone_chains.proofs.StretchLemmas.CutWays.{rises-more}
use Rattle.monotone_chains.proofs.stretches.cutting.rise_end.Goals as goal

pub loop-end-preserved : goal.loop-end-preserved
loop-end-preserved c =
    let some = c.loop-end.invariant.some in
    let test = c.loop-end-test.true in
    let less = c.if-points-end.true in
    let step : (ring_point c.args.points.now c.loop-end.end).x <ℤ (ring_point c.args.points.now (c.loop-end.end + 1)).x = omega (arith, ints, less) in record {
      some = omega (arith, some);
      within = test;
      rises = rises-more c.args.points.now c.args.from c.loop-end.end (omega (arith, some)) test c.loop-end.invariant.rises step;
    }
