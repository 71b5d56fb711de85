use Rattle.std.proofs.Common.{arith}
use Rattle.plane.proofs.PairsLemmas.Points.{AreStarts-push, AreStarts-next}
use Rattle.plane.proofs.pairs.points.begin_rows.Goals as goal

pub loop-row-preserved : goal.loop-row-preserved
loop-row-preserved g c =
    let counted = c.loop-row.invariant.counted in
    let test = c.loop-row-test.true in
    record {
      counted = omega (arith, counted, c.in_ok-push.ensures.len);
      begun = rw c.in_ok-push.ensures.items (AreStarts-push c.args.parts.now c.args.place c.loop-row.starts.items c.loop-row.invariant.begun c.requires.inside c.requires.in_order (omega (arith, counted, test)));
    }

pub returns : goal.returns
returns g c =
    let counted = c.loop-row.invariant.counted in
    let test = c.loop-row-test.false in
    AreStarts-next c.args.parts.now c.args.place c.loop-row.starts.items c.loop-row.invariant.begun c.requires.inside (omega (arith, counted, test))
