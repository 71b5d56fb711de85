use Rattle.layers.proofs.LineLemmas.Marks.{marked-more}
use Rattle.layers.proofs.lines.keeping.marks_of.Goals as goal

pub loop-place-preserved : goal.loop-place-preserved
loop-place-preserved g c =
    let place = c.loop-place.place-index in
    marked-more c.args.pairs.now place (0, 0) c.args.mark c.args.count c.loop-place.flags.items c.loop-place-test.true (c.requires place (0, 0) c.loop-place-test.true) c.loop-place.invariant
