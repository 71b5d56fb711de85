use Rattle.std.proofs.Common.{◌+◌, take, sym, subst}
use Rattle.overlay.specs.Fill.Counts.{Counts}
use Rattle.overlay.specs.Fill.Sweep.{Fits, no_piece}
use Rattle.overlay.proofs.KeptLemmas.Begun.{piece_at}
use Rattle.overlay.proofs.KeptLemmas.Few.{counted-more, counts-fit, counts-within}
use Rattle.overlay.proofs.fill.few.counts_upto.Goals as goal

pub plus_if_upto-counts-requires-clause-fits : goal.plus_if_upto-counts-requires-clause-fits
plus_if_upto-counts-requires-clause-fits c =
    let begun = c.args.begun.now in
    let k = c.loop-piece.piece-index in
    let (most, countable, weigh) = c.requires.weigh in
    λ is. subst (λ (counts : Counts). Fits counts (piece_at begun k)) (sym c.loop-piece.invariant)
    (counts-fit c.args.point begun k no_piece c.loop-piece-test.true most countable (weigh (k + 1)) is)

pub plus_if_upto-counts-requires-clause-within : goal.plus_if_upto-counts-requires-clause-within
plus_if_upto-counts-requires-clause-within c =
    let (most, countable, weigh) = c.requires.weigh in
    let k = c.loop-piece.piece-index in
    subst (λ (counts : Counts). Fits counts no_piece) (sym c.loop-piece.invariant) (counts-within c.args.point (take k c.args.begun.now) most countable (weigh k))

pub loop-piece-preserved : goal.loop-piece-preserved
loop-piece-preserved c =
    counted-more c.args.point c.args.begun.now c.loop-piece.piece-index c.loop-piece-test.true c.loop-piece.counts c.plus_if_upto-counts.result c.loop-piece.invariant c.plus_if_upto-counts.ensures.upto c.plus_if_upto-counts.ensures.above
