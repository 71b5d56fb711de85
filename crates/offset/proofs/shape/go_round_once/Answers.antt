use Rattle.std.proofs.Common.{arith, pos}
use Rattle.std.proofs.lemmas.Int.{ints}
use Rattle.offset.proofs.RoundLemmas.{once-more}
use Rattle.offset.proofs.shape.go_round_once.Goals as goal
use Rattle.offset.proofs.shape.go_round_once.Goals.{else-before-le0-via-then-before-le0+else-here-gt0, else-before-le0-via-else-before-le0}

pub loop-index-preserved : goal.loop-index-preserved
loop-index-preserved c =
    let before = c.sweep_between-before.ensures in
    let here = c.sweep_between-here.ensures in
    once-more c.args.corners.now c.loop-index.index (record { x = pos 0; y = pos 0 }) c.sweep_between-before.result c.sweep_between-here.result c.loop-index-test.true before here
    (λ gone. elim c.else-before-le0.branch [
      | else-before-le0-via-then-before-le0+else-here-gt0 w ↦ omega (arith, ints, w.if-here-gt0.false)
      | else-before-le0-via-else-before-le0 w ↦ absurd (omega (arith, ints, gone, w.if-before-le0.false))
    ])
    c.loop-index.invariant
