use Rattle.std.proofs.Common.{◌<◌, ◌-◌, ℕ, length, get_or, arith}
use Rattle.std.proofs.lemmas.List.{get_or_default}
use Rattle.std.proofs.lemmas.List.Edits.{map_over_more}
use Rattle.plane.proofs.pairs.between.subtract_from_all.Goals as goal

pub loop-pair-preserved : goal.loop-pair-preserved
loop-pair-preserved c =
    let pair = get_or c.loop-pair.pairs c.loop-pair.pair-index (0, 0) in
    let same = c.loop-pair.auto.pairs in
    let test = c.loop-pair-test.true in
    let inside : c.loop-pair.pair-index < length c.loop-pair.pairs = omega (arith, same, test) in
    map_over_more (λ (pair : ℕ × ℕ). (pair.0, pair.1 - c.args.count)) c.args.pairs.now c.loop-pair.pairs c.loop-pair.pair-index pair test c.loop-pair.invariant
    (get_or_default c.loop-pair.pairs c.loop-pair.pair-index (0, 0) pair inside)
