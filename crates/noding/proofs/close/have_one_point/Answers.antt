use Rattle.std.proofs.Common.{◌≡◌, arith, rules, to_z, of_z, w32}
use Rattle.std.specs.Int.{int_min, int_max}
use Rattle.std.specs.Int.Signed.{le_z}
use Rattle.std.proofs.lemmas.Int.{ints}
use Rattle.noding.specs.Close.{HaveOnePoint}
use Rattle.noding.proofs.ChainLemmas.Beside.{HaveOnePoint-sides, OnTrue-both}
use Rattle.noding.proofs.close.have_one_point.Goals as goal

pub returns : goal.returns
returns c =
    let first = c.args.first in
    let second = c.args.second in
    let left : to_z w32 (of_z w32 c.max.result) ≡ int_max first.left second.left = search rules in
    let right : to_z w32 (of_z w32 c.min.result) ≡ int_min first.right second.right = search rules in
    let low : to_z w32 (of_z w32 c.max-2.result) ≡ int_max first.low second.low = search rules in
    let high : to_z w32 (of_z w32 c.min-2.result) ≡ int_min first.high second.high = search rules in
    OnTrue-both (le_z (to_z w32 (of_z w32 c.min.result)) (to_z w32 (of_z w32 c.max.result))) (le_z (to_z w32 (of_z w32 c.min-2.result)) (to_z w32 (of_z w32 c.max-2.result))) {P = HaveOnePoint first second}
    (λ across up. HaveOnePoint-sides first second (omega (arith, ints, across, left, right)) (omega (arith, ints, up, low, high)))
