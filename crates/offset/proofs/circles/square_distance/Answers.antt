use Rattle.std.proofs.Common.{◌≡◌, pos, arith}
use Rattle.std.proofs.lemmas.Int.{ints}
use Rattle.overlay.specs.Areas.{swept}
use Rattle.offset.proofs.CircleLemmas.{distance-of, length-some}
use Rattle.offset.proofs.circles.square_distance.Goals as goal

pub nonzero_div-result : goal.nonzero_div-result
nonzero_div-result c =
    let some = length-some c.args.side c.requires in
    let is = c.square_length.ensures in
    omega (arith, ints, some, is)

pub returns : goal.returns
returns c =
    let some = length-some c.args.side c.requires in
    let is = c.square_length.ensures in
    let sweeps : pos c.unsigned_abs-sweeps.result ≡ swept c.args.side = (let value = c.swept.ensures.value in let left = c.requires in let told = c.unsigned_abs-sweeps.ensures.value in omega (arith, ints, value, left, told)) in
    distance-of c.args.side c.unsigned_abs-sweeps.result c.square_length.result sweeps is (omega (arith, ints, some, is))
