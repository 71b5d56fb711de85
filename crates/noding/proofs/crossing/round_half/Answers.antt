use Rattle.std.proofs.Common.{arith, ◌∙◌, ◌+ℤ◌, to_z, of_z, FitsSigned}
use Rattle.std.specs.Int.{w128}
use Rattle.std.proofs.lemmas.Int.{ints, to_z-of_z}
use Rattle.noding.proofs.SnapLemmas.Rounding.{rounds_from}
use Rattle.noding.proofs.crossing.round_half.Goals as goal

pub returns : goal.returns
returns c =
    let n = to_z w128 (of_z w128 c.args.n) in
    let d = to_z w128 (of_z w128 c.args.d) in
    let double = to_z w128 (of_z w128 (n +ℤ n)) in
    let sum = to_z w128 (of_z w128 (double +ℤ d)) in
    let twice = to_z w128 (of_z w128 (d +ℤ d)) in
    let fits : FitsSigned w128 c.div_euclid.result = record { sfits = c.div_euclid.type_inv } in
    let is = to_z-of_z w128 c.div_euclid.result fits ∙ c.div_euclid.ensures in
    rounds_from c.args.n c.args.d sum twice (to_z w128 (of_z w128 c.div_euclid.result)) c.requires.positive is (omega (arith, ints)) (omega (arith, ints))
