use Rattle.std.proofs.Common.{◌≡◌, true, ◌+ℤ◌, ◌<ℤ◌, ℤ, FitsSigned, to_z, of_z, rules, arith}
use Rattle.std.specs.Int.{w128}
use Rattle.std.specs.Int.Signed.{lt_z}
use Rattle.std.proofs.lemmas.Int.{ints, to_z-of_z}
use Rattle.noding.proofs.beside.lies_far_above.Goals as goal

below : (a b : ℤ) → lt_z a b ≡ true → a <ℤ b
below a b set = search (rules, set)

pub returns : goal.returns
returns c = λ set.
    let height : to_z w128 (of_z w128 c.height_over-height.result) ≡ c.height_over-height.result = search rules in
    let margin : to_z w128 (of_z w128 c.margin_of-margin.result) ≡ c.margin_of-margin.result = search rules in
    let is = c.height_over-height.ensures.value in
    let size = c.margin_of-margin.ensures.value in
    let from = c.margin_of-margin.ensures.within.from in
    let upto = c.margin_of-margin.ensures.within.upto in
    let sum = to_z w128 (of_z w128 c.margin_of-margin.result) +ℤ to_z w128 (of_z w128 c.margin_of-margin.result) in
    let fits : FitsSigned w128 sum = omega (arith, ints, margin, from, upto) in
    let both = to_z-of_z w128 sum fits in
    let less = below (to_z w128 (of_z w128 sum)) (to_z w128 (of_z w128 c.height_over-height.result)) set in
    omega (arith, ints, height, margin, is, size, both, less)
