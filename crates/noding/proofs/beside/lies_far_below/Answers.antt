use Rattle.std.proofs.Common.{◌≡◌, true, pos, ◌+ℤ◌, ◌<ℤ◌, ℤ, FitsSigned, to_z, of_z, rules, arith}
use Rattle.std.specs.Int.{w128}
use Rattle.std.specs.Int.Signed.{lt_z}
use Rattle.std.proofs.lemmas.Int.{ints, to_z-of_z}
use Rattle.noding.proofs.beside.lies_far_below.Goals as goal

below : (a b : ℤ) → lt_z a b ≡ true → a <ℤ b
below a b set = search (rules, set)

first-fits : (c : goal.After-margin_of-margin) → FitsSigned w128 (to_z w128 (of_z w128 c.height_over-height.result) +ℤ to_z w128 (of_z w128 c.margin_of-margin.result))
first-fits c =
    let height : to_z w128 (of_z w128 c.height_over-height.result) ≡ c.height_over-height.result = search rules in
    let margin : to_z w128 (of_z w128 c.margin_of-margin.result) ≡ c.margin_of-margin.result = search rules in
    let from = c.height_over-height.ensures.within.from in
    let upto = c.height_over-height.ensures.within.upto in
    let from_too = c.margin_of-margin.ensures.within.from in
    let upto_too = c.margin_of-margin.ensures.within.upto in
    omega (arith, ints, height, margin, from, upto, from_too, upto_too)

pub overflow_add-result-2 : goal.overflow_add-result-2
overflow_add-result-2 c =
    let height : to_z w128 (of_z w128 c.height_over-height.result) ≡ c.height_over-height.result = search rules in
    let margin : to_z w128 (of_z w128 c.margin_of-margin.result) ≡ c.margin_of-margin.result = search rules in
    let from = c.height_over-height.ensures.within.from in
    let upto = c.height_over-height.ensures.within.upto in
    let from_too = c.margin_of-margin.ensures.within.from in
    let upto_too = c.margin_of-margin.ensures.within.upto in
    let first = to_z-of_z w128 (to_z w128 (of_z w128 c.height_over-height.result) +ℤ to_z w128 (of_z w128 c.margin_of-margin.result)) (first-fits c) in
    omega (arith, ints, height, margin, from, upto, from_too, upto_too, first)

pub returns : goal.returns
returns c = λ set.
    let height : to_z w128 (of_z w128 c.height_over-height.result) ≡ c.height_over-height.result = search rules in
    let margin : to_z w128 (of_z w128 c.margin_of-margin.result) ≡ c.margin_of-margin.result = search rules in
    let is = c.height_over-height.ensures.value in
    let size = c.margin_of-margin.ensures.value in
    let first = to_z-of_z w128 (to_z w128 (of_z w128 c.height_over-height.result) +ℤ to_z w128 (of_z w128 c.margin_of-margin.result)) (first-fits c) in
    let sum = to_z w128 (of_z w128 (to_z w128 (of_z w128 c.height_over-height.result) +ℤ to_z w128 (of_z w128 c.margin_of-margin.result))) +ℤ to_z w128 (of_z w128 c.margin_of-margin.result) in
    let last = to_z-of_z w128 sum (overflow_add-result-2 c) in
    let less = below (to_z w128 (of_z w128 sum)) (pos 0) set in
    omega (arith, ints, height, margin, is, size, first, last, less)
