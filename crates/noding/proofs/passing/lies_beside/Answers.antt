use Rattle.std.proofs.Common.{◌≡◌, pos, ◌+ℤ◌, ◌≤ℤ◌, FitsSigned, to_z, of_z, rules, w32, arith}
use Rattle.std.specs.Int.{w128}
use Rattle.std.proofs.lemmas.Int.{ints, to_z-of_z}
use Rattle.plane.specs.Lines.{height_over}
use Rattle.noding.proofs.SnapLemmas.Beside.{passed-from, passed-upto}
use Rattle.noding.proofs.passing.lies_beside.Goals as goal

pub overflow_add-result-3 : goal.overflow_add-result-3
overflow_add-result-3 c =
    let over : to_z w128 (of_z w128 c.height_over-over.result) ≡ c.height_over-over.result = search rules in
    let from = c.height_over-over.ensures.within.from in
    let upto = c.height_over-over.ensures.within.upto in
    omega (arith, ints, over, from, upto)

pub overflow_add-result-2 : goal.overflow_add-result-2
overflow_add-result-2 c =
    let over : to_z w128 (of_z w128 c.height_over-over.result) ≡ c.height_over-over.result = search rules in
    let from = c.height_over-over.ensures.within.from in
    let upto = c.height_over-over.ensures.within.upto in
    let margin : to_z w128 (of_z w128 c.margin_of-margin.result) ≡ c.margin_of-margin.result = search rules in
    let from_too = c.margin_of-margin.ensures.within.from in
    let upto_too = c.margin_of-margin.ensures.within.upto in
    let both = to_z-of_z w128 (to_z w128 (of_z w128 c.height_over-over.result) +ℤ to_z w128 (of_z w128 c.height_over-over.result)) (overflow_add-result-3 c) in
    omega (arith, ints, over, from, upto, margin, from_too, upto_too, both)

pub returns : goal.returns
returns c = λ passes.
    let x : FitsSigned w32 c.args.x = search rules in
    let y : FitsSigned w32 c.args.y = search rules in
    let over : to_z w128 (of_z w128 c.height_over-over.result) ≡ c.height_over-over.result = search rules in
    let margin : to_z w128 (of_z w128 c.margin_of-margin.result) ≡ c.margin_of-margin.result = search rules in
    let is : c.height_over-over.result ≡ height_over c.args.edge (record { x = c.args.x; y = c.args.y }) = simp to_z-of_z at c.height_over-over.ensures.value in
    let size = c.margin_of-margin.ensures.value in
    let both = to_z-of_z w128 (to_z w128 (of_z w128 c.height_over-over.result) +ℤ to_z w128 (of_z w128 c.height_over-over.result)) (overflow_add-result-3 c) in
    let sum = to_z-of_z w128 (to_z w128 (of_z w128 (to_z w128 (of_z w128 c.height_over-over.result) +ℤ to_z w128 (of_z w128 c.height_over-over.result))) +ℤ to_z w128 (of_z w128 c.margin_of-margin.result)) (overflow_add-result-2 c) in
    let most = passed-upto c.args.edge c.args.x c.args.y passes in
    let least = passed-from c.args.edge c.args.x c.args.y passes in
    let low : pos 0 ≤ℤ to_z w128 (of_z w128 (to_z w128 (of_z w128 (to_z w128 (of_z w128 c.height_over-over.result) +ℤ to_z w128 (of_z w128 c.height_over-over.result))) +ℤ to_z w128 (of_z w128 c.margin_of-margin.result))) =
    omega (arith, ints, over, margin, is, size, both, sum, least) in
    let high : to_z w128 (of_z w128 (to_z w128 (of_z w128 c.height_over-over.result) +ℤ to_z w128 (of_z w128 c.height_over-over.result))) ≤ℤ to_z w128 (of_z w128 c.margin_of-margin.result) =
    omega (arith, ints, over, margin, is, size, both, most) in
    search (rules, low, high)
