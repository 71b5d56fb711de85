use Rattle.std.proofs.Common.{◌≡◌, ◌+ℤ◌, ◌<ℤ◌, ℤ, FitsSigned, to_z, of_z, rules, arith, subst₂, ap₂, ◌∙◌}
use Rattle.std.specs.Int.{w128}
use Rattle.std.proofs.lemmas.Bool.{OnTrue_from}
use Rattle.std.proofs.lemmas.Int.{ints, to_z-of_z}
use Rattle.monotone_chains.proofs.stretches.lines.is_above.Goals as goal

pub returns : goal.returns
returns c = OnTrue_from _ _ (λ set.
    let top : to_z w128 (of_z w128 c.args.top) ≡ c.args.top = search rules in
    let margin : to_z w128 (of_z w128 c.margin_of.result) ≡ c.margin_of.result = search rules in
    let height : to_z w128 (of_z w128 c.height_over.result) ≡ c.height_over.result = search rules in
    let sum : ℤ = to_z w128 (of_z w128 c.args.top) +ℤ to_z w128 (of_z w128 c.margin_of.result) in
    let from = c.requires.from in
    let upto = c.requires.upto in
    let from_too = c.margin_of.ensures.within.from in
    let upto_too = c.margin_of.ensures.within.upto in
    let fits : FitsSigned w128 sum = omega (arith, ints, top, margin, from, upto, from_too, upto_too) in
    let less : to_z w128 (of_z w128 sum) <ℤ to_z w128 (of_z w128 c.height_over.result) = search rules in
    subst₂ (λ (a b : ℤ). a <ℤ b) (to_z-of_z w128 sum fits ∙ ap₂ (λ (a b : ℤ). a +ℤ b) top (margin ∙ c.margin_of.ensures.value)) (height ∙ c.height_over.ensures.value) less)
