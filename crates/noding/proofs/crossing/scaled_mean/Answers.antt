use Rattle.std.proofs.Common.{◌≡◌, ◌^◌, ◌+ℤ◌, ◌-ℤ◌, ◌*ℤ◌, arith, rules, FitsSigned}
use Rattle.std.specs.Int.{w128}
use Rattle.std.proofs.lemmas.Int.{ints}
use Rattle.plane.specs.Meet.Crosses.{IsWithin}
use Rattle.noding.proofs.SnapLemmas.Numbers.{IsWithin-sum, both, fits-within}
use Rattle.noding.proofs.crossing.scaled_mean.Goals as goal

pub product-requires-2-clause-other : goal.product-requires-2-clause-other
product-requires-2-clause-other c =
    let within : IsWithin (2 ^ 32) (c.args.to -ℤ c.args.from) = record { from = omega (arith, ints, c.ranges.from, c.ranges.to); upto = omega (arith, ints, c.ranges.from, c.ranges.to) } in
    search rules

pub overflow_add-result : goal.overflow_add-result
overflow_add-result c =
    let wide : FitsSigned w128 (c.product.result +ℤ c.product-2.result) = fits-within (c.product.result +ℤ c.product-2.result) (IsWithin-sum c.product.result c.product-2.result c.product.ensures.within c.product-2.ensures.within) in
    search rules

pub returns : goal.returns
returns c =
    let within = IsWithin-sum c.product.result c.product-2.result c.product.ensures.within c.product-2.ensures.within in
    let wide = fits-within (c.product.result +ℤ c.product-2.result) within in
    let is : (c.product.result +ℤ c.product-2.result) ≡ ((c.args.all *ℤ c.args.from) +ℤ (c.args.first *ℤ (c.args.to -ℤ c.args.from))) =
    both c.product.result (c.args.all *ℤ c.args.from) c.product-2.result (c.args.first *ℤ (c.args.to -ℤ c.args.from)) (search rules) (search rules) in record {
      value = search rules;
      within = search rules;
    }
