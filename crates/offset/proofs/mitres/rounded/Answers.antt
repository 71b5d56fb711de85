use Rattle.std.proofs.Common.{◌≡◌, arith, ap, ap₂, ◌∙◌, ◌+ℤ◌, to_z, of_z, ℤ, FitsSigned}
use Rattle.std.specs.Int.{w128, int_div_euclid}
use Rattle.std.proofs.lemmas.Int.{ints, to_z-of_z}
use Rattle.offset.specs.Joins.{nearest}
use Rattle.offset.proofs.mitres.rounded.Goals as goal

-- what is divided is that of the numbers
rounds : (n d sum twice result : ℤ) → result ≡ int_div_euclid sum twice → sum ≡ ((n +ℤ n) +ℤ d) → twice ≡ (d +ℤ d) → result ≡ nearest n d
rounds n d sum twice result is is_sum is_twice = is ∙ ap₂ int_div_euclid is_sum is_twice

pub returns : goal.returns
returns c =
    let n = to_z w128 (of_z w128 c.args.n) in
    let d = to_z w128 (of_z w128 c.args.d) in
    let double = to_z w128 (of_z w128 (n +ℤ n)) in
    let sum = to_z w128 (of_z w128 (double +ℤ d)) in
    let twice = to_z w128 (of_z w128 (d +ℤ d)) in
    let fits : FitsSigned w128 c.div_euclid.result = record { sfits = c.div_euclid.type_inv } in
    let is = to_z-of_z w128 c.div_euclid.result fits ∙ c.div_euclid.ensures in
    rounds c.args.n c.args.d sum twice (to_z w128 (of_z w128 c.div_euclid.result)) is (omega (arith, ints)) (omega (arith, ints))
