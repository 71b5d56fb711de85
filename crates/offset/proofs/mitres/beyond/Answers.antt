use Rattle.std.proofs.Common.{◌≡◌, ◌^◌, ℤ, pos, ◌-ℤ◌, ◌*ℤ◌, ap, arith, rules, subst, sym, FitsSigned}
use Rattle.std.specs.Int.{w128}
use Rattle.std.proofs.lemmas.Int.{ints, to_z-of_z}
use Rattle.plane.specs.Meet.Crosses.{IsWithin}
use Rattle.plane.proofs.MeetLemmas.Identities.{IsWithin-product}
use Rattle.offset.proofs.mitres.beyond.Goals as goal

-- a number of 32 bits and a hundred times one of 64 are within 72
within-all : (one other : ℤ) → IsWithin (2 ^ 63) one → IsWithin (2 ^ 64) other → IsWithin (2 ^ 72) ((pos 100 *ℤ one) -ℤ other)
within-all one other first second =
    let a = first.from in
    let b = first.upto in
    let c = second.from in
    let d = second.upto in
    record { from = omega (arith, ints, a, b, c, d); upto = omega (arith, ints, a, b, c, d) }

limited : (c : goal.After-product) → IsWithin (2 ^ 64) (pos c.args.limit *ℤ c.args.other)
limited c =
    let fits = c.ranges.limit in
    let other = c.ranges.other in
    IsWithin-product (pos c.args.limit) c.args.other (2 ^ 32) (2 ^ 32) (record { from = omega (arith, ints, fits); upto = omega (arith, ints, fits) }) (record { from = omega (arith, ints, other); upto = omega (arith, ints, other) })

pub returns-clause-value : goal.returns-clause-value
returns-clause-value c =
    let is : c.product.result ≡ (pos c.args.limit *ℤ c.args.other) = search rules in
    let one : IsWithin (2 ^ 63) c.args.one = c.requires in
    let from = one.from in
    let upto = one.upto in
    let within = c.product.ensures.within in
    let product_from = within.from in
    let product_upto = within.upto in
    let first : FitsSigned w128 c.args.one = c.ranges.one in
    let product : FitsSigned w128 c.product.result = record { sfits = c.product.type_inv } in
    let hundred : FitsSigned w128 (pos 100 *ℤ c.args.one) = omega (arith, ints, from, upto) in
    let wide : FitsSigned w128 ((pos 100 *ℤ c.args.one) -ℤ c.product.result) = omega (arith, ints, from, upto, product_from, product_upto) in
    let told : ((pos 100 *ℤ c.args.one) -ℤ c.product.result) ≡ ((pos 100 *ℤ c.args.one) -ℤ (pos c.args.limit *ℤ c.args.other)) = ap (λ z. (pos 100 *ℤ c.args.one) -ℤ z) is in
    simp to_z-of_z told

pub returns-clause-within : goal.returns-clause-within
returns-clause-within c =
    let is : c.product.result ≡ (pos c.args.limit *ℤ c.args.other) = search rules in
    let one : IsWithin (2 ^ 63) c.args.one = c.requires in
    let from = one.from in
    let upto = one.upto in
    let limit = limited c in
    let product_within : IsWithin (2 ^ 64) c.product.result = subst (IsWithin (2 ^ 64)) (sym is) limit in
    let product_from = product_within.from in
    let product_upto = product_within.upto in
    let first : FitsSigned w128 c.args.one = c.ranges.one in
    let product : FitsSigned w128 c.product.result = record { sfits = c.product.type_inv } in
    let hundred : FitsSigned w128 (pos 100 *ℤ c.args.one) = omega (arith, ints, from, upto) in
    let wide : FitsSigned w128 ((pos 100 *ℤ c.args.one) -ℤ c.product.result) = omega (arith, ints, from, upto, product_from, product_upto) in
    let told = within-all c.args.one c.product.result one product_within in
    simp to_z-of_z told
