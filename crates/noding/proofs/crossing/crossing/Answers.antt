use Rattle.std.proofs.Common.{◌≡◌, pos, ◌-ℤ◌, ◌≤ℤ◌, ◌<ℤ◌, ap, arith, inl, inr, rules, FitsSigned}
use Rattle.std.specs.Int.{w128}
use Rattle.std.proofs.lemmas.Int.{ints}
use Rattle.plane.proofs.MeetLemmas.Shares.{whole, part_of_one, part_of_other}
use Rattle.noding.specs.Crossing.{IsCommonPart}
use Rattle.noding.proofs.SnapLemmas.Common.{IsCommonPart-signed}
use Rattle.noding.proofs.SnapLemmas.Crossing.{crossing_tested}
use Rattle.noding.proofs.crossing.crossing.Goals as goal

pub round_part-requires-clause-common : goal.round_part-requires-clause-common
round_part-requires-clause-common c =
    let all_is : c.cross_product-whole.result ≡ whole c.args.one c.args.other = cc in
    let first_is : c.cross_product-first.result ≡ part_of_one c.args.one c.args.other = cc in
    let second_is : c.cross_product-second.result ≡ part_of_other c.args.one c.args.other = cc in
    let all = c.cross_product-whole.ensures.within in
    let first = c.cross_product-first.ensures.within in
    let wide : FitsSigned w128 (pos 0 -ℤ c.cross_product-whole.result) = omega (arith, ints, all.from, all.upto) in
    let first_wide : FitsSigned w128 (pos 0 -ℤ c.cross_product-first.result) = omega (arith, ints, first.from, first.upto) in
    let common : IsCommonPart c.args.one c.args.other (pos 0 -ℤ c.cross_product-whole.result) (pos 0 -ℤ c.cross_product-first.result) =
    IsCommonPart-signed c.args.one c.args.other (pos 0 -ℤ c.cross_product-whole.result) (pos 0 -ℤ c.cross_product-first.result) (pos 0 -ℤ c.cross_product-second.result) (inr (
      ap (λ z. pos 0 -ℤ z) all_is,
      ap (λ z. pos 0 -ℤ z) first_is,
      ap (λ z. pos 0 -ℤ z) second_is,
    )) in
    search rules

pub round_part-requires-2-clause-common : goal.round_part-requires-2-clause-common
round_part-requires-2-clause-common c =
    let all_is : c.cross_product-whole.result ≡ whole c.args.one c.args.other = cc in
    let first_is : c.cross_product-first.result ≡ part_of_one c.args.one c.args.other = cc in
    let second_is : c.cross_product-second.result ≡ part_of_other c.args.one c.args.other = cc in
    let common : IsCommonPart c.args.one c.args.other c.cross_product-whole.result c.cross_product-first.result =
    IsCommonPart-signed c.args.one c.args.other c.cross_product-whole.result c.cross_product-first.result c.cross_product-second.result (inl (all_is, first_is, second_is)) in
    search rules

pub returns-then-whole-lt0 : goal.returns-then-whole-lt0
returns-then-whole-lt0 c =
    let all_is : c.cross_product-whole.result ≡ whole c.args.one c.args.other = cc in
    let first_is : c.cross_product-first.result ≡ part_of_one c.args.one c.args.other = cc in
    let second_is : c.cross_product-second.result ≡ part_of_other c.args.one c.args.other = cc in
    let all = c.cross_product-whole.ensures.within in
    let first = c.cross_product-first.ensures.within in
    let second = c.cross_product-second.ensures.within in
    let none : c.cross_product-whole.result <ℤ pos 0 = search rules in
    let wide : FitsSigned w128 (pos 0 -ℤ c.cross_product-whole.result) = omega (arith, ints, all.from, all.upto) in
    let first_wide : FitsSigned w128 (pos 0 -ℤ c.cross_product-first.result) = omega (arith, ints, first.from, first.upto) in
    let second_wide : FitsSigned w128 (pos 0 -ℤ c.cross_product-second.result) = omega (arith, ints, second.from, second.upto) in
    crossing_tested c.args.one c.args.other (pos 0 -ℤ c.cross_product-whole.result) (pos 0 -ℤ c.cross_product-first.result) (pos 0 -ℤ c.cross_product-second.result) c.round_part.result (omega (arith, ints, none)) (inr (
      ap (λ z. pos 0 -ℤ z) all_is,
      ap (λ z. pos 0 -ℤ z) first_is,
      ap (λ z. pos 0 -ℤ z) second_is,
    )) (search rules)

pub returns : goal.returns
returns c =
    let all_is : c.cross_product-whole.result ≡ whole c.args.one c.args.other = cc in
    let first_is : c.cross_product-first.result ≡ part_of_one c.args.one c.args.other = cc in
    let second_is : c.cross_product-second.result ≡ part_of_other c.args.one c.args.other = cc in
    let above : pos 0 ≤ℤ c.cross_product-whole.result = search rules in
    crossing_tested c.args.one c.args.other c.cross_product-whole.result c.cross_product-first.result c.cross_product-second.result c.round_part-2.result above (inl (all_is, first_is, second_is)) (search rules)
