use Rattle.std.proofs.Common.{◌≡◌, pos, ap, rules, of_z}
use Rattle.std.specs.Int.{w128}
use Rattle.plane.proofs.MeetLemmas.Shares.{whole, part_of_one, part_of_other}
use Rattle.plane.proofs.MeetLemmas.Tests.{apart_one, apart_other, meet-of_crosses, along_tested}
use Rattle.plane.proofs.meet.exact.meet.Goals as goal

pub returns-then-not-is_part : goal.returns-then-not-is_part
returns-then-not-is_part c =
    let part_is : c.cross_product.result ≡ part_of_one c.args.one c.args.other = cc in
    let all_is : c.cross_product-whole.result ≡ whole c.args.one c.args.other = cc in
    apart_one c.args.one c.args.other c.cross_product.result c.cross_product-whole.result part_is all_is (search rules)

pub returns-then-not-is_part-2 : goal.returns-then-not-is_part-2
returns-then-not-is_part-2 c =
    let part_is : c.cross_product-2.result ≡ part_of_other c.args.one c.args.other = cc in
    let all_is : c.cross_product-whole.result ≡ whole c.args.one c.args.other = cc in
    apart_other c.args.one c.args.other c.cross_product-2.result c.cross_product-whole.result part_is all_is (search rules)

pub returns-then-whole-ne0 : goal.returns-then-whole-ne0
returns-then-whole-ne0 c =
    meet-of_crosses c.args.one c.args.other c.cross_product-whole.result c.cross_product.result c.cross_product-2.result
    (record { all_is = cc; first_is = cc; second_is = cc })
    (λ none. c.if-whole-ne0.true (ap (of_z w128) none)) (search rules) (search rules)

pub returns : goal.returns
returns c =
    let none : c.cross_product-whole.result ≡ pos 0 = search rules in
    along_tested c.args.one c.args.other c.cross_product-whole.result c.cross_product.result c.cross_product-2.result c.boxes_meet.result
    (record { all_is = cc; first_is = cc; second_is = cc })
    none (search rules) (search rules) c.boxes_meet.ensures
