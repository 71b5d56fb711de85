use Rattle.std.proofs.Common.{◌≡◌, pos, ap, sym, ◌∙◌, rules, of_z}
use Rattle.std.specs.Int.{w128}
use Rattle.plane.proofs.MeetLemmas.Shares.{whole}
use Rattle.plane.proofs.MeetLemmas.Kinds.{one-of_crossing, two-of_x, two_tested}
use Rattle.plane.proofs.meet.kinds.share_two.Goals as goal

pub returns-then-whole-ne0 : goal.returns-then-whole-ne0
returns-then-whole-ne0 c =
    let all_is : c.cross_product-whole.result ≡ whole c.args.one c.args.other = cc in
    one-of_crossing c.args.one c.args.other (λ none. c.if-whole-ne0.true (ap (of_z w128) (all_is ∙ none)))

pub returns-then-ranges_overlap : goal.returns-then-ranges_overlap
returns-then-ranges_overlap c =
    let all_is : c.cross_product-whole.result ≡ whole c.args.one c.args.other = cc in
    let none : c.cross_product-whole.result ≡ pos 0 = search rules in
    two-of_x c.args.one c.args.other c.requires (sym all_is ∙ none) (search rules)

pub returns : goal.returns
returns c =
    let all_is : c.cross_product-whole.result ≡ whole c.args.one c.args.other = cc in
    let none : c.cross_product-whole.result ≡ pos 0 = search rules in
    two_tested c.args.one c.args.other c.ranges_overlap-2.result c.requires (sym all_is ∙ none) (search rules) (search rules)
